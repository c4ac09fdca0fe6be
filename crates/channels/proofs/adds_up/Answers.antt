-- `channels::adds_up` meets its contract: what is left of n, and the lengths so far, add up to n. Assumes nothing.
use native.Mathlib.Omega.{arith}
use native.Mathlib.Numerals.{add-one}
use mathlib.Core.Path.{ap}
use lib.Seq.{take_all}
use Rattle.std.proofs.lemmas.Bool.Decides.{nat_tests}
use Rattle.channels.specs.Channels.{sum}
use Rattle.channels.proofs.ChannelLaws.{place_next, place_fits}
use Rattle.channels.proofs.adds_up.Goals as goal

pub returns-then-left-next : goal.returns-then-left-next
returns-then-left-next c = grind (arith, nat_tests, place_fits c.args.lengths.now c.loop-next.next-index c.loop-next-test.true)

pub loop-next-preserved : goal.loop-next-preserved
loop-next-preserved c = rw (add-one c.loop-next.next-index) (omega (arith, place_next c.args.lengths.now c.loop-next.next-index c.loop-next-test.true))

pub returns : goal.returns
returns c =
    let whole = ap sum (take_all c.loop-next.next-index c.args.lengths.now c.loop-next-test.false) in
    grind (arith, nat_tests)

-- `summed::adding::add` meets its contract: the first k sums are written. Assumes nothing.
use mathlib.Core.Path.{sym, ◌∙◌}
use native.Mathlib.Omega.{arith}
use borrow.Author.Rules.{rules}
use lib.IntN.{pos}
use Rattle.lists.proofs.PartLaws.{writing_more, writing_all}
use Rattle.trace.specs.Trace.{value}
use Rattle.summed.proofs.AddLaws.{short_fits, short_is}
use Rattle.summed.proofs.SumLaws.{sums_length, sums_value}
use Rattle.summed.proofs.adding.add.Goals as goal

pub overflow_add-sums : goal.overflow_add-sums
overflow_add-sums c =
    short_fits {v = value c.args.values1.now c.loop-k.k} {w = value c.args.values2.now c.loop-k.k} (record { sfits = search rules }) (record { sfits = search rules }) (c.requires.fits.none c.loop-k.k (omega arith) c.loop-k-test.true)

pub loop-k-preserved : goal.loop-k-preserved
loop-k-preserved c =
    let n = sums_length c.args.values1.now c.args.values2.now c.requires.same in
    writing_more c.loop-k.invariant (pos 0) (omega (arith, n, c.loop-k-test.true)) (omega (arith, n, c.requires.entries))
    (short_is {v = value c.args.values1.now c.loop-k.k} {w = value c.args.values2.now c.loop-k.k} (record { sfits = search rules }) (record { sfits = search rules }) (c.requires.fits.none c.loop-k.k (omega arith) c.loop-k-test.true) ∙ sym (sums_value c.args.values1.now c.args.values2.now c.requires.same c.loop-k.k))

pub returns : goal.returns
returns c = writing_all c.loop-k.invariant (omega (arith, c.loop-k-test.false, sums_length c.args.values1.now c.args.values2.now c.requires.same))

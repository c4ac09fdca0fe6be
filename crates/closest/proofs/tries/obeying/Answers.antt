-- `closest::tries::obeying` meets its contract: each turn writes one stop more, and the stops from i on complete the list. Assumes nothing.
use mathlib.Core.Path.{◌≡◌, refl}
use mathlib.Core.List.{List}
use Prim.Native.Nat.{ℕ, ◌-◌, ◌<◌}
use native.Mathlib.Omega.{arith}
use lib.ListN.{length}
use Rattle.kept.proofs.Filling.{filling_none, filling_more, filling_ends}
use Rattle.trace.specs.Link.{links_end}
use Rattle.closest.proofs.ClosestLaws.{obeying_stops, obeying_wrote}
use Rattle.closest.proofs.tries.obeying.Goals as goal

-- the next stop lies beyond its start and within the trace
stop : (ts : List ℕ) (gap : ℕ) {i k : ℕ} → i < length ts - 1 → k ≡ links_end ts gap i → (i < k) × (k < length ts)
stop ts gap {i} lt is =
    let b = obeying_stops ts gap i lt in
    (omega (arith, is, b.0), omega (arith, is, b.1, lt))

pub loop-i-init : goal.loop-i-init
loop-i-init c = filling_none _ _ c.args.out.now refl (omega (arith, c.requires))

pub overflow_cast-out : goal.overflow_cast-out
overflow_cast-out c = omega (arith, stop c.args.ticks.now c.args.gap c.loop-i-test.true c.links_end-i.ensures, c.requires.0.few)

pub loop-i-smaller : goal.loop-i-smaller
loop-i-smaller c = omega (arith, stop c.args.ticks.now c.args.gap c.loop-i-test.true c.links_end-i.ensures, c.loop-i-test.true)

pub loop-i-preserved : goal.loop-i-preserved
loop-i-preserved c = filling_more c.loop-i.invariant (obeying_stops c.args.ticks.now _) c.loop-i-test.true c.links_end-i.ensures

pub returns : goal.returns
returns c = obeying_wrote _ _ (filling_ends c.loop-i.invariant c.args.out.now refl c.loop-i-test.false)

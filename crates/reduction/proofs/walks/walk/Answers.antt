-- `reduction::walks::walk` meets its contract. The loops' invariant: the list so far and the stops to come are walk's list; links from sample i, while it lies before `limit`, end there. Assumes nothing.
use mathlib.Core.Path.{refl}
use native.Mathlib.Omega.{arith}
use Rattle.kept.proofs.Filling.{filling_none, filling_more, walk_bounds, walk_filled}
use Rattle.trace.proofs.Holes.{links_end_after}
use Rattle.trace.proofs.Validity.{steps_valid}
use Rattle.reduction.proofs.ReductionLaws.{ending_begins, ending_goes_on}
use Rattle.reduction.proofs.walks.walk.Goals as goal

pub loop-i-init : goal.loop-i-init
loop-i-init c = filling_none _ _ c.args.out.now refl (omega (arith, c.requires))

pub loop-i-2-init : goal.loop-i-2-init
loop-i-2-init c = record { filling = c.loop-i.invariant; ending = ending_begins (omega arith) c.links_end-limit.ensures }

pub loop-i-2-preserved : goal.loop-i-2-preserved
loop-i-2-preserved c =
    let inv = c.loop-i-2.invariant in
    record {
      filling = filling_more inv.filling (walk_bounds _ _ (steps_valid _ _ _)) (omega arith) c.stop_after-i.ensures.stop;
      ending = ending_goes_on inv.ending c.loop-i-2-test.true (omega (arith, c.stop_after-i.ensures.bounds.0));
    }

pub loop-i-smaller : goal.loop-i-smaller
loop-i-smaller c = omega (arith, links_end_after c.args.ticks.now c.args.c.gap c.loop-i.i (omega arith))

pub returns : goal.returns
returns c = walk_filled _ _ c.loop-i.invariant c.args.out.now refl c.loop-i-test.false

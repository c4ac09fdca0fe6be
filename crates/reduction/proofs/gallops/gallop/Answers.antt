-- `reduction::gallops::gallop` meets its contract. The loops' invariant: the list so far and the stops to come are gallop's list, and so for the probes; links from sample i, while it lies before `limit`, end there. Assumes nothing.
use mathlib.Core.Path.{refl}
use native.Mathlib.Omega.{arith}
use Rattle.kept.proofs.Filling.{galloping_none, galloping_more, galloping_ends}
use Rattle.trace.proofs.Holes.{links_end_after}
use Rattle.trace.proofs.Validity.{steps_valid}
use Rattle.reduction.proofs.ReductionLaws.{ending_begins, ending_goes_on}
use Rattle.reduction.proofs.gallops.gallop.Goals as goal

pub loop-i-init : goal.loop-i-init
loop-i-init c = galloping_none _ _ c.args.out.now refl (omega (arith, c.requires))

pub loop-i-2-init : goal.loop-i-2-init
loop-i-2-init c = record { galloping = c.loop-i.invariant; ending = ending_begins (omega arith) c.links_end-limit.ensures }

pub loop-i-2-preserved : goal.loop-i-2-preserved
loop-i-2-preserved c =
    let inv = c.loop-i-2.invariant in
    record {
      galloping = galloping_more inv.galloping (steps_valid _ _ _) (omega arith) _ c.search-s.ensures.finds;
      ending = ending_goes_on inv.ending c.loop-i-2-test.true (omega (arith, c.search-s.ensures.bounds.0));
    }

pub loop-i-smaller : goal.loop-i-smaller
loop-i-smaller c = omega (arith, links_end_after c.args.ticks.now c.args.c.gap c.loop-i.i (omega arith))

pub returns : goal.returns
returns c =
    let f = galloping_ends c.loop-i.invariant c.args.out.now refl c.loop-i-test.false in
    record { wrote = f.0; probes = f.1 }

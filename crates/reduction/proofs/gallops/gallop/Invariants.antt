-- `reduction::gallops::gallop` meets its contract. The loops' invariant: the list so far and the stops to come are gallop's list, and so for the probes; links from sample i, while it lies before `limit`, end there. Assumes nothing.
use Prim.Native.Nat.{◌-◌}
use lib.ListN.{set}
use Rattle.kept.proofs.Filling.{Galloping}
use Rattle.trace.specs.Link.{valid}
use Rattle.reduction.proofs.ReductionLaws.{Ending}
use Rattle.reduction.proofs.gallops.gallop.Given as goal

abbrev pub invariant-loop-i : goal.invariant-loop-i
invariant-loop-i l = Galloping (valid l.ticks l.values l.c) l.last (set l.fn.out 0 0) l.out l.kept l.i l.probes

abbrev pub decreases-loop-i : goal.decreases-loop-i
decreases-loop-i l = l.last - l.i

abbrev pub invariant-loop-i-2 : goal.invariant-loop-i-2
invariant-loop-i-2 l =
    record {
      galloping : Galloping (valid l.ticks l.values l.c) l.last (set l.fn.out 0 0) l.out l.kept l.i l.probes;
      ending : Ending l.ticks l.c.gap l.i l.limit;
    }

abbrev pub decreases-loop-i-2 : goal.decreases-loop-i-2
decreases-loop-i-2 l = l.limit - l.i

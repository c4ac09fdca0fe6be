-- `reduction::walks::walk` meets its contract. The loops' invariant: the list so far and the stops to come are walk's list; links from sample i, while it lies before `limit`, end there. Assumes nothing.
use Prim.Native.Nat.{◌-◌}
use lib.ListN.{set}
use Rattle.kept.specs.Walk.{walk_stop}
use Rattle.kept.proofs.Filling.{Filling}
use Rattle.trace.specs.Link.{valid}
use Rattle.reduction.proofs.ReductionLaws.{Ending}
use Rattle.reduction.proofs.walks.walk.Given as goal

abbrev pub invariant-loop-i : goal.invariant-loop-i
invariant-loop-i l = Filling (walk_stop (valid l.ticks l.values l.c) l.last) l.last (set l.fn.out 0 0) l.out l.kept l.i

abbrev pub decreases-loop-i : goal.decreases-loop-i
decreases-loop-i l = l.last - l.i

abbrev pub invariant-loop-i-2 : goal.invariant-loop-i-2
invariant-loop-i-2 l =
    record {
      filling : Filling (walk_stop (valid l.ticks l.values l.c) l.last) l.last (set l.fn.out 0 0) l.out l.kept l.i;
      ending : Ending l.ticks l.c.gap l.i l.limit;
    }

abbrev pub decreases-loop-i-2 : goal.decreases-loop-i-2
decreases-loop-i-2 l = l.limit - l.i

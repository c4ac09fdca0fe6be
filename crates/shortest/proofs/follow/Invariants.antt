-- `shortest::follow` meets its contract: each turn writes one stop more, and the stops from i on complete the list. Assumes nothing.
use Prim.Native.Nat.{◌-◌}
use lib.ListN.{get_or}
use Rattle.kept.proofs.Filling.{Filling}
use Rattle.shortest.proofs.follow.Given as goal

abbrev pub invariant-loop-i : goal.invariant-loop-i
invariant-loop-i l = Filling (λ k. get_or l.next k 0) l.last l.initial.out l.out l.count l.i

abbrev pub decreases-loop-i : goal.decreases-loop-i
decreases-loop-i l = l.last - l.i

-- `summed::joining::join` meets its contract: the samples below `next` are joined. Assumes nothing.
use Prim.Native.Nat.{◌-◌}
use Rattle.summed.proofs.JoinLaws.{Joining}
use Rattle.summed.proofs.joining.join.Given as goal

abbrev pub invariant-loop-next : goal.invariant-loop-next
invariant-loop-next l = Joining l.n l.list1 l.list2 l.initial.joined l.joined l.i l.j l.count l.next

abbrev pub decreases-loop-next : goal.decreases-loop-next
decreases-loop-next l = l.n - l.next

-- `ratio::farey::neighbours` meets its contract: the loop has a bracket of p/q, and each step adds to its denominators. Assumes nothing.
use Prim.Native.Nat.{◌+◌, ◌-◌}
use Rattle.ratio.specs.Farey.{Begun}
use Rattle.ratio.proofs.farey.neighbours.Given as goal

abbrev pub invariant-loop-w : goal.invariant-loop-w
invariant-loop-w l = Begun l.p l.q l.limit l.w

abbrev pub decreases-loop-w : goal.decreases-loop-w
decreases-loop-w l = l.limit + 1 - (l.w.left.q + l.w.right.q)

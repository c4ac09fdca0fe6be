-- `probing::bisect` meets its contract. The loop's invariant: the bisection from here on is the whole bisection. Assumes nothing.
use Prim.Native.Nat.{◌-◌}
use Rattle.probing.proofs.ProbingLaws.{Narrowing}
use Rattle.probing.proofs.bisect.Given as goal

abbrev pub invariant-loop-s : goal.invariant-loop-s
invariant-loop-s l = Narrowing l.ticks l.values l.c l.initial.s l.s l.high

abbrev pub decreases-loop-s : goal.decreases-loop-s
decreases-loop-s l = l.high - l.s.low

-- `probing::double` meets its contract. The loop's invariant: the doubling from here on is the whole doubling. Assumes nothing.
use Prim.Native.Nat.{◌-◌}
use lib.ListN.{length}
use Rattle.probing.proofs.ProbingLaws.{Raising}
use Rattle.probing.proofs.double.Given as goal

abbrev pub invariant-loop-c : goal.invariant-loop-c
invariant-loop-c l = Raising l.ticks l.values l.c l.i l.s l.high

abbrev pub decreases-loop-c : goal.decreases-loop-c
decreases-loop-c l = length l.ticks - l.s.low

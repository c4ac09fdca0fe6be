-- `tolerances::hold_each` meets its contract. Assumes nothing.
use Rattle.tolerances.proofs.TolerancesLaws.{HoldingTo}
use Rattle.tolerances.proofs.hold_each.Given as goal

abbrev pub invariant-loop-k : goal.invariant-loop-k
invariant-loop-k l = HoldingTo l.t l.k l.parts

-- `scans::passes::take_in` meets its contract: each turn leaves the other tolerances alone. Assumes nothing.
use Rattle.scans.proofs.PassLaws.{Taking}
use Rattle.scans.proofs.passes.take_in.Given as goal

abbrev pub invariant-loop-walk : goal.invariant-loop-walk
invariant-loop-walk l = Taking l.step l.initial.walks l.initial.out l.walk-index l.walks l.out

-- `pedestals::checks::check_channels` meets its contract: the loop has passed the channels before c. Assumes nothing.
use Rattle.pedestals.specs.Compare.{lent}
use Rattle.pedestals.proofs.CheckLaws.{Checking}
use Rattle.pedestals.proofs.checks.check_channels.Given as goal

abbrev pub invariant-loop-c : goal.invariant-loop-c
invariant-loop-c l = Checking (lent l.today) (lent l.earlier) l.at l.c

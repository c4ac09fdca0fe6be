-- `summed::check` meets its contract. Assumes nothing.
use mathlib.Core.Path.{sym}
use Rattle.summed.proofs.RowLaws.{same_counts}
use Rattle.summed.proofs.check.Goals as goal

pub check-requires-6 : goal.check-requires-6
check-requires-6 c = same_counts _ _ _ _ (sym c.in_ok-check.ensures) (sym c.in_ok-check-2.ensures) (sym c.in_ok-check-5.ensures)

-- `expanding::expand_with::expand_with` meets its contract: a table that the checks pass has 256 values. Assumes nothing.
use Rattle.std.proofs.Common.{sym}
use Rattle.codes.proofs.RangeTableLaws.{fine_rises}
use Rattle.codes.proofs.RowLaws.{fine_with}
use Rattle.expanding.proofs.expand_with.expand_with.Goals as goal

pub expand_by-requires : goal.expand_by-requires
expand_by-requires c =
    let fine = fine_with _ _ _ (sym c.in_ok-check.ensures) in
    ((fine_rises _ fine.0).0, fine.1)

-- The rows of least (document 01, "When the engine declines"; document 02, "Dropouts").
--   allowance_row, holes_row   rows 5 and 16
--   least_rows, allowed_rows   the first of the rows 1, 2, 3, 15, 5, 16, 10 that applies; of the last four
-- Laws are in RowLaws. Assumes nothing.
use Rattle.std.specs.Prelude.{◌&&◌, List, ℕ, leb, ℤ, length}
use Rattle.refusal.specs.declared.Refusal.TheVariants.{Allowance, Holes}
use Rattle.refusal.specs.Table.{row, room_row, ◌then_check◌, Checked}
use Rattle.trace.specs.Trace.{trace_rows}
use Rattle.limits.specs.Prepare.{gap_row}
use Rattle.closest.specs.Closest.{fewest_samples}

-- 5: allowance below 2 or above 4,096
abbrev pub allowance_row : ℕ → Checked
allowance_row m = row (leb 2 m && leb m 4096) Allowance

-- 16: every kept list that obeys the gap limit has more than m samples
abbrev pub holes_row : List ℕ → ℕ → ℕ → Checked
holes_row ts g m = row (leb (fewest_samples ts g) m) Holes

unfoldable pub allowed_rows : List ℕ → ℕ → ℕ → ℕ → Checked
allowed_rows ts g m room = gap_row g then_check allowance_row m then_check holes_row ts g m then_check room_row (length ts) room

-- traces here have at most 256 samples
unfoldable pub least_rows : List ℕ → List ℤ → ℕ → ℕ → ℕ → Checked
least_rows ts vs g m room = trace_rows 256 ts vs then_check allowed_rows ts g m room

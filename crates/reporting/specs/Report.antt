-- The outcome of the report on a crate (document 02, "Whole-crate report").
--   crate_rows      the first of the rows 11, 4, 15, 10 that applies
--   report_rows     a row for each channel: each depends on the channel's own trace and on the limits alone (`row_of`)
--   ReportCounted   what holds where the report is made
--   ReportOutcome   the contract, by cases on the answer
--   Made            a sheet: whatever list it is written over, the report is made
--   Surveyed        the report by value, by cases on the answer
-- A refused call leaves the lent list as it was. Otherwise its first entries are the rows, and the others stay.
-- Assumes nothing.
use Rattle.std.specs.Prelude.{◌≡◌, List, ℕ, ℤ, length, Err, Ok, Result}
use Rattle.lists.specs.Overwrite.{overwrite}
use Rattle.refusal.specs.Table.{room_row, ◌then_check◌, Checked}
use Rattle.limits.specs.declared.Limits.{Limits}
use Rattle.sheet.specs.declared.Summary.{Summary}
use Rattle.sheet.specs.declared.Totals.{Totals}
use Rattle.sheet.specs.declared.Sheet.{Sheet}
use Rattle.channels.specs.Channels.{crate_row}
use Rattle.sheet.specs.Report.{rows_from, totals_of, Fits, filled}
use Rattle.limits.specs.Prepare.{criterion_of, limit_rows}
use Rattle.refusal.specs.declared.Refusal.{Refusal}

unfoldable pub crate_rows : List ℕ → List ℤ → List ℕ → Limits → ℕ → Checked
crate_rows ts vs ls t room = crate_row ts vs ls then_check limit_rows t then_check room_row (length ls) room

abbrev pub report_rows : List ℕ → List ℤ → List ℕ → Limits → List Summary
report_rows ts vs ls t = rows_from (criterion_of t) ts vs 0 ls

pub record ReportCounted (ts : List ℕ) (vs : List ℤ) (ls : List ℕ) (t : Limits) (o : List Summary) (k : Totals) (o' : List Summary) : Type 0 where
  pub rows : crate_rows ts vs ls t (length o) ≡ Ok tt
  pub content : o' ≡ overwrite (report_rows ts vs ls t) o
  pub totals : k ≡ totals_of (report_rows ts vs ls t)

abbrev pub ReportOutcome : List ℕ → List ℤ → List ℕ → Limits → List Summary → Result Totals Refusal → List Summary → Type 0
ReportOutcome ts vs ls t o (Ok k) o' = ReportCounted ts vs ls t o k o'
ReportOutcome ts vs ls t o (Err x) o' = (crate_rows ts vs ls t (length o) ≡ Err x) × (o' ≡ o)

-- what is written over any list of that many entries
pub record Made (ts : List ℕ) (vs : List ℤ) (ls : List ℕ) (t : Limits) (room : ℕ) (s : Sheet) : Type 0 where
  pub fits : Fits s room
  pub outcome : (o : List Summary) → length o ≡ room → ReportCounted ts vs ls t o s.totals (filled s o)

abbrev pub Surveyed : List ℕ → List ℤ → List ℕ → Limits → ℕ → Result Sheet Refusal → Type 0
Surveyed ts vs ls t room (Ok s) = Made ts vs ls t room s
Surveyed ts vs ls t room (Err x) = crate_rows ts vs ls t room ≡ Err x

-- The checks of a trace and its limits, a tolerance and a gap limit, which several calls have in common (document 01, "When the engine declines";
-- document 02, "Dropouts").
--   unlimited                     the limits of a tolerance alone: the gap limit is at its largest
--   tolerance_row, gap_row        rows 4 and 15
--   limit_rows                    the first of the rows 4, 15 that applies
--   common_rows                   the first of the rows 1, 2, 3, 4, 15 that applies
--   criterion_in, criterion_of    the criterion that a meaning under a gap limit, that limits set
--   parts_of                      the parts of a criterion
--   Sets, Allowed                 what the checks 4 and 15 give: the criterion that allowed limits set, or the row
--   ReadyAt, Prepared             what the checks 1 to 4 and 15 give: a trace and that criterion, or the row
--   output_rows                   the first of the rows 1, 2, 3, 4, 15, 10 that applies, for a list that needs as many entries as the trace has samples
--   OutputReady, OutputPrepared   what these checks give
-- Assumes nothing.
use Rattle.std.specs.Prelude.{◌≡◌, ◌&&◌, List, ℕ, ◌≤◌, leb, ℤ, length, Err, None, Ok, Option, Result, Some}
use Rattle.ratio.specs.Order.{over}
use Rattle.refusal.specs.declared.Refusal.TheVariants.{Gap}
use Rattle.refusal.specs.Table.{NotAllowedTolerance, row, room_row, ◌then_check◌, Checked}
use Rattle.tolerance.specs.declared.Tolerance.{Tolerance}
use Rattle.tolerance.specs.declared.Parts.{Parts}
use Rattle.tolerance.specs.Meaning.{meaning}
use Rattle.trace.specs.declared.Criterion.{Criterion}
use Rattle.trace.specs.Trace.{Trace, trace_rows}
use Rattle.trace.specs.Link.{parted, limited, Bounded}
use Rattle.limits.specs.declared.Limits.{Limits}
use Rattle.refusal.specs.declared.Refusal.{Refusal}

abbrev pub unlimited : Tolerance → Limits
unlimited t = record { tolerance = t; gap = 1048575 }

-- 4: tolerance not allowed
abbrev pub tolerance_row : Option Parts → Checked
tolerance_row (Some x) = Ok tt
tolerance_row None = Err NotAllowedTolerance

-- 15: gap limit out of range
abbrev pub gap_row : ℕ → Checked
gap_row g = row (leb 1 g && leb g 1048575) Gap

abbrev pub limit_rows : Limits → Checked
limit_rows t = tolerance_row (meaning t.tolerance) then_check gap_row t.gap

unfoldable pub common_rows : List ℕ → List ℤ → Limits → Checked
common_rows ts vs t = trace_rows 4096 ts vs then_check limit_rows t

-- 0 where the tolerance is not allowed, which no answer depends on
abbrev pub criterion_in : ℕ → Option Parts → Criterion
criterion_in g (Some x) = parted g x.up x.down
criterion_in g None = limited g (over 0 1)

unfoldable pub criterion_of : Limits → Criterion
criterion_of t = criterion_in t.gap (meaning t.tolerance)

abbrev pub parts_of : Criterion → Parts
parts_of c = record { up = c.up; down = c.down }

-- c is the criterion that t, allowed limits, sets
pub record Sets (t : Limits) (c : Criterion) : Type 0 where
  pub row : limit_rows t ≡ Ok tt
  pub is : c ≡ criterion_of t
  pub bounded : Bounded c

abbrev pub Allowed : Limits → Result Criterion Refusal → Type 0
Allowed t (Ok c) = Sets t c
Allowed t (Err x) = limit_rows t ≡ Err x

-- a trace, and the criterion of allowed limits
pub record ReadyAt (ts : List ℕ) (vs : List ℤ) (t : Limits) (c : Criterion) : Type 0 where
  pub rows : common_rows ts vs t ≡ Ok tt
  pub trace : Trace ts vs
  pub is : c ≡ criterion_of t
  pub bounded : Bounded c

abbrev pub Prepared : List ℕ → List ℤ → Limits → Result Criterion Refusal → Type 0
Prepared ts vs t (Ok c) = ReadyAt ts vs t c
Prepared ts vs t (Err x) = common_rows ts vs t ≡ Err x

unfoldable pub output_rows : List ℕ → List ℤ → Limits → ℕ → Checked
output_rows ts vs t room = common_rows ts vs t then_check room_row (length ts) room

-- a trace, the criterion of allowed limits, and room for the output
pub record OutputReady (ts : List ℕ) (vs : List ℤ) (t : Limits) (room : ℕ) (c : Criterion) : Type 0 where
  pub rows : output_rows ts vs t room ≡ Ok tt
  pub ready : ReadyAt ts vs t c
  pub room_is : length ts ≤ room

abbrev pub OutputPrepared : List ℕ → List ℤ → Limits → ℕ → Result Criterion Refusal → Type 0
OutputPrepared ts vs t room (Ok c) = OutputReady ts vs t room c
OutputPrepared ts vs t room (Err x) = output_rows ts vs t room ≡ Err x

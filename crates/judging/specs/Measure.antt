-- The outcome of `measure` (document 02, "Where the line strays").
--   own_rows          the first of the rows 1, 2, 3 that applies to ticks and values
--   measure_rows      the first of the rows 1, 2, 3, 6 that applies
--   measured_by       what `measure` answers
--   MeasureOutcome    its contract
-- Assumes nothing.
use Rattle.std.specs.Prelude.{◌≡◌, List, ℕ, ℤ, length, Result, Ok}
use Rattle.refusal.specs.Table.{◌then_check◌, Checked}
use Rattle.measures.specs.declared.Measure.{Measure}
use Rattle.trace.specs.Trace.{trace_rows}
use Rattle.trace.specs.Link.{Linked}
use Rattle.measures.specs.Measure.{measure_of, Strays}
use Rattle.proposed.specs.Proposed.{ends_row}
use Rattle.refusal.specs.declared.Refusal.{Refusal}

-- a trace has at most 4,096 samples
abbrev pub own_rows : List ℕ → List ℤ → Checked
own_rows ts vs = trace_rows 4096 ts vs

unfoldable pub measure_rows : List ℕ → List ℤ → ℕ → ℕ → Checked
measure_rows ts vs i j = own_rows ts vs then_check ends_row (length ts) i j

unfoldable pub measured_by : List ℕ → List ℤ → ℕ → ℕ → Result Measure Refusal
measured_by ts vs i j = measure_rows ts vs i j then_check Ok (measure_of ts vs i j)

-- What is measured is a link of a trace; its sample deviates by the error, none before it does, and its side is the deviation's sign.
pub record MeasureOutcome (ts : List ℕ) (vs : List ℤ) (i j : ℕ) (r : Result Measure Refusal) : Type 0 where
  pub is : r ≡ measured_by ts vs i j
  pub strays : (m : Measure) → r ≡ Ok m → Linked ts vs i j × Strays ts vs i j m

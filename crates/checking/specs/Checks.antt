-- The outcomes of the checks of lent lists (document 01, "When the engine declines", rows 1, 2 and 3; document 02, "Whole-crate report", row 11).
--   own_rows       the first of the rows 1, 2, 3 that applies to ticks and values, from the crate `judging`
--   TraceOutcome   the contract of `check_trace`: that row; where none applies, the two lists are a trace
--   CrateOutcome   the contract of `check_crate`: row 11; where it does not apply, the lengths divide the two lists
-- Assumes nothing.
use Rattle.std.specs.Prelude.{◌≡◌, List, ℕ, ℤ, Ok}
use Rattle.channels.specs.Channels.{crate_row, Divided}
use Rattle.trace.specs.Trace.{Trace}
use Rattle.refusal.specs.Table.{Checked}
pub use Rattle.judging.specs.Measure.{own_rows}

pub record TraceOutcome (ts : List ℕ) (vs : List ℤ) (r : Checked) : Type 0 where
  pub is : r ≡ own_rows ts vs
  pub trace : r ≡ Ok tt → Trace ts vs

pub record CrateOutcome (ts : List ℕ) (vs : List ℤ) (ls : List ℕ) (r : Checked) : Type 0 where
  pub is : r ≡ crate_row ts vs ls
  pub divided : r ≡ Ok tt → Divided ts vs ls

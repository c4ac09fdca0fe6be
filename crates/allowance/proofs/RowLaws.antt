-- Laws of the rows of least: when each applies, and what holds where none does.
-- Assumes nothing.
use Rattle.std.specs.Prelude.{Err, Ok}
use mathlib.Core.Path.{◌≡◌}
use mathlib.Core.List.{List}
use mathlib.Core.Logic.{◌↔◌}
use Prim.Native.Nat.{ℕ, ◌-◌, ◌≤◌, ◌<◌}
use native.Mathlib.Omega.{arith}
use lib.IntN.{ℤ}
use lib.ListN.{length}
use borrow.Author.Tests.{lt-leb, leb-true, leb-false}
use Rattle.lists.proofs.Tests.{and_first}
use Rattle.refusal.specs.declared.Refusal.TheVariants.{Holes}
use Rattle.refusal.proofs.TableLaws.{row_fine, row_false, then_fine}
use Rattle.kept.specs.Kept.{KeptList, AllValid}
use Rattle.trace.specs.Trace.{Trace, trace_rows}
use Rattle.trace.specs.Link.{obeys}
use Rattle.trace.proofs.TraceLaws.{rows_trace}
use Rattle.limits.specs.Prepare.{gap_row}
use Rattle.closest.specs.Closest.{fewest_samples, Task}
use Rattle.closest.proofs.ClosestLaws.{none_fits}
use Rattle.allowance.specs.Rows.{allowance_row, holes_row, allowed_rows, least_rows}

-- row 16 applies exactly if every kept list that obeys the gap limit has more than m samples
pub holes_exact : (ts : List ℕ) (g m : ℕ) → holes_row ts g m ≡ Err Holes ↔ ((h : List ℕ) → KeptList (length ts - 1) h → AllValid (obeys ts g) h → m < length h)
holes_exact ts g m = (
  λ e. (none_fits ts g m).0 (leb-false (fewest_samples ts g) m (row_false _ _ e)),
  λ f. rw (lt-leb (fewest_samples ts g) m ((none_fits ts g m).1 f)),
)

module _ (ts : List ℕ) (vs : List ℤ) (g m room : ℕ) where
  module _ (e : least_rows ts vs g m room ≡ Ok tt) where
    pub least_task : Task ts vs g m × (length ts ≤ room)
    unfolding least_rows allowed_rows
    least_task =
        let a = then_fine (trace_rows 256 ts vs) _ e in
        let b = then_fine (gap_row g) _ a.1 in
        let c = then_fine (allowance_row m) _ b.1 in
        let d = then_fine (holes_row ts g m) _ c.1 in
        let t = rows_trace 256 ts vs (omega arith) a.0 in (
          record { trace = t.0; few = t.1; two = leb-true 2 m (and_first _ _ (row_fine _ _ c.0)); fits = leb-true _ _ (row_fine _ _ d.0) },
          leb-true _ _ (row_fine _ _ d.1),
        )

pub trace_256 : (ts : List ℕ) (vs : List ℤ) → trace_rows 256 ts vs ≡ Ok tt → Trace ts vs × (length ts ≤ 256)
trace_256 ts vs e = rows_trace 256 ts vs (omega arith) e

-- The outcome of least, from what its checks and its search give.
-- Assumes nothing.
use Rattle.std.specs.Prelude.{Ok}
use mathlib.Core.Path.{◌≡◌}
use mathlib.Core.List.{List}
use Prim.Native.Nat.{ℕ, ◌-◌}
use lib.IntN.{ℤ}
use lib.ListN.{length}
use Rattle.lists.specs.Overwrite.{Wrote}
use Rattle.kept.specs.Minimum.{minimum_of}
use Rattle.kept.proofs.LeastLaws.{least_error_lem}
use Rattle.trace.specs.Link.{criterion, Bounded}
use Rattle.trace.proofs.Errors.{trace_measures}
use Rattle.closest.specs.declared.Found.{Found}
use Rattle.closest.specs.Closest.{least_error, obeying_list}
use Rattle.allowance.specs.Rows.{least_rows}
use Rattle.closest.proofs.ClosestLaws.{obeying_kept, obeying_obeys}
use Rattle.allowance.proofs.RowLaws.{least_task}
use Rattle.engine.specs.Least.{ok_at, LeastKept}

pub least_kept : {ts : List ℕ} {vs : List ℤ} {g m : ℕ} {o o' : List ℕ} {f : Found} → least_rows ts vs g m (length o) ≡ Ok tt → f.error ≡ least_error ts vs g m
    → Bounded (criterion f.error) → Wrote (minimum_of (ok_at ts vs g f.error) (length ts - 1)) o f.kept o' → LeastKept ts vs g m o f o'
least_kept {ts} {vs} {g} {m} {o} rows e b w =
    let t = (least_task ts vs g m (length o) rows).0 in
    record {
      rows = rows;
      error = e;
      allowed = b;
      wrote = w;
      list = rw e (least_error_lem (trace_measures t.trace g) m t.two (obeying_list ts g) (obeying_kept ts g) (obeying_obeys ts g) t.fits);
    }

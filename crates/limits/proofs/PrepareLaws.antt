-- Laws of the checks 1 to 4 and 15.
-- Assumes nothing.
use Rattle.std.specs.Prelude.{Err, None, Ok, Option, Result, Some}
use mathlib.Core.Path.{◌≡◌, refl}
use mathlib.Core.List.{List}
use Prim.Native.Nat.{ℕ, ◌≤◌}
use native.Mathlib.Omega.{arith}
use lib.IntN.{ℤ}
use lib.ListN.{length}
use borrow.Author.Tests.{le-leb}
use Rattle.ratio.specs.declared.Ratio.{Ratio}
use Rattle.refusal.specs.declared.Refusal.{Refusal}
use Rattle.refusal.proofs.TableLaws.{then_fine}
use Rattle.limits.specs.declared.Limits.{Limits}
use Rattle.tolerance.specs.declared.Parts.{Parts}
use Rattle.tolerance.specs.Meaning.{meaning, Held, HeldParts}
use Rattle.tolerance.proofs.Meanings.{exact_held}
use Rattle.trace.specs.declared.Criterion.{Criterion}
use Rattle.trace.specs.Trace.{Trace, trace_rows}
use Rattle.trace.specs.Link.{parted, Bounds}
use Rattle.trace.proofs.TraceLaws.{rows_trace}
use Rattle.limits.specs.Prepare.{tolerance_row, gap_row, limit_rows, common_rows, criterion_in, criterion_of, parts_of, Sets, Allowed, ReadyAt, Prepared, output_rows, OutputReady}

-- the numbers of a held tolerance
held_bounds : {r : Ratio} → Held r → Bounds r
held_bounds h = record { positive = h.positive; q_bound = h.q_bound; p_bound = h.p_bound }

-- an allowed tolerance and an allowed gap limit set the criterion of its parts under it, within the bounds of an allowed one
pub exact_sets : (t : Limits) {x : Parts} → meaning t.tolerance ≡ Some x → gap_row t.gap ≡ Ok tt → Sets t (parted t.gap x.up x.down)
unfolding criterion_of
exact_sets t {x} e fine =
    let h = exact_held t.tolerance x e in
    record { row = rw e fine; is = rw e; bounded = record { up = held_bounds h.up; down = held_bounds h.down } }

-- the parts that allowed limits set are held in lowest terms
pub limits_held : (t : Limits) → limit_rows t ≡ Ok tt → HeldParts (parts_of (criterion_of t))
unfolding criterion_of
limits_held t e = go (meaning t.tolerance) refl (then_fine (tolerance_row (meaning t.tolerance)) _ e).0
  where
    go : (m : Option Parts) → meaning t.tolerance ≡ m → tolerance_row m ≡ Ok tt → HeldParts (parts_of (criterion_in t.gap m))
    go (Some x) q e = exact_held t.tolerance x q
    go None q e = let z : ◌≡◌ {A = ℕ} 0 1 = cc in absurd (omega arith)

pub common_trace : (ts : List ℕ) (vs : List ℤ) (t : Limits) → common_rows ts vs t ≡ Ok tt → Trace ts vs
unfolding common_rows
common_trace ts vs t e = (rows_trace 4096 ts vs (omega arith) (then_fine (trace_rows 4096 ts vs) _ e).0).0

-- the limits are asked where the trace passes
pub sets_ready : (ts : List ℕ) (vs : List ℤ) (t : Limits) {c : Criterion} → trace_rows 4096 ts vs ≡ Ok tt → Sets t c → ReadyAt ts vs t c
unfolding common_rows
sets_ready ts vs t e a = record { rows = rw e a.row; trace = (rows_trace 4096 ts vs (omega arith) e).0; is = a.is; bounded = a.bounded }

pub trace_fine : (ts : List ℕ) (vs : List ℤ) (t : Limits) (r : Result Criterion Refusal) → trace_rows 4096 ts vs ≡ Ok tt → Allowed t r → Prepared ts vs t r
unfolding common_rows
trace_fine ts vs t (Ok c) e a = sets_ready ts vs t e a
trace_fine ts vs t (Err x) e a = rw e a

-- room is asked where the checks 1 to 4 and 15 pass
module _ (ts : List ℕ) (vs : List ℤ) (t : Limits) (room : ℕ) where
  pub room_fine : {c : Criterion} → ReadyAt ts vs t c → length ts ≤ room → OutputReady ts vs t room c
  unfolding output_rows
  room_fine r le = record { rows = rw (r.rows, le-leb (length ts) room le); ready = r; room_is = le }

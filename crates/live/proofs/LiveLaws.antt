-- Laws of an addition: a state that passes the checks is ready, the state that the stores make is the one defined, and what holds of it.
-- Assumes nothing.
use Rattle.std.specs.Prelude.{Ok, Err}
use mathlib.Core.Path.{◌≡◌, refl, sym, ap}
use mathlib.Core.Logic.{◌↔◌}
use mathlib.Core.Bool.{true, ◌&&◌}
use mathlib.Core.List.{List, [], ◌∷◌, ◌++◌}
use Prim.Native.Nat.{ℕ, suc, ◌+◌, ◌-◌, ◌*◌, ◌≤◌, ◌<◌}
use native.Mathlib.Numerals.{add-one}
use native.Mathlib.Omega.{arith}
use borrow.Author.Tests.{leb-true, le-leb, eqb-true}
use lib.Dec.{leb}
use lib.IntN.{ℤ}
use lib.ListN.{length, length-append}
use lib.Seq.{length-take-le, take-append_seam}
use Rattle.lists.specs.Overwrite.{overwrite}
use Rattle.lists.specs.First.{first}
use Rattle.lists.proofs.Tests.{and_first, and_second, true_false}
use Rattle.refusal.specs.declared.Refusal.TheVariants.{List as NoKeptList, View as NoView}
use Rattle.refusal.specs.Table.{row, placed, Checked}
use Rattle.refusal.proofs.TableLaws.{row_fine, then_fine, then_given}
use Rattle.kept.specs.Kept.{KeptList}
use Rattle.kept.proofs.SelectedLists.{kept_some}
use Rattle.trace.specs.Trace.{Trace, trace_rows}
use Rattle.trace.specs.Link.{link_error}
use Rattle.trace.proofs.TraceLaws.{rows_trace}
use Rattle.trace.proofs.Errors.{link_errors}
use Rattle.proposed.specs.Proposed.{entry, list_row, bad_at, end_row}
use Rattle.proposed.proofs.ProposedLaws.{row_kept}
use Rattle.views.specs.View.{cost, cheapest, without, view_with, view_of}
use Rattle.views.proofs.ViewLaws.{without_length, with_all, with_thinned, with_kept, with_length, view_twice}
use Rattle.live.specs.declared.View.{View}
use Rattle.live.specs.Live.{fresh, begun_of, entries, passes, is_view, state_row, add_rows, grown, Ready, Grown}
use Rattle.live.specs.Candidates.{with_last, Candidates}
use Rattle.live.proofs.LinkErrors.{steps_exact, errors_double}

-- ---- a view is begun

-- what it is begun with, where k is not refused
pub begun_view : (k : ℕ) {v : View} → begun_of k ≡ Ok v → v ≡ fresh k 1
unfolding begun_of
begun_view k e = sym (then_given (row (leb k 32) NoView) e).1

-- ---- the checks of a state

passes_fine : (c : Checked) → passes c ≡ true → c ≡ Ok tt
passes_fine (Ok _) e = refl
passes_fine (Err r) e = true_false refl (sym e)

row_some : (n : ℕ) (l : List ℕ) → list_row n l ≡ Ok tt → 1 ≤ n
unfolding list_row
row_some n l e =
    let a = then_fine (placed NoKeptList (length l) (first (bad_at n l) 0 (length l))) (end_row n l) e in
    omega (arith, eqb-true (entry l (length l - 1) + 1) n (and_second (leb 1 (length l)) _ (row_fine _ _ a.1)))

module _ (n : ℕ) (v : View) where
  -- it is not refused exactly if it is a view: k in range, at most 2k inner samples, and a kept list of the samples, of which there is one at least
  pub state_exact : state_row n v ≡ Ok tt ↔ (1 ≤ n) × (v.k ≤ 32) × (v.count ≤ 2 * v.k + 2) × KeptList (n - 1) (entries v)
  unfolding state_row is_view
  state_exact =
      let a = leb v.k 32 in
      let b = leb v.count (2 * v.k + 2) in
      let c = passes (list_row n (entries v)) in (
        λ e.
            let is : (a && b && c) ≡ true = row_fine (a && b && c) NoView e in
            let front : (a && b) ≡ true = and_first (a && b) c is in
            let row : list_row n (entries v) ≡ Ok tt = passes_fine _ (and_second (a && b) c is) in
            let some : 1 ≤ n = row_some n (entries v) row in
            (some, leb-true _ _ (and_first a b front), leb-true _ _ (and_second a b front), (row_kept some (entries v)).0 row),
        λ h. rw (le-leb _ _ h.1, le-leb _ _ h.2, (row_kept h.0 (entries v)).1 h.3),
      )

module _ {ts : List ℕ} {vs : List ℤ} where
  pub rows_are_trace : trace_rows 4096 ts vs ≡ Ok tt → Trace ts vs
  rows_are_trace e = (rows_trace 4096 ts vs (omega arith) e).0

  pub rows_ready : (v : View) → trace_rows 4096 ts vs ≡ Ok tt → state_row (length ts - 1) v ≡ Ok tt → Ready ts vs v
  rows_ready v checked view =
      let is = (state_exact (length ts - 1) v).0 view in
      let m : length ts - 2 ≡ length ts - 1 - 1 = omega arith in
      record { trace = rows_are_trace checked; earlier = omega (arith, is.0); kept = rw m is.3; range = is.1; inner = is.2 }

-- ---- the state that the stores make

module _ {ts : List ℕ} {vs : List ℤ} {v : View} (h : Ready ts vs v) (full : length v.samples ≡ 66) where
  ready_room : v.count ≤ length v.samples
  ready_room = omega (arith, h.range, h.inner)

  entries_length : length (entries v) ≡ v.count
  entries_length = length-take-le v.count v.samples ready_room

  pub ready_candidates : Candidates ts vs v.samples v.count
  ready_candidates = record {
    trace = h.trace;
    earlier = h.earlier;
    kept = h.kept;
    some = omega (arith, entries_length, kept_some (entries v) h.kept);
    room = ready_room;
  }

  pub grown_all : v.count < 2 * v.k + 2 → {r : View}
      → r ≡ record { k = v.k; count = v.count + 1; samples = overwrite (entries v ++ (length ts - 1) ∷ []) v.samples } → r ≡ grown ts vs v
  unfolding grown
  grown_all few is =
      let s : view_with (link_error ts vs) v.k (entries v) (length ts - 1) ≡ entries v ++ (length ts - 1) ∷ [] = with_all (link_error ts vs) v.k (length ts - 1) (entries v) (omega (arith, entries_length)) in
      let n : length (entries v ++ (length ts - 1) ∷ []) ≡ v.count + 1 = omega (arith, length-append (entries v) ((length ts - 1) ∷ []), entries_length) in
      rw (is, s) (ap {B = View} (λ (c : ℕ). record { k = v.k; count = c; samples = overwrite (entries v ++ (length ts - 1) ∷ []) v.samples }) (sym n))

  pub grown_thinned : 2 * v.k + 2 ≤ v.count → {at : ℕ} {r : View} → at ≡ cheapest (cost (link_error ts vs) (with_last ts v.samples v.count)) (v.count - 1) → at + 1 < v.count
      → r ≡ record { k = v.k; count = v.count; samples = overwrite (without (at + 1) (entries v ++ (length ts - 1) ∷ [])) v.samples } → r ≡ grown ts vs v
  unfolding grown
  grown_thinned many {at} ea inner is =
      let w = entries v ++ (length ts - 1) ∷ [] in
      let m : length (entries v) - 1 ≡ v.count - 1 = omega (arith, entries_length) in
      let s : view_with (link_error ts vs) v.k (entries v) (length ts - 1) ≡ without (suc at) w =
      rw (ea, ← m) (with_thinned (link_error ts vs) v.k (length ts - 1) (entries v) (omega (arith, entries_length))) in
      let n : length (without (suc at) w) ≡ v.count =
      omega (arith, without_length (suc at) w (omega (arith, length-append (entries v) ((length ts - 1) ∷ []), entries_length)), length-append (entries v) ((length ts - 1) ∷ []), entries_length) in
      rw (is, s, add-one) (ap {B = View} (λ (c : ℕ). record { k = v.k; count = c; samples = overwrite (without (suc at) w) v.samples }) (sym n))

-- ---- what holds of it

pub grown_holds : {ts : List ℕ} {vs : List ℤ} {v r : View} → Ready ts vs v → add_rows ts vs v ≡ Ok tt → length v.samples ≡ 66 → r ≡ grown ts vs v → Grown ts vs v r
unfolding grown view_of
grown_holds {ts} {vs} {v} {r} h rows full is =
    let err = link_error ts vs in
    let n : length ts - 1 ≡ suc (length ts - 2) = omega (arith, h.earlier) in
    let l = view_with err v.k (entries v) (length ts - 1) in
    let here : entries r ≡ l = rw is (take-append_seam l _) in
    let goes : entries v ≡ view_of err v.k (length ts - 2) → entries r ≡ view_of err v.k (length ts - 1) = λ e. rw (here, e, n) in
    record {
      rows = rows;
      is = is;
      kept = rw (here, n) (with_kept err v.k (length ts - 2) (entries v) h.kept);
      inner = rw is (with_length err v.k (length ts - 1) (entries v) (omega (arith, entries_length h full, h.inner)));
      follows = goes;
      close = λ e g gk few. rw (goes e) (view_twice (link_errors h.trace) (steps_exact h.trace) (errors_double h.trace) v.k g gk few);
    }

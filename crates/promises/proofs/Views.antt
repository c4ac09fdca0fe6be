-- The promise of the live view (document 001, theorem 1, with exact errors), from the contracts of `begin` and `add`: for a view begun on the first sample and
-- changed only by additions, its error is at most twice that of every kept list of the samples so far with at most k inner samples, so at most twice what `least`
-- returns for k + 2 samples.
-- Assumes nothing.
use Rattle.std.specs.Prelude.{Ok}
use mathlib.Core.Path.{◌≡◌, refl, sym, ap, ◌∙◌, subst}
use mathlib.Core.List.{List}
use Prim.Native.Nat.{ℕ, zero, suc, ◌+◌, ◌-◌, ◌≤◌, ◌<◌}
use native.Mathlib.Omega.{arith}
use lib.IntN.{ℤ}
use lib.ListN.{length, take}
use lib.Seq.{length-take-le}
use Rattle.refusal.proofs.TableLaws.{then_fine}
use Rattle.ratio.specs.Order.{AtMost}
use Rattle.kept.specs.Kept.{KeptList}
use Rattle.kept.proofs.ErrorLaws.{error_none}
use Rattle.views.specs.View.{view_of, twice}
use Rattle.views.proofs.ViewLaws.{view_kept, view_length, view_same}
use Rattle.trace.specs.Trace.{trace_rows}
use Rattle.trace.specs.Link.{link_error, list_error}
use Rattle.trace.proofs.UpTo.{error_up_to}
use Rattle.live.specs.declared.View.{View}
use Rattle.live.specs.Live.{fresh, entries, state_row, add_rows, grown, Grown}
use Rattle.live.proofs.LiveLaws.{begun_view, state_exact}
use Rattle.closest.specs.declared.Found.{Found}
use Rattle.engine.specs.Least.{LeastOutcome}
use Rattle.promises.specs.Views.{Watched, Shows}
use Rattle.promises.proofs.Nearness.{least_near}

module _ (ts : List ℕ) (vs : List ℤ) (k : ℕ) where
  -- the samples of call n
  abbrev so_far : ℕ → List ℕ
  so_far n = take (suc n) ts

  abbrev values_so_far : ℕ → List ℤ
  values_so_far n = take (suc n) vs

  -- the view of the samples up to any of those so far is that of the whole trace
  view_so_far : (n j : ℕ) → j ≤ n → view_of (link_error (so_far n) (values_so_far n)) k j ≡ view_of (link_error ts vs) k j
  view_so_far n j h = view_same (link_error (so_far n) (values_so_far n)) (link_error ts vs) k j (λ a b l u. error_up_to ts vs n a b l (omega arith))

  watched_list : (n : ℕ) (v : View) → n < length ts → Watched ts vs k n v → (v.k ≡ k) × (entries v ≡ view_of (link_error ts vs) k n)
  unfolding Watched view_of grown
  watched_list zero v h b = rw (begun_view k b) (refl, refl)
  watched_list (suc n) v h w =
      let u = w.0 in
      let before = watched_list n u (omega arith) w.1.0 in
      let g = w.1.1 in
      let err = link_error (so_far (suc n)) (values_so_far (suc n)) in
      let long : length (so_far (suc n)) ≡ suc (suc n) = length-take-le (suc (suc n)) ts (omega arith) in
      let last : length (so_far (suc n)) - 1 ≡ suc n = omega arith in
      let early : length (so_far (suc n)) - 2 ≡ n = omega arith in (
        ap (λ (x : View). x.k) g.is ∙ before.0,
        subst (λ (j : ℕ). entries u ≡ view_of err j n → entries v ≡ view_of err j (suc n)) before.0 (rw (early, last) at g.follows)
            (before.1 ∙ sym (view_so_far (suc n) n (omega arith)))
            ∙ view_so_far (suc n) (suc n) (omega arith),
      )

  watched_close : (n : ℕ) (v : View) → n < length ts → Watched ts vs k n v
      → (h : List ℕ) → KeptList n h → length h ≤ k + 2 → AtMost (list_error (so_far n) (values_so_far n) (entries v)) (twice (list_error (so_far n) (values_so_far n) h))
  unfolding Watched
  watched_close zero v l b h hk few = rw (begun_view k b, error_none (link_error (so_far 0) (values_so_far 0)) (fresh k 1).samples) (omega arith)
  watched_close (suc n) v l w h hk few =
      let before = watched_list n w.0 (omega arith) w.1.0 in
      let long : length (so_far (suc n)) ≡ suc (suc n) = length-take-le (suc (suc n)) ts (omega arith) in
      let last : length (so_far (suc n)) - 1 ≡ suc n = omega arith in
      let early : length (so_far (suc n)) - 2 ≡ n = omega arith in
      (rw (early, last, before.0) at w.1.1.close) (before.1 ∙ sym (view_so_far (suc n) n (omega arith))) h hk few

  pub watched_shows : (n : ℕ) (v : View) → n < length ts → Watched ts vs k n v → Shows ts vs k n v
  watched_shows n v h w =
      let is = watched_list n v h w in
      record {
        same = is.0;
        list = is.1;
        kept = rw is.1 (view_kept (link_error ts vs) k n);
        inner = rw is.1 (view_length (link_error ts vs) k n);
        close = watched_close n v h w;
      }

  -- at most twice what `least` returns for at most k + 2 of the samples so far, under any gap limit
  pub watched_least : (n : ℕ) (v : View) → n < length ts → Watched ts vs k n v
      → (g m : ℕ) {o o' : List ℕ} {f : Found} → m ≤ k + 2 → LeastOutcome (so_far n) (values_so_far n) g m o (Ok f) o' → AtMost (list_error (so_far n) (values_so_far n) (entries v)) (twice f.error)
  watched_least n v h w g m few answered =
      let l = least_near (so_far n) (values_so_far n) g m answered in
      let long : length (so_far n) ≡ suc n = length-take-le (suc n) ts (omega arith) in
      let last : length (so_far n) - 1 ≡ n = omega arith in
      rw (← l.error) (watched_close n v h w _ (rw last at l.kept) (omega (arith, l.few)))

-- the state that an addition leaves is none that the next one refuses
pub next_passes : (ts : List ℕ) (vs : List ℤ) (before : View) {after : View} → Grown ts vs before after → state_row (length ts) after ≡ Ok tt
unfolding add_rows grown
next_passes ts vs before {after} g =
    let passed = (state_exact (length ts - 1) before).0 (then_fine (trace_rows 4096 ts vs) (state_row (length ts - 1) before) g.rows).1 in
    let same : after.k ≡ before.k = ap (λ (x : View). x.k) g.is in
    (state_exact (length ts) after).1 (omega (arith, passed.0), omega (arith, passed.1), g.inner, g.kept)

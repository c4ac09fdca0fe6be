-- The samples that a list keeps, as a trace of their own, which is what a record holds: the lines, heights, means and areas of a list of them
-- are those of the list that names the same samples in the original trace.
-- Assumes nothing.
use mathlib.Core.Path.{◌≡◌, refl, ◌∙◌, ap}
use mathlib.Core.List.{List, [], ◌∷◌}
use Prim.Native.Nat.{ℕ, zero, suc, ◌-◌, ◌≤◌, ◌<◌}
use native.Mathlib.Omega.{arith}
use lib.IntN.{ℤ, pos}
use lib.ListN.{length, get_or}
use lib.Seq.{ext_get_or}
use Rattle.lists.specs.Select.{select}
use Rattle.lists.proofs.SelectLaws.{select_length, select_at}
use Rattle.kept.specs.Kept.{LinksFrom, KeptList}
use Rattle.kept.proofs.KeptLaws.{kept_links}
use Rattle.kept.proofs.SelectedLists.{kept_some}
use Rattle.heights.specs.Heights.{Fraction, link_at, line_from, line_at, every_sample, all_of, trace_at, higher, lower, joined, of_samples, peak, trough, height}
use Rattle.heights.specs.Windows.{Line, sum_at, mean_at, area_under, area_from, area_of, mean_over, baseline_height, baseline_depth}
use Rattle.heights.proofs.Entries.{every_kept, every_length, every_at}

module _ (ts : List ℕ) (vs : List ℤ) (l : List ℕ) where
  -- ---- from position i of l on

  abbrev Positions : ℕ → List ℕ → Type 0
  Positions = LinksFrom (λ i j. (i < j) × (j ≤ length l - 1))

  from_line : (a d : ℕ) (s : List ℕ) (i : ℕ) → i < length l → Positions i s
      → line_from (select 0 ts l) (select (pos 0) vs l) i s a d ≡ line_from ts vs (get_or l i 0) (select 0 l s) a d
  unfolding line_from link_at
  from_line a d [] i h r = rw (select_at (pos 0) vs l i h)
  from_line a d (j ∷ s) i h r = rw (from_line a d s j (omega arith) r.1, select_at 0 ts l i h, select_at 0 ts l j (omega arith), select_at (pos 0) vs l i h, select_at (pos 0) vs l j (omega arith))

  from_area : (a b d : ℕ) (s : List ℕ) (i : ℕ) → i < length l → Positions i s
      → area_from (select 0 ts l) (select (pos 0) vs l) i s a b d ≡ area_from ts vs (get_or l i 0) (select 0 l s) a b d
  unfolding area_from area_under link_at
  from_area a b d [] i h r = refl
  from_area a b d (j ∷ s) i h r = rw (from_area a b d s j (omega arith) r.1, select_at 0 ts l i h, select_at 0 ts l j (omega arith), select_at (pos 0) vs l i h, select_at (pos 0) vs l j (omega arith))

  from_joined : (f : ℤ → ℤ → ℤ) (s : List ℕ) (i : ℕ) → i < length l → Positions i s → joined f (select (pos 0) vs l) i s ≡ joined f vs (get_or l i 0) (select 0 l s)
  unfolding joined
  from_joined f [] i h r = select_at (pos 0) vs l i h
  from_joined f (j ∷ s) i h r = rw (from_joined f s j (omega arith) r.1, select_at (pos 0) vs l i h)

  module _ {last : ℕ} (kept : KeptList last l) where
    -- ---- a list h of the kept samples

    pub reduced_line : (h : List ℕ) → KeptList (length l - 1) h → (a d : ℕ) → line_at (select 0 ts l) (select (pos 0) vs l) h a d ≡ line_at ts vs (select 0 l h) a d
    reduced_line [] g a d = absurd g.spans
    reduced_line (i ∷ s) g a d = from_line a d s i (omega (arith, g.spans.0, kept_some l kept)) (kept_links (length l - 1) (i ∷ s) g)

    pub reduced_area : (h : List ℕ) → KeptList (length l - 1) h → (a b d : ℕ) → area_of (select 0 ts l) (select (pos 0) vs l) h a b d ≡ area_of ts vs (select 0 l h) a b d
    reduced_area [] g a b d = absurd g.spans
    reduced_area (i ∷ s) g a b d = from_area a b d s i (omega (arith, g.spans.0, kept_some l kept)) (kept_links (length l - 1) (i ∷ s) g)

    reduced_samples : (f : ℤ → ℤ → ℤ) (h : List ℕ) → KeptList (length l - 1) h → of_samples f (select (pos 0) vs l) h ≡ of_samples f vs (select 0 l h)
    reduced_samples f [] g = absurd g.spans
    reduced_samples f (i ∷ s) g = from_joined f s i (omega (arith, g.spans.0, kept_some l kept)) (kept_links (length l - 1) (i ∷ s) g)

    module _ (h : List ℕ) (g : KeptList (length l - 1) h) where
      pub reduced_peak : peak (select (pos 0) vs l) h ≡ peak vs (select 0 l h)
      reduced_peak = reduced_samples higher h g

      pub reduced_trough : trough (select (pos 0) vs l) h ≡ trough vs (select 0 l h)
      reduced_trough = reduced_samples lower h g

      pub reduced_height : height (select (pos 0) vs l) h ≡ height vs (select 0 l h)
      reduced_height = rw (reduced_peak, reduced_trough)

sum_cong : (f g : Line) → ((a d : ℕ) → f a d ≡ g a d) → (n a : ℕ) → sum_at f a n ≡ sum_at g a n
unfolding sum_at
sum_cong f g h zero a = refl
sum_cong f g h (suc n) a = rw (h a 1, sum_cong f g h n (suc a))

-- ---- the list of all of them

select_every : (l : List ℕ) → 1 ≤ length l → select 0 l (every_sample (length l - 1)) ≡ l
select_every l some =
    let size = select_length 0 l (every_sample (length l - 1)) ∙ every_length (length l - 1) in
    ext_get_or 0 _ l (size ∙ omega arith)
    (λ k h. select_at 0 l (every_sample (length l - 1)) k (omega (arith, size, every_length (length l - 1))) ∙ ap (λ (m : ℕ). get_or l m 0) (every_at (length l - 1) k (omega (arith, size))))

module _ (ts : List ℕ) (vs : List ℤ) {last : ℕ} (l : List ℕ) (k : KeptList last l) where
  every : {A : Type 0} (f : List ℕ → A) → f (select 0 l (every_sample (length l - 1))) ≡ f l
  every f = ap f (select_every l (kept_some l k))

  pub selected_line : (a d : ℕ) → trace_at (select 0 ts l) (select (pos 0) vs l) a d ≡ line_at ts vs l a d
  selected_line a d = rw (select_length 0 ts l) (reduced_line ts vs l k _ (every_kept (length l - 1)) a d ∙ every (λ h. line_at ts vs h a d))

  pub selected_peak : peak (select (pos 0) vs l) (all_of (select 0 ts l)) ≡ peak vs l
  selected_peak = rw (select_length 0 ts l) (reduced_peak ts vs l k _ (every_kept (length l - 1)) ∙ every (peak vs))

  pub selected_trough : trough (select (pos 0) vs l) (all_of (select 0 ts l)) ≡ trough vs l
  selected_trough = rw (select_length 0 ts l) (reduced_trough ts vs l k _ (every_kept (length l - 1)) ∙ every (trough vs))

  pub selected_height : height (select (pos 0) vs l) (all_of (select 0 ts l)) ≡ height vs l
  selected_height = rw (selected_peak, selected_trough)

  pub selected_baseline : (m : Fraction) → baseline_height (select (pos 0) vs l) (all_of (select 0 ts l)) m ≡ baseline_height vs l m
  selected_baseline m = rw selected_peak

  pub selected_depth : (m : Fraction) → baseline_depth (select (pos 0) vs l) (all_of (select 0 ts l)) m ≡ baseline_depth vs l m
  selected_depth m = rw selected_trough

  pub selected_mean_at : (a n : ℕ) → mean_at (trace_at (select 0 ts l) (select (pos 0) vs l)) a n ≡ mean_at (line_at ts vs l) a n
  selected_mean_at a n = rw (sum_cong _ (line_at ts vs l) selected_line n a)

  pub selected_area : (a b d : ℕ) → area_of (select 0 ts l) (select (pos 0) vs l) (all_of (select 0 ts l)) a b d ≡ area_of ts vs l a b d
  selected_area a b d = rw (select_length 0 ts l) (reduced_area ts vs l k _ (every_kept (length l - 1)) a b d ∙ every (λ h. area_of ts vs h a b d))

  pub selected_mean_over : (a b d : ℕ) → mean_over (select 0 ts l) (select (pos 0) vs l) (all_of (select 0 ts l)) a b d ≡ mean_over ts vs l a b d
  selected_mean_over a b d = rw (selected_area a b d)

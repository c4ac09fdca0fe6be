-- Laws of the live view: it is a kept list of at most 2k inner samples, and its error is at most twice that of every kept list
-- with at most k inner samples (document 001, theorem 1, at 2 and exact errors). Assumes nothing.
use mathlib.Core.Path.{◌≡◌, refl, ◌∙◌, ap}
use mathlib.Core.List.{List, [], ◌∷◌, ◌++◌}
use Prim.Native.Nat.{ℕ, zero, suc, ◌+◌, ◌-◌, ◌*◌, ◌≤◌, ◌<◌}
use native.Mathlib.Omega.{arith}
use native.Mathlib.Decide.{dec_le}
use borrow.Author.Tests.{le-leb, lt-leb}
use lib.ListN.{length, get_or, length-append}
use Rattle.ratio.specs.declared.Ratio.{Ratio}
use Rattle.ratio.specs.Order.{AtMost}
use Rattle.ratio.proofs.OrderLaws.{at_most_trans}
use Rattle.kept.specs.Kept.{LinksFrom, EachLink, final, KeptList}
use Rattle.kept.specs.Error.{error_of, Errors}
use Rattle.kept.proofs.KeptLaws.{rise_le, each_zip, kept_links, kept_inside, links_snoc, final_snoc}
use Rattle.kept.proofs.SelectedLists.{rises_later}
use Rattle.kept.proofs.ErrorLaws.{error_within}
use Rattle.views.specs.View.{cost, cheapest, without, thinned, view_with, view_of, twice, Doubles, StepsExact}
use Rattle.views.proofs.CheapestLaws.{Positive, cheapest_below, cheapest_least, cheapest_same}

-- A list without one inner entry.
pub without_length : (t : ℕ) (l : List ℕ) → t < length l → suc (length (without t l)) ≡ length l
without_length t [] h = absurd (omega arith)
without_length zero (i ∷ s) h = refl
without_length (suc t) (i ∷ s) h = ap suc (without_length t s (omega arith))

without_final : (t i : ℕ) (s : List ℕ) → suc t < length s → final i (without t s) ≡ final i s
without_final t i [] h = absurd (omega arith)
without_final t i (j ∷ []) h = absurd (omega arith)
without_final zero i (j ∷ k ∷ s) h = refl
without_final (suc t) i (j ∷ k ∷ s) h = without_final t j (k ∷ s) (omega arith)

-- its links are the list's, but for the one that takes the entry's place
without_links : (R : ℕ → ℕ → Type 0) (t i : ℕ) (s : List ℕ) → suc t < length s → LinksFrom R i s → R (get_or (i ∷ s) t 0) (get_or s (suc t) 0) → LinksFrom R i (without t s)
without_links R t i [] h r n = absurd (omega arith)
without_links R t i (j ∷ []) h r n = absurd (omega arith)
without_links R zero i (j ∷ k ∷ s) h r n = (n, r.1.1)
without_links R (suc t) i (j ∷ k ∷ s) h r n = (r.0, without_links R t j (k ∷ s) (omega arith) r.1 n)

-- The counting argument. A list of m links and a list of at least 2m links, which starts no earlier and ends no later and after the first's start:
-- of the second, some two links in a row lie inside one link of the first.
inside : (R : ℕ → ℕ → Type 0) (x : ℕ → ℕ → Type 0) → ((a b l r : ℕ) → R a b → a ≤ l → l < r → r ≤ b → x l r)
    → (h s : List ℕ) (a c : ℕ) → a ≤ c → a < final c s → final c s ≤ final a h → length h + length h ≤ length s → LinksFrom R a h → LinksFrom ◌<◌ c s
    → (t : ℕ) × ((suc t < length s) × x (get_or (c ∷ s) t 0) (get_or s (suc t) 0))
inside R x law [] s a c le lt far n hs rs = absurd (omega arith)
inside R x law (b ∷ h) [] a c le lt far n hs rs = absurd (omega arith)
inside R x law (b ∷ h) (d ∷ []) a c le lt far n hs rs = absurd (omega arith)
inside R x law (b ∷ h) (d ∷ e ∷ s) a c le lt far n hs rs = elim (dec_le e b) [
  | yes q ↦ (0, (omega arith, law a b c e hs.0 le (omega (arith, rs.0, rs.1.0)) q))
  | no q ↦
      let up : e ≤ final e s = omega (arith, rise_le e s rs.1.1) in
      let more = inside R x law h s b e (omega arith) (omega arith) far (omega arith) hs.1 rs.1.1 in
      (suc (suc more.0), (omega (arith, more.1.0), more.1.1))
]

-- The list without the inner entry that costs least.
module _ (err : ℕ → ℕ → Ratio) where
  -- where that entry's start stands
  abbrev dropped : List ℕ → ℕ
  dropped w = cheapest (cost err w) (length w - 2)

  dropped_inner : (w : List ℕ) → 3 ≤ length w → suc (suc (dropped w)) < length w
  dropped_inner w h = omega (arith, cheapest_below (cost err w) (length w - 2) (omega arith))

  pub thinned_length : (w : List ℕ) → 3 ≤ length w → suc (length (thinned err w)) ≡ length w
  unfolding thinned
  thinned_length w h = without_length (suc (dropped w)) w (omega (arith, dropped_inner w h))

  thinned_links : (R : ℕ → ℕ → Type 0) (w : List ℕ) → 3 ≤ length w → EachLink R w → R (get_or w (dropped w) 0) (get_or w (suc (suc (dropped w))) 0) → EachLink R (thinned err w)
  unfolding thinned
  thinned_links R [] h r n = absurd (omega arith)
  thinned_links R (i ∷ s) h r n = without_links R (dropped (i ∷ s)) i s (omega (arith, dropped_inner (i ∷ s) h)) r n

  pub thinned_kept : (last : ℕ) (w : List ℕ) → 3 ≤ length w → KeptList last w → KeptList last (thinned err w)
  unfolding thinned
  thinned_kept last [] h k = absurd (omega arith)
  thinned_kept last (i ∷ s) h k =
      let t = dropped (i ∷ s) in
      let l : suc t < length s = omega (arith, dropped_inner (i ∷ s) h) in
      record {
        spans = (k.spans.0, without_final t i s l ∙ k.spans.1);
        rises = without_links ◌<◌ t i s l k.rises (rises_later (i ∷ s) k.rises (suc (suc t)) {i = t} (omega arith) (omega arith));
      }

-- a kept list with the next sample last is one of the samples so far
pub snoc_kept : (n : ℕ) (l : List ℕ) → KeptList n l → KeptList (suc n) (l ++ suc n ∷ [])
snoc_kept n [] k = absurd k.spans
snoc_kept n (i ∷ s) k = record {
  spans = (k.spans.0, final_snoc i s (suc n));
  rises = links_snoc ◌<◌ i s k.rises (omega (arith, k.spans.1));
}

snoc_each : (R : ℕ → ℕ → Type 0) (n : ℕ) (l : List ℕ) → KeptList n l → EachLink R l → R n (suc n) → EachLink R (l ++ suc n ∷ [])
snoc_each R n [] k r m = absurd k.spans
snoc_each R n (i ∷ s) k r m = links_snoc R i s r (rw k.spans.1 m)

-- What an addition keeps.
module _ (err : ℕ → ℕ → Ratio) (k : ℕ) where
  -- all entries are kept, or one of more than 2k + 2 is dropped
  with_cases : (P : List ℕ → Type 0) (n : ℕ) (l : List ℕ) → (length (l ++ n ∷ []) ≤ 2 * k + 2 → P (l ++ n ∷ [])) → (2 * k + 3 ≤ length (l ++ n ∷ []) → P (thinned err (l ++ n ∷ []))) → P (view_with err k l n)
  unfolding view_with
  with_cases P n l all one =
      let m = length (l ++ n ∷ []) in
      elim (dec_le m (2 * k + 2)) [
        | yes q ↦ rw (le-leb m (2 * k + 2) q) (all q)
        | no q ↦ rw (lt-leb m (2 * k + 2) (omega arith)) (one (omega arith))
      ]

  -- of a relation on links: it holds of the links over one step, and of the one that takes an entry's place where there are now more than 2k inner samples
  with_each : (R : ℕ → ℕ → Type 0) (n : ℕ) (l : List ℕ) → KeptList n l → EachLink R l → R n (suc n)
      → (2 * k + 3 ≤ length (l ++ suc n ∷ []) → R (get_or (l ++ suc n ∷ []) (dropped err (l ++ suc n ∷ [])) 0) (get_or (l ++ suc n ∷ []) (suc (suc (dropped err (l ++ suc n ∷ [])))) 0))
      → EachLink R (view_with err k l (suc n))
  with_each R n l kept r one new =
      let more = snoc_each R n l kept r one in
      with_cases (EachLink R) (suc n) l (λ _. more) (λ long. thinned_links err R (l ++ suc n ∷ []) (omega arith) more (new long))

  pub with_all : (n : ℕ) (l : List ℕ) → length l < 2 * k + 2 → view_with err k l n ≡ l ++ n ∷ []
  unfolding view_with
  with_all n l h =
      let e : length (l ++ n ∷ []) ≡ length l + 1 = length-append l (n ∷ []) in
      rw (le-leb (length (l ++ n ∷ [])) (2 * k + 2) (omega arith))

  pub with_thinned : (n : ℕ) (l : List ℕ) → 2 * k + 2 ≤ length l → view_with err k l n ≡ without (suc (cheapest (cost err (l ++ n ∷ [])) (length l - 1))) (l ++ n ∷ [])
  unfolding view_with thinned
  with_thinned n l h =
      let e : length (l ++ n ∷ []) ≡ length l + 1 = length-append l (n ∷ []) in
      let m : length (l ++ n ∷ []) - 2 ≡ length l - 1 = omega arith in
      rw (lt-leb (length (l ++ n ∷ [])) (2 * k + 2) (omega arith), m)

  pub with_kept : (n : ℕ) (l : List ℕ) → KeptList n l → KeptList (suc n) (view_with err k l (suc n))
  with_kept n l kept =
      let more = snoc_kept n l kept in
      with_cases (KeptList (suc n)) (suc n) l (λ _. more) (λ long. thinned_kept err (suc n) (l ++ suc n ∷ []) (omega arith) more)

  pub with_length : (n : ℕ) (l : List ℕ) → length l ≤ 2 * k + 2 → length (view_with err k l n) ≤ 2 * k + 2
  with_length n l h =
      with_cases (λ w. length w ≤ 2 * k + 2) n l (λ few. few)
      (λ long. omega (arith, length-append l (n ∷ []), thinned_length err (l ++ n ∷ []) (omega arith)))

  -- the view is a kept list of the samples so far, with at most 2k inner samples
  pub view_kept : (n : ℕ) → KeptList n (view_of err k n)
  unfolding view_of
  view_kept zero = record { spans = (refl, refl); rises = tt }
  view_kept (suc n) = with_kept n (view_of err k n) (view_kept n)

  pub view_length : (n : ℕ) → length (view_of err k n) ≤ 2 * k + 2
  unfolding view_of
  view_length zero = omega arith
  view_length (suc n) = with_length (suc n) (view_of err k n) (view_length n)

-- The error of the view is at most twice that of every kept list of the same samples with at most k inner samples.
module _ {err : ℕ → ℕ → Ratio} {last : ℕ} (law : Errors err last) (exact : StepsExact err last) (doubles : Doubles err last)
    (k : ℕ) (h : List ℕ) (hk : KeptList last h) (few : length h ≤ k + 2) where
  abbrev most : Ratio
  most = twice (error_of err h)

  -- a link of h, and what it encloses
  abbrev Encloses : ℕ → ℕ → Type 0
  Encloses a b = AtMost (err a b) (error_of err h) × ((a < b) × (b ≤ last))

  encloses : EachLink Encloses h
  encloses = each_zip (λ i j a b. (a, b)) h ((error_within law hk (error_of err h)).1 (omega arith)) (kept_links last h hk)

  enclosed : (a b l r : ℕ) → Encloses a b → a ≤ l → l < r → r ≤ b → AtMost (err l r) most
  enclosed a b l r e al lr rb =
      at_most_trans (err l r) (twice (err a b)) most (law.positive a b e.1.0 e.1.1) (doubles a b l r al lr rb e.1.1) (omega (arith, e.0))

  -- of the two-step links of a list of 2k + 3 samples, some is enclosed by a link of h
  some_enclosed : (n : ℕ) (w g : List ℕ) → suc n ≤ last → KeptList (suc n) w → 2 * k + 3 ≤ length w → KeptList last g → length g ≤ k + 2 → EachLink Encloses g
      → (t : ℕ) × ((suc (suc t) < length w) × AtMost (cost err w t) most)
  some_enclosed n [] g le kept long gk gl ge = absurd (omega arith)
  some_enclosed n (i ∷ s) [] le kept long gk gl ge = absurd gk.spans
  some_enclosed n (i ∷ s) (a ∷ g) le kept long gk gl ge =
      let found = inside Encloses (λ l r. AtMost (err l r) most) enclosed g s a i
      (omega (arith, gk.spans.0)) (omega (arith, gk.spans.0, kept.spans.1)) (omega (arith, kept.spans.1, gk.spans.1)) (omega arith) ge kept.rises in
      (found.0, (omega (arith, found.1.0), found.1.1))

  -- so the link that an addition brings is no worse
  new_link : (n : ℕ) (w : List ℕ) → suc n ≤ last → KeptList (suc n) w → 2 * k + 3 ≤ length w → AtMost (cost err w (dropped err w)) most
  new_link n w le kept long =
      let found = some_enclosed n w h le kept long hk few encloses in
      let t = found.0 in
      let pos : Positive (cost err w) (length w - 2) = λ t l. law.positive (get_or w t 0) (get_or w (suc (suc t)) 0) (rises_later w kept.rises (suc (suc t)) {i = t} (omega arith) (omega arith)) (omega (arith, kept_inside (suc n) w kept (suc (suc t)) (omega arith))) in
      at_most_trans (cost err w (dropped err w)) (cost err w t) most (pos t (omega (arith, found.1.0)))
      (cheapest_least (cost err w) (length w - 2) pos t (omega (arith, found.1.0))) found.1.1

  -- each link of the view, up to any of the samples: the list h is of the whole trace, and nothing is asked of it at earlier times
  view_links : (n : ℕ) → n ≤ last → EachLink (λ i j. AtMost (err i j) most) (view_of err k n)
  unfolding view_of
  view_links zero le = tt
  view_links (suc n) le =
      let kept = view_kept err k n in
      with_each err k (λ i j. AtMost (err i j) most) n (view_of err k n) kept (view_links n (omega arith)) (rw (exact n (omega arith)) (omega arith))
      (λ long. new_link n (view_of err k n ++ suc n ∷ []) le (snoc_kept n (view_of err k n) kept) long)

  pub view_twice : AtMost (error_of err (view_of err k last)) (twice (error_of err h))
  view_twice = (error_within law (view_kept err k last) most).0 (view_links last (omega arith))

-- The view depends on the errors of the links of the samples so far alone.
module _ (err other : ℕ → ℕ → Ratio) (k : ℕ) where
  pub thinned_same : (last : ℕ) (w : List ℕ) → KeptList last w → 3 ≤ length w → ((i j : ℕ) → i < j → j ≤ last → err i j ≡ other i j) → thinned err w ≡ thinned other w
  unfolding thinned
  thinned_same last [] kept long e = refl
  thinned_same last (i ∷ s) kept long e =
      rw (cheapest_same (cost err (i ∷ s)) (cost other (i ∷ s)) (length (i ∷ s) - 2)
      (λ t l. e (get_or (i ∷ s) t 0) (get_or s (suc t) 0) (rises_later (i ∷ s) kept.rises (suc (suc t)) {i = t} (omega arith) (omega arith)) (kept_inside last (i ∷ s) kept (suc (suc t)) (omega arith))))

  pub with_same : (n : ℕ) (l : List ℕ) → KeptList n l → ((i j : ℕ) → i < j → j ≤ suc n → err i j ≡ other i j) → view_with err k l (suc n) ≡ view_with other k l (suc n)
  unfolding view_with
  with_same n l kept e =
      let w = l ++ suc n ∷ [] in
      elim (dec_le (length w) (2 * k + 2)) [
        | yes q ↦ rw (le-leb (length w) (2 * k + 2) q)
        | no q ↦ rw (lt-leb (length w) (2 * k + 2) (omega arith)) (thinned_same (suc n) w (snoc_kept n l kept) (omega arith) e)
      ]

  pub view_same : (n : ℕ) → ((i j : ℕ) → i < j → j ≤ n → err i j ≡ other i j) → view_of err k n ≡ view_of other k n
  unfolding view_of
  view_same zero e = refl
  view_same (suc n) e =
      rw (← (view_same n (λ i j l u. e i j l (omega arith)))) (with_same n (view_of err k n) (view_kept err k n) e)

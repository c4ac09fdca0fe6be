-- Laws of the gap limit: `obeys` computes `Obeys`; links inside a link that obeys it do so too; from one sample the links that obey it
-- are those up to `links_end`; and at its largest it cuts no link of a trace.
-- Assumes nothing.
use mathlib.Core.Path.{◌≡◌, sym, ap, ◌∙◌}
use mathlib.Core.Bool.{true, false, not}
use mathlib.Core.List.{List}
use Prim.Native.Nat.{ℕ, suc, ◌+◌, ◌-◌, ◌≤◌, ◌<◌, max}
use native.Mathlib.Decide.{dec_le, dec_lt}
use native.Mathlib.Numerals.{add-one}
use native.Mathlib.Omega.{arith}
use lib.Dec.{leb, ltb}
use lib.IntN.{ℤ}
use lib.ListN.{length, get_or-eq_default}
use borrow.Author.Tests.{le-leb, lt-leb, ltb-true, ltb-false, le-ltb, not-true}
use Rattle.lists.specs.First.{first, Clear}
use Rattle.lists.proofs.Tests.{or_first, or_second, is_false}
use Rattle.lists.proofs.FirstLaws.{clear_none, clear_more, first_found, first_at, first_skip}
use Rattle.kept.specs.Kept.{Halves}
use Rattle.trace.specs.Trace.{tick, Trace}
use Rattle.trace.specs.Link.{hole, Obeys, obeys, links_end}
use Rattle.trace.proofs.Ticks.{span_bound}
use Rattle.trace.proofs.Between.{all_from_true, all_from_at}

module _ (ts : List ℕ) (g : ℕ) where
  -- the code's test, of two ticks read
  pub hole_test : (k : ℕ) → ltb g (tick ts (k + 1) - tick ts k) ≡ hole ts g k
  unfolding hole
  hole_test k = rw (add-one k)

  pub hole_none : (k : ℕ) → tick ts (suc k) - tick ts k ≤ g → hole ts g k ≡ false
  unfolding hole
  hole_none k h = le-ltb _ _ h

  pub none_hole : (k : ℕ) → hole ts g k ≡ false → tick ts (suc k) - tick ts k ≤ g
  unfolding hole
  none_hole k h = ltb-false _ _ h

  pub some_hole : (k : ℕ) → hole ts g k ≡ true → g < tick ts (suc k) - tick ts k
  unfolding hole
  some_hole k h = ltb-true _ _ h

  module _ (i j : ℕ) where
    pub obeys_true : Obeys ts g i j → obeys ts g i j ≡ true
    unfolding obeys
    obeys_true h = elim (dec_le j (suc i)) [
      | yes q ↦ or_first _ _ (le-leb j (suc i) q)
      | no q ↦ or_second (leb j (suc i)) _ (all_from_true _ (j - i) i (λ k l u. ap not (hole_none k (h.near (omega arith) k l (omega arith)))))
    ]

    pub true_obeys : obeys ts g i j ≡ true → Obeys ts g i j
    unfolding obeys
    true_obeys e = record {
      near = λ long k l u. none_hole k (not-true _ (all_from_at (λ k. not (hole ts g k)) (j - i) i (rw (lt-leb j (suc i) long) at e) k l (omega arith)));
    }

  -- a link over more than one step, by its first hole
  module _ (i j : ℕ) {e : ℕ} (lt : i < j) (h : e ≡ first (hole ts g) i j) where
    pub first_obeys : j ≤ e → obeys ts g i j ≡ true
    first_obeys le =
        let f = first_found (hole ts g) i j (omega arith) in
        obeys_true i j (record { near = λ _ k l u. none_hole k (f.clear.none k l (omega arith)) })

    pub first_cuts : (j ≡ i + 1 → ⊥) → e < j → obeys ts g i j ≡ false
    first_cuts long q =
        let f = first_found (hole ts g) i j (omega arith) in
        is_false _ (λ o. absurd (omega (arith, some_hole e (rw (← h) at (f.here (omega arith))), (true_obeys i j o).near (omega arith) e (omega (arith, f.from)) q)))

  -- links inside a link that obeys the limit do so too
  pub obeys_inside : (last : ℕ) → Halves (obeys ts g) (obeys ts g) last
  obeys_inside last i j l r h il lr rj jl = obeys_true l r (record {
    near = λ long k lk kr. (true_obeys i j h).near (omega arith) k (omega arith) (omega arith);
  })

  -- ---- the links from one sample

  -- one sample back
  pub run_hole : (i : ℕ) → i + 1 < length ts → hole ts g i ≡ true → i ≡ first (hole ts g) i (length ts - 1)
  run_hole i inside h = sym (first_at (omega arith) (omega arith) clear_none h)

  pub run_back : (i : ℕ) → i + 1 < length ts → hole ts g i ≡ false → {e : ℕ} → e ≡ first (hole ts g) (i + 1) (length ts - 1) → e ≡ first (hole ts g) i (length ts - 1)
  run_back i inside h f = f ∙ first_skip (hole ts g) i (i + 1) (length ts - 1) (omega arith) (omega arith) (clear_more clear_none h)

  module _ (i : ℕ) (inside : i + 1 < length ts) where
    pub links_end_after : i < links_end ts g i
    unfolding links_end
    links_end_after = omega arith

    pub links_end_inside : links_end ts g i < length ts
    unfolding links_end
    links_end_inside = omega (arith, (first_found (hole ts g) i (length ts - 1) (omega arith)).to)

    pub run_bounds : {e : ℕ} → e ≡ first (hole ts g) i (length ts - 1) → (i ≤ e) × (e < length ts)
    run_bounds h = let f = first_found (hole ts g) i (length ts - 1) (omega arith) in (omega (arith, f.from), omega (arith, f.to))

    -- by the first hole e
    pub links_end_is : {e r : ℕ} → e ≡ first (hole ts g) i (length ts - 1) → r ≡ max (suc i) e → r ≡ links_end ts g i
    unfolding links_end
    links_end_is f h = rw (← f) h

    -- the links that obey the limit are those up to the end
    pub obeys_to : (j : ℕ) → j ≤ links_end ts g i → obeys ts g i j ≡ true
    unfolding links_end
    obeys_to j h =
        let f = first_found (hole ts g) i (length ts - 1) (omega arith) in
        obeys_true i j (record { near = λ long k l u. none_hole k (f.clear.none k l (omega arith)) })

    pub obeys_past : (j : ℕ) → links_end ts g i < j → j < length ts → obeys ts g i j ≡ false
    unfolding links_end
    obeys_past j h u =
        let f = first_found (hole ts g) i (length ts - 1) (omega arith) in
        let e : ℕ = first (hole ts g) i (length ts - 1) in
        is_false _ (λ o. absurd (omega (arith, some_hole e (f.here (omega arith)), (true_obeys i j o).near (omega arith) e f.from (omega arith))))

    -- the samples before the end have the same one
    links_end_same : (k : ℕ) → i ≤ k → k < links_end ts g i → links_end ts g k ≡ links_end ts g i
    unfolding links_end
    links_end_same k l u =
        let f = first_found (hole ts g) i (length ts - 1) (omega arith) in
        omega (arith, first_skip (hole ts g) i k (length ts - 1) l (omega (arith, f.to)) (record { none = λ n a b. f.clear.none n a (omega arith) }))

-- so they are not the last sample, and where links from one of them end need not be searched again
pub end_same : (ts : List ℕ) (g : ℕ) {i end k : ℕ} → i + 1 < length ts → end ≡ links_end ts g i → i ≤ k → k < end → (k < length ts - 1) × (end ≡ links_end ts g k)
end_same ts g {i} {end} {k} inside e l u = (omega (arith, links_end_inside ts g i inside), e ∙ sym (links_end_same ts g i inside k l (omega arith)))

-- a larger limit cuts no more links
pub obeys_wider : (ts : List ℕ) (g f : ℕ) → g ≤ f → (i j : ℕ) → obeys ts g i j ≡ true → obeys ts f i j ≡ true
obeys_wider ts g f h i j o = obeys_true ts f i j (record { near = λ long k l u. omega (arith, (true_obeys ts g i j o).near long k l u) })

-- no two samples of a trace lie further apart than the largest limit
widest_near : {ts : List ℕ} {vs : List ℤ} → Trace ts vs → (k : ℕ) → tick ts (suc k) - tick ts k ≤ 1048575
widest_near {ts} t k = elim (dec_lt (suc k) (length ts)) [
  | yes q ↦ span_bound t k (suc k) (omega arith) q
  | no q ↦ omega (arith, get_or-eq_default ts 0 {n = suc k} (omega arith))
]

pub widest_clear : {ts : List ℕ} {vs : List ℤ} → Trace ts vs → (g a b : ℕ) → 1048575 ≤ g → Clear (hole ts g) a b
widest_clear {ts} t g a b wide = record { none = λ k l u. hole_none ts g k (omega (arith, widest_near t k)) }

pub widest_obeys : {ts : List ℕ} {vs : List ℤ} → Trace ts vs → (i j : ℕ) → obeys ts 1048575 i j ≡ true
widest_obeys {ts} t i j = obeys_true ts 1048575 i j (record { near = λ long k l u. widest_near t k })

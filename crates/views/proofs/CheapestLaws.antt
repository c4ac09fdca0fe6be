-- Laws of the scan for the smallest of some fractions: it finds the earliest, and which one that is depends on the fractions' order alone.
-- Assumes nothing.
use mathlib.Core.Path.{◌≡◌, refl}
use mathlib.Core.Logic.{⊎_elim}
use Prim.Native.Nat.{ℕ, zero, suc, ◌*◌, ◌≤◌, ◌<◌}
use native.Mathlib.Nat.{eq-or-lt_of_le}
use native.Mathlib.Omega.{arith}
use native.Mathlib.Decide.{dec_le}
use borrow.Author.Tests.{le-leb, lt-leb, leb-true}
use lib.Dec.{leb}
use Rattle.lists.proofs.Tests.{tests_equal}
use Rattle.ratio.specs.declared.Ratio.{Ratio}
use Rattle.ratio.specs.Order.{AtMost, Below}
use Rattle.ratio.proofs.OrderLaws.{at_most_trans, below_at_most}
use Rattle.views.specs.View.{cheapest}

-- each of the first n fractions has a denominator
abbrev pub Positive : (ℕ → Ratio) → ℕ → Type 0
Positive f n = (t : ℕ) → t < n → 0 < (f t).q

module _ (f : ℕ → Ratio) where
  -- one number more: it stays where it was, unless the new fraction is smaller
  pub cheapest_more : (P : ℕ → Type 0) (n : ℕ) → (AtMost (f (cheapest f n)) (f n) → P (cheapest f n)) → (Below (f n) (f (cheapest f n)) → P n) → P (cheapest f (suc n))
  unfolding cheapest
  cheapest_more P n stay go =
      let b = cheapest f n in
      elim (dec_le ((f b).p * (f n).q) ((f n).p * (f b).q)) [
        | yes q ↦ rw (le-leb ((f b).p * (f n).q) ((f n).p * (f b).q) q) (stay q)
        | no q ↦ rw (lt-leb ((f b).p * (f n).q) ((f n).p * (f b).q) (omega arith)) (go (omega arith))
      ]

  cheapest_most : (n : ℕ) → cheapest f n ≤ n
  unfolding cheapest
  cheapest_most zero = omega arith
  cheapest_most (suc n) = cheapest_more (λ x. x ≤ suc n) n (λ _. omega (arith, cheapest_most n)) (λ _. omega arith)

  -- it is one of the numbers
  pub cheapest_below : (n : ℕ) → 0 < n → cheapest f n < n
  cheapest_below zero h = absurd (omega arith)
  cheapest_below (suc n) h = cheapest_more (λ x. x < suc n) n (λ _. omega (arith, cheapest_most n)) (λ _. omega arith)

  -- at which f is smallest
  pub cheapest_least : (n : ℕ) → Positive f n → (t : ℕ) → t < n → AtMost (f (cheapest f n)) (f t)
  cheapest_least zero pos t h = absurd (omega arith)
  cheapest_least (suc n) pos t h =
      let b = cheapest f n in
      let before : (t : ℕ) → t < n → AtMost (f b) (f t) = cheapest_least n (λ t l. pos t (omega arith)) in
      let here : t ≤ n = omega arith in
      cheapest_more (λ x. AtMost (f x) (f t)) n
      (λ a. ⊎_elim (λ e. rw e a) (before t) (eq-or-lt_of_le here))
      (λ a. ⊎_elim (λ e. rw e (omega arith)) (λ l. at_most_trans (f n) (f b) (f t) (pos b (omega (arith, cheapest_most n))) (omega (arith, a)) (before t l)) (eq-or-lt_of_le here))

  -- and the earliest such
  pub cheapest_earliest : (n : ℕ) → Positive f n → (t : ℕ) → t < cheapest f n → Below (f (cheapest f n)) (f t)
  unfolding cheapest
  cheapest_earliest zero pos t = λ h. absurd (omega arith)
  cheapest_earliest (suc n) pos t = cheapest_more (λ x. t < x → Below (f x) (f t)) n
      (λ _. cheapest_earliest n (λ t l. pos t (omega arith)) t)
      (λ a h. below_at_most (f n) (f (cheapest f n)) (f t) (pos t (omega arith)) a (cheapest_least n (λ t l. pos t (omega arith)) t h))

-- Two families of fractions.
module _ (f g : ℕ → Ratio) where
  cheapest_tests : (n : ℕ) → ((a b : ℕ) → a < n → b < n → leb ((f a).p * (f b).q) ((f b).p * (f a).q) ≡ leb ((g a).p * (g b).q) ((g b).p * (g a).q)) → cheapest f n ≡ cheapest g n
  unfolding cheapest
  cheapest_tests zero e = refl
  cheapest_tests (suc n) e = rw (
    ← (cheapest_tests n (λ a b x y. e a b (omega arith) (omega arith))),
    e (cheapest f n) n (omega (arith, cheapest_most f n)) (omega arith),
  )

  pub cheapest_same : (n : ℕ) → ((t : ℕ) → t < n → f t ≡ g t) → cheapest f n ≡ cheapest g n
  cheapest_same n e = cheapest_tests n (λ a b x y. rw (e a x, e b y))

  -- also of equal fractions that are not both in lowest terms
  pub cheapest_equal : (n : ℕ) → Positive f n → Positive g n → ((t : ℕ) → t < n → (f t).p * (g t).q ≡ (g t).p * (f t).q) → cheapest f n ≡ cheapest g n
  cheapest_equal n pf pg e = cheapest_tests n (λ a b x y. tests_equal (leb ((f a).p * (f b).q) ((f b).p * (f a).q)) (leb ((g a).p * (g b).q) ((g b).p * (g a).q))
      (λ h. le-leb _ _ (at_most_trans (g a) (f a) (g b) (pf a x) (omega (arith, e a x)) (at_most_trans (f a) (f b) (g b) (pf b y) (leb-true _ _ h) (omega (arith, e b y)))))
      (λ h. le-leb _ _ (at_most_trans (f a) (g a) (f b) (pg a x) (omega (arith, e a x)) (at_most_trans (g a) (g b) (f b) (pg b y) (leb-true _ _ h) (omega (arith, e b y))))))

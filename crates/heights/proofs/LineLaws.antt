-- The lines of a list: which link decides, and the line of a link over levels.
-- Assumes nothing.
use mathlib.Core.Path.{◌≡◌, sym, subst, ◌∙◌, ap}
use mathlib.Core.List.{List, [], ◌∷◌}
use Prim.Native.Nat.{ℕ, ◌+◌, ◌-◌, ◌*◌, ◌≤◌, ◌<◌}
use native.Mathlib.Nat.{mul-sub, mul-pos}
use native.Mathlib.Omega.{arith}
use lib.Dec.{leb}
use lib.IntN.{ℤ}
use borrow.Author.Tests.{leb-true, leb-false}
use Rattle.lists.proofs.Tests.{by_test}
use Rattle.kept.specs.Kept.{LinksFrom, EachLink, final, KeptList}
use Rattle.trace.specs.Trace.{tick, value}
use Rattle.trace.proofs.Difference.{Diff, same, plus, times, distance}
use Rattle.trace.proofs.Deviation.{line}
use Rattle.heights.specs.Heights.{Fraction, link_at, line_from, line_at}

-- x is the line at a/d of a link with R: the first that ends at or after a/d, of a list whose first sample is 0
pub record Located (ts : List ℕ) (vs : List ℤ) (R : ℕ → ℕ → Type 0) (a d : ℕ) (x : Fraction) : Type 0 where
  pub i : ℕ
  pub j : ℕ
  pub link : R i j
  pub first : 0 < i → d * tick ts i < a
  pub from : d * tick ts i ≤ a
  pub to : a ≤ d * tick ts j
  pub is : x ≡ link_at ts vs i j a d

module _ (ts : List ℕ) (vs : List ℤ) (R : ℕ → ℕ → Type 0) (a d : ℕ) where
  pub located : (s : List ℕ) (i j : ℕ) → LinksFrom R i (j ∷ s) → (0 < i → d * tick ts i < a) → d * tick ts i ≤ a → a ≤ d * tick ts (final j s) → Located ts vs R a d (line_from ts vs i (j ∷ s) a d)
  unfolding line_from
  located [] i j r f from to = by_test (leb a (d * tick ts j))
      (λ e. record { i = i; j = j; link = r.0; first = f; from = from; to = to; is = rw e })
      (λ e. absurd (omega (arith, leb-false a (d * tick ts j) e)))
  located (k ∷ s) i j r f from to = by_test (leb a (d * tick ts j))
      (λ e. record { i = i; j = j; link = r.0; first = f; from = from; to = leb-true a (d * tick ts j) e; is = rw e })
      (λ e. rw e (located s j k r.1 (λ z. leb-false a (d * tick ts j) e) (omega (arith, leb-false a (d * tick ts j) e)) to))

  pub kept_located : {last : ℕ} (l : List ℕ) → 0 < last → KeptList last l → EachLink R l → d * tick ts 0 ≤ a → a ≤ d * tick ts last → Located ts vs R a d (line_at ts vs l a d)
  kept_located [] some k r from to = absurd k.spans
  kept_located (i ∷ []) some k r from to = absurd (omega (arith, k.spans))
  kept_located (i ∷ j ∷ s) some k r from to = located s i j r (λ z. absurd (omega (arith, k.spans.0)))
      (subst (λ (n : ℕ). d * tick ts n ≤ a) (sym k.spans.0) from) (subst (λ (n : ℕ). a ≤ d * tick ts n) (sym k.spans.1) to)

module _ (ts : List ℕ) (vs : List ℤ) (i j a d : ℕ) (from : d * tick ts i ≤ a) (to : a ≤ d * tick ts j) where
  -- the denominator, in two parts
  pub link_den : (link_at ts vs i j a d).den ≡ (a - d * tick ts i) + (d * tick ts j - a)
  unfolding link_at
  link_den = mul-sub d (tick ts j) (tick ts i) ∙ omega arith

  -- the numerator, over any levels
  pub link_num : {base b c : ℕ} → Diff (value vs i) b base → Diff (value vs j) c base →
      Diff (link_at ts vs i j a d).num (line b c (a - d * tick ts i) (d * tick ts j - a)) (base * (link_at ts vs i j a d).den)
  unfolding link_at
  link_num {base} {b} {c} hi hj = rw (distance a (d * tick ts j) to, distance (d * tick ts i) a from)
      (same (plus (times hi (d * tick ts j - a)) (times hj (a - d * tick ts i))) _ _ (omega (arith, ap (λ (n : ℕ). base * n) link_den)))

pub link_positive : (ts : List ℕ) (vs : List ℤ) (i j a d : ℕ) → 1 ≤ d → tick ts i < tick ts j → 1 ≤ (link_at ts vs i j a d).den
unfolding link_at
link_positive ts vs i j a d h k = mul-pos h (omega arith)

-- Laws of `listed`: its length, tests that agree, and that it has exactly the numbers that the test holds of, in rising order.
-- Assumes nothing.
use mathlib.Core.Path.{◌≡◌, refl, sym, ◌∙◌, ap}
use mathlib.Core.Bool.{Bool, true, false, cond}
use mathlib.Core.List.Memᴰ
use mathlib.Core.List.{List, [], ◌∷◌, ◌++◌, append-nil, Memᴰ}
use mathlib.Core.Logic.{◌⊎◌, inl, inr, ⊎_elim}
use Prim.Native.Nat.{ℕ, zero, suc, ◌≤◌, ◌<◌}
use native.Mathlib.Nat.{add-zero, eq-or-lt_of_le}
use native.Mathlib.Omega.{arith}
use lib.Dec.{ltb}
use lib.ListN.{length, get_or, length-append, get_or-append}
use lib.Seq.{get_or-append-add}
use borrow.Author.Tests.{ltb-true, ltb-false}
use Rattle.lists.specs.First.{Clear}
use Rattle.lists.specs.Listed.{listed}
use Rattle.lists.proofs.Tests.{by_test}

pub listed_length : (f : ℕ → Bool) (m : ℕ) → length (listed f m) ≤ m
listed_length f zero = omega arith
listed_length f (suc m) = simp length-append (omega (arith, listed_length f m, one (f m)))
  where
    one : (t : Bool) → length (cond t (m ∷ []) []) ≤ 1
    one true = omega arith
    one false = omega arith

-- tests that agree below m list the same numbers
pub listed_alike : {f g : ℕ → Bool} (m : ℕ) → ((c : ℕ) → c < m → f c ≡ g c) → listed f m ≡ listed g m
listed_alike zero h = refl
listed_alike (suc m) h = rw (listed_alike m (λ c u. h c (omega arith)), h m (omega arith))

pub listed_none : {f : ℕ → Bool} (m : ℕ) → ((c : ℕ) → c < m → f c ≡ false) → listed f m ≡ []
listed_none zero h = refl
listed_none (suc m) h = rw (listed_none m (λ c u. h c (omega arith)), h m (omega arith))

-- each entry is below m and above the one before
pub record RisesBelow (m : ℕ) (l : List ℕ) : Type 0 where
  pub below : (i : ℕ) → i < length l → get_or l i 0 < m
  pub rises : (i : ℕ) → suc i < length l → get_or l i 0 < get_or l (suc i) 0

module _ {m : ℕ} {l : List ℕ} (h : RisesBelow m l) where
  entry : (i : ℕ) → i < length l → get_or (l ++ (m ∷ [])) i 0 ≡ get_or l i 0
  entry i = get_or-append l (m ∷ []) 0 i

  end : (i : ℕ) → i ≡ length l → get_or (l ++ (m ∷ [])) i 0 ≡ m
  end i e = rw (e, ← add-zero (length l)) (get_or-append-add l (m ∷ []) 0 0)

  with_last_lem : RisesBelow (suc m) (l ++ (m ∷ []))
  with_last_lem = record {
    below = λ i u. by_test (ltb i (length l))
        (λ t. let lt = ltb-true i (length l) t in rw (entry i lt) (omega (arith, h.below i lt)))
        (λ t. rw (end i (omega (arith, ltb-false i (length l) t, simp length-append at u))) (omega arith));
    rises = λ i u.
        let lt : i < length l = omega (arith, simp length-append at u) in
        rw (entry i lt) (by_test (ltb (suc i) (length l))
        (λ t. let up = ltb-true (suc i) (length l) t in rw (entry (suc i) up) (h.rises i up))
        (λ t. rw (end (suc i) (omega (arith, lt, ltb-false (suc i) (length l) t))) (h.below i lt)));
  }

  without : RisesBelow (suc m) (l ++ [])
  without = rw append-nil (record { below = λ i u. omega (arith, h.below i u); rises = h.rises })

rises_more : (t : Bool) {m : ℕ} {l : List ℕ} → RisesBelow m l → RisesBelow (suc m) (l ++ cond t (m ∷ []) [])
rises_more true h = with_last_lem h
rises_more false h = without h

module _ (f : ℕ → Bool) where
  -- a number is listed exactly if it is below m and f holds of it
  last_one : {c m : ℕ} (t : Bool) → f m ≡ t → Memᴰ c (cond t (m ∷ []) []) → (c < suc m) × (f c ≡ true)
  last_one true e h = rw (Memᴰ.eq_of_singleton h) (omega arith, e)
  last_one false e h = absurd (Memᴰ.not-nil h)

  pub listed_only : {c : ℕ} (m : ℕ) → Memᴰ c (listed f m) → (c < m) × (f c ≡ true)
  listed_only zero h = absurd (Memᴰ.not-nil h)
  listed_only {c} (suc m) h = go (listed_only m) (Memᴰ.append_cases (listed f m) h)
    where
      go : (Memᴰ c (listed f m) → (c < m) × (f c ≡ true)) → Memᴰ c (listed f m) ⊎ Memᴰ c (cond (f m) (m ∷ []) []) → (c < suc m) × (f c ≡ true)
      go before (inl k) = let p = before k in (omega (arith, p.0), p.1)
      go before (inr k) = last_one (f m) refl k

  pub listed_each : {c : ℕ} (m : ℕ) → c < m → f c ≡ true → Memᴰ c (listed f m)
  listed_each zero h e = absurd (omega arith)
  listed_each {c} (suc m) h e = by_test (ltb c m) (λ t. Memᴰ.append_left _ (listed_each m (ltb-true c m t) e)) (λ t. last (omega (arith, ltb-false c m t)))
    where
      last : c ≡ m → Memᴰ c (listed f (suc m))
      last q = Memᴰ.append_right (listed f m) (rw (sym (ap f q) ∙ e) (Memᴰ.head q))

  pub listed_rising : (m : ℕ) → RisesBelow m (listed f m)
  listed_rising zero = record { below = λ i h. absurd (omega arith); rises = λ i h. absurd (omega arith) }
  listed_rising (suc m) = rises_more (f m) (listed_rising m)

module _ (f : ℕ → Bool) where
  -- numbers that the test does not hold of are passed over
  pub listed_skip : (a m : ℕ) → a ≤ m → Clear f a m → listed f m ≡ listed f a
  listed_skip a zero le c = let e : zero ≡ a = omega arith in ap (listed f) e
  listed_skip a (suc m) le c = ⊎_elim
      (λ e. ap (listed f) (sym e))
      (λ lt. rw (c.none m (omega arith) (omega arith), append-nil) (listed_skip a m (omega arith) (record { none = λ k l u. c.none k l (omega arith) })))
      (eq-or-lt_of_le le)

  -- and the next that it does hold of is listed
  pub listed_next : {a m : ℕ} → a ≤ m → Clear f a m → f m ≡ true → listed f (suc m) ≡ listed f a ++ (m ∷ [])
  listed_next {a} {m} le c e = rw (e, listed_skip a m le c)

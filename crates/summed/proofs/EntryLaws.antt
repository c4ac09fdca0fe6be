-- Laws of the entries of rising lists: which numbers are entries, those at and after a position of a kept list, and that it has no others.
-- Assumes nothing.
use mathlib.Core.Path.{◌≡◌, refl, sym, ◌∙◌, ap, subst}
use mathlib.Core.Logic.{⊎_elim}
use mathlib.Core.Bool.{Bool, true, false, cond}
use mathlib.Core.List.{List, [], ◌∷◌, ◌++◌, append-nil, append_assoc}
use Prim.Native.Nat.{ℕ, zero, suc, ◌+◌, ◌-◌, ◌≤◌, ◌<◌}
use native.Mathlib.Nat.{eq-or-lt_of_le}
use native.Mathlib.Decide.{dec_lt}
use native.Mathlib.Omega.{arith}
use lib.Dec.{eqb}
use lib.ListN.{length}
use borrow.Author.Tests.{eq-eqb, ne_eqb, eqb-true, eqb-false}
use Rattle.lists.specs.First.{Clear}
use Rattle.lists.specs.Listed.{listed}
use Rattle.lists.proofs.ListedLaws.{listed_next}
use Rattle.lists.proofs.Tests.{by_test, or_first, or_second, true_false}
use Rattle.kept.specs.Kept.{LinksFrom, EachLink, final, KeptList}
use Rattle.kept.proofs.KeptLaws.{links_at}
use Rattle.proposed.specs.Proposed.{entry}
use Rattle.summed.specs.Sum.{is_entry}

pub entry_is : (l : List ℕ) (p : ℕ) → p < length l → is_entry l (entry l p) ≡ true
entry_is [] p h = absurd (omega arith)
entry_is (i ∷ l) zero h = or_first _ _ (eq-eqb i i refl)
entry_is (i ∷ l) (suc p) h = or_second (eqb (entry l p) i) _ (entry_is l p (omega arith))

pub not_entry : (l : List ℕ) (k : ℕ) → ((p : ℕ) → p < length l → entry l p ≡ k → ⊥) → is_entry l k ≡ false
not_entry [] k h = refl
not_entry (i ∷ l) k h = rw (ne_eqb k i (λ q. h 0 (omega arith) (sym q))) (not_entry l k (λ p lt. h (suc p) (omega arith)))

-- both ends of a kept list
final_is : (i : ℕ) (s : List ℕ) → is_entry (i ∷ s) (final i s) ≡ true
final_is i [] = or_first _ _ (eq-eqb i i refl)
final_is i (j ∷ s) = or_second (eqb (final j s) i) _ (final_is j s)

module _ {last : ℕ} where
  pub first_entry : (l : List ℕ) → KeptList last l → is_entry l 0 ≡ true
  first_entry [] kept = absurd kept.spans
  first_entry (i ∷ s) kept = or_first _ _ (eq-eqb 0 i (sym kept.spans.0))

  pub last_entry : (l : List ℕ) → KeptList last l → is_entry l last ≡ true
  last_entry [] kept = absurd kept.spans
  last_entry (i ∷ s) kept = subst (λ (k : ℕ). is_entry (i ∷ s) k ≡ true) kept.spans.1 (final_is i s)

-- a rising list has its entries in order
not_below : (l : List ℕ) → EachLink ◌<◌ l → (i p : ℕ) → i ≤ p → p < length l → entry l i ≤ entry l p
not_below l r i zero le h = let e : i ≡ 0 = omega arith in rw e (omega arith)
not_below l r i (suc p) le h = ⊎_elim
    (λ e. rw e (omega arith))
    (λ lt. omega (arith, not_below l r i p (omega arith) (omega arith), links_at ◌<◌ l r p h))
    (eq-or-lt_of_le le)

-- the entries before position i are below `next`, and the one at i is not
pub record Passed (l : List ℕ) (i next : ℕ) : Type 0 where
  pub before : (p : ℕ) → p < i → p < length l → entry l p < next
  pub at : i < length l → next ≤ entry l i

pub passed_none : (l : List ℕ) → Passed l 0 0
passed_none l = record { before = λ p u lt. absurd (omega arith); at = λ lt. omega arith }

module _ {last : ℕ} {l : List ℕ} (kept : KeptList last l) {i next : ℕ} (h : Passed l i next) where
  -- a kept list goes on to the last sample
  pub passed_inside : next ≤ last → i < length l
  passed_inside le = elim (dec_lt i (length l)) [
    | yes q ↦ q
    | no q ↦ true_false (last_entry l kept) (not_entry l last (λ p lt e. omega (arith, h.before p (omega arith) lt)))
  ]

  module _ (lt : i < length l) where
    -- between `next` and the entry at i there is none
    pub passed_absent : (k : ℕ) → next ≤ k → k < entry l i → is_entry l k ≡ false
    passed_absent k le less = not_entry l k (λ p inside e. elim (dec_lt p i) [
      | yes q ↦ omega (arith, h.before p q inside)
      | no q ↦ omega (arith, not_below l kept.rises i p (omega arith) inside)
    ])

    -- the sample s is passed, which lies between them or is that entry
    pub passed_more : (s : ℕ) → next ≤ s → s ≤ entry l i → Passed l (cond (eqb (entry l i) s) (i + 1) i) (s + 1)
    passed_more s le up = by_test (eqb (entry l i) s)
        (λ t. let e = eqb-true (entry l i) s t in rw t (record {
          before = λ p u inside. ⊎_elim (λ q. rw q (omega (arith, e))) (λ q. omega (arith, h.before p q inside)) (eq-or-lt_of_le {n = p} {m = i} (omega arith));
          at = λ more. let next_one = links_at ◌<◌ l kept.rises i (omega arith) in let d : suc i ≡ i + 1 = omega arith in omega (arith, rw d at next_one);
        }))
        (λ t. let e = eqb-false (entry l i) s t in rw t (record {
          before = λ p u inside. omega (arith, h.before p u inside);
          at = λ more. omega (arith, e);
        }))

-- ---- a kept list is the list of its entries

-- entries lie above what they follow
none_below : (p : ℕ) (s : List ℕ) → LinksFrom ◌<◌ p s → (k : ℕ) → k ≤ p → is_entry s k ≡ false
none_below p [] r k le = refl
none_below p (j ∷ s) r k le = rw (ne_eqb k j (λ e. omega (arith, r.0))) (none_below j s r.1 k (omega (arith, r.0)))

-- the numbers above p that f holds of are the entries of s
entries_from : (f : ℕ → Bool) (p : ℕ) (s : List ℕ) → LinksFrom ◌<◌ p s → ((k : ℕ) → p < k → f k ≡ is_entry s k) → listed f (suc (final p s)) ≡ listed f (suc p) ++ s
entries_from f p [] r h = sym (append-nil (listed f (suc p)))
entries_from f p (j ∷ s) r h =
    let above : (k : ℕ) → j < k → f k ≡ is_entry s k = λ k lt. h k (omega (arith, r.0)) ∙ rw (ne_eqb k j (λ e. omega arith)) in
    let none : Clear f (suc p) j = record { none = λ k lo hi. h k lo ∙ rw (ne_eqb k j (λ e. omega arith)) (none_below j s r.1 k (omega arith)) } in
    let here : f j ≡ true = h j r.0 ∙ or_first (eqb j j) _ (eq-eqb j j refl) in
    entries_from f j s r.1 above ∙ ap (λ (z : List ℕ). z ++ s) (listed_next f r.0 none here) ∙ append_assoc (listed f (suc p)) (j ∷ []) s

kept_listed : {last : ℕ} {l : List ℕ} → KeptList last l → listed (is_entry l) (suc last) ≡ l
kept_listed {l = []} kept = absurd kept.spans
kept_listed {l = i ∷ s} kept =
    let f = is_entry (i ∷ s) in
    let begins : listed f (suc i) ≡ i ∷ [] = listed_next f {a = 0} (omega arith) (record { none = λ k lo hi. absurd (omega (arith, kept.spans.0)) }) (or_first (eqb i i) _ (eq-eqb i i refl)) in
    rw (← kept.spans.1) (entries_from f i s kept.rises (λ k lt. rw (ne_eqb k i (λ e. omega arith))) ∙ ap (λ (z : List ℕ). z ++ s) begins)

pub entries_listed : {n : ℕ} {l : List ℕ} → 1 ≤ n → KeptList (n - 1) l → listed (is_entry l) n ≡ l
entries_listed {n} {l} some kept = let e : suc (n - 1) ≡ n = omega arith in subst (λ (k : ℕ). listed (is_entry l) k ≡ l) e (kept_listed kept)

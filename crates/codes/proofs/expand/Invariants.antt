-- `codes::expand` meets its contract. The loop's invariant: the values of the first i and of the last i codes are written,
-- and nothing behind them. Assumes nothing.
use mathlib.Core.Path.{◌≡◌, refl, sym, ◌∙◌, subst}
use mathlib.Core.Logic.{◌⊎◌, inl, inr, ⊎_elim}
use mathlib.Core.List.{List}
use Prim.Native.Nat.{ℕ, suc, ◌+◌, ◌-◌, ◌≤◌, ◌<◌}
use native.Mathlib.Nat.{eq-or-lt_of_le}
use native.Mathlib.Omega.{arith}
use borrow.Author.Tests.{eqb-true, eqb-false, leb-true, leb-false}
use lib.Dec.{eqb, leb}
use lib.IntN.{ℤ, pos}
use lib.ListN.{length, get_or, set, length-map, length-set, get_or-map}
use lib.Seq.{get_or-set_same, get_or-set_other}
use Rattle.lists.specs.Overwrite.{overwrite}
use Rattle.lists.proofs.Tests.{by_test}
use Rattle.lists.proofs.OverwriteLaws.{overwrite_entries}
use Rattle.codes.specs.Code.{code_value, code_values}
use Rattle.codes.proofs.expand.Given as goal

module _ (codes : List ℕ) where
  abbrev pub value_at : ℕ → ℤ
  value_at k = pos (code_value (get_or codes k 0))

  -- the values of the codes at which P holds are written over o
  pub record Going (o out : List ℤ) (P : ℕ → Type 0) : Type 0 where
    pub long : length out ≡ length o
    pub has : (k : ℕ) → k < length codes → P k → get_or out k (pos 0) ≡ value_at k
    pub behind : (k : ℕ) → length codes ≤ k → get_or out k (pos 0) ≡ get_or o k (pos 0)

  -- the codes of the first i and of the last i
  abbrev pub Passed : ℕ → ℕ → Type 0
  Passed i k = (k < i) ⊎ (length codes ≤ k + i)

  pub starts : (o : List ℤ) → Going o o (Passed 0)
  starts o = record { long = refl; has = λ k h p. absurd (⊎_elim (λ l. omega arith) (λ l. omega arith) p); behind = λ k h. refl }

  module _ {o out : List ℤ} {P : ℕ → Type 0} (g : Going o out P) (room : length codes ≤ length o) where
    -- one value more
    pub puts : {j : ℕ} → j < length codes → {a : List ℤ} → a ≡ set out j (value_at j) → Going o a (λ (k : ℕ). (k ≡ j) ⊎ P k)
    puts {j} h {a} e =
        let new = get_or-set_same out j (value_at j) (pos 0) (omega (arith, g.long)) in
        rw e (record {
          long = length-set out j (value_at j) ∙ g.long;
          has = λ k l p. by_test (eqb k j)
              (λ t. subst (λ (k : ℕ). get_or (set out j (value_at j)) k (pos 0) ≡ value_at k) (sym (eqb-true k j t)) new)
              (λ f. get_or-set_other out j k (value_at j) (pos 0) (eqb-false k j f) ∙ g.has k l (⊎_elim (λ q. absurd (eqb-false k j f q)) (λ p. p) p));
          behind = λ k l. get_or-set_other out j k (value_at j) (pos 0) (λ q. absurd (omega arith)) ∙ g.behind k l;
        })

    pub ends : ((k : ℕ) → k < length codes → P k) → out ≡ overwrite (code_values codes) o
    unfolding code_value
    ends all =
        let count : length (code_values codes) ≡ length codes = length-map codes (λ (c : ℕ). pos (code_value c)) in
        overwrite_entries (pos 0) (code_values codes) o out (omega (arith, count)) g.long
        (λ k h. let l : k < length codes = omega (arith, count) in g.has k l (all k l) ∙ sym (get_or-map (λ (c : ℕ). pos (code_value c)) codes k 0))
        (λ k h. g.behind k (omega (arith, count)))

  -- a value more from either end
  pub next : {o out : List ℤ} {i : ℕ} → Going o out (λ (k : ℕ). (k ≡ length codes - 1 - i) ⊎ ((k ≡ i) ⊎ Passed i k)) → Going o out (Passed (i + 1))
  next g = record {
    long = g.long;
    has = λ k l p. g.has k l (⊎_elim
        (λ h. inr (⊎_elim inl (λ q. inr (inl q)) (eq-or-lt_of_le {n = k} {m = _} (omega arith))))
        (λ h. ⊎_elim (λ q. inl (sym q)) (λ q. inr (inr (inr (omega arith)))) (eq-or-lt_of_le {n = length codes - 1 - _} {m = k} (omega arith)))
        p);
    behind = g.behind;
  }

  pub met : {i : ℕ} → length codes ≤ i + i → (k : ℕ) → Passed i k
  met {i} h k = by_test (leb (suc k) i) (λ t. inl (leb-true (suc k) i t)) (λ f. inr (omega (arith, leb-false (suc k) i f)))

abbrev pub invariant-loop-i : goal.invariant-loop-i
invariant-loop-i l = Going l.codes l.initial.out l.out (Passed l.codes l.i)

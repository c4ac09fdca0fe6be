-- When the parts of a tolerance agree: exactly if they are equal, as values too, since a tolerance is held in lowest terms. Assumes nothing.
use Rattle.std.proofs.Common.{◌≡◌, ℕ, ◌*◌, ◌<◌, Bool, true, false, ◌&&◌, eqb, ◌↔◌, sym, refl, ap, subst, arith, eq-eqb, eqb-true, None, Some}
use native.Mathlib.Nat.{eq_of_mul-eq-mul_right}
use Rattle.ratio.specs.declared.Ratio.{Ratio}
use Rattle.ratio.specs.Order.{over}
use Rattle.ratio.specs.Gcd.{lowest}
use Rattle.ratio.proofs.Laws.{lowest_same, lowest_antisym, lowest_equal, lowest_pos}
use Rattle.tolerance.specs.declared.Parts.{Parts}
use Rattle.tolerance.specs.declared.Tolerance.TheVariants.{Ratio as One, Parts as Each}
use Rattle.tolerance.specs.Meaning.{meaning, alike, agree, allowed_ratio, held, held_each, HeldParts}
use Rattle.tolerance.proofs.Meanings.{allowed_pos}

both : (a b : Bool) → a && b ≡ true → (a ≡ true) × (b ≡ true)
both true b e = (refl, e)
both false b e = (e, cc)

module _ (x : Parts) where
  agree_equal : agree x ≡ true → x.up ≡ x.down
  unfolding agree
  agree_equal e =
      let f = both (eqb x.up.p x.down.p) (eqb x.up.q x.down.q) e in
      same (eqb-true _ _ f.0) (eqb-true _ _ f.1)
    where
      same : {a b c d : ℕ} → a ≡ c → b ≡ d → over a b ≡ over c d
      same e f = rw (e, f)

  equal_agree : x.up ≡ x.down → agree x ≡ true
  unfolding agree
  equal_agree e = rw (eq-eqb _ _ (ap (λ (r : Ratio). r.p) e), eq-eqb _ _ (ap (λ (r : Ratio). r.q) e))

  -- the parts agree exactly if they are one ratio
  pub agree_exact : agree x ≡ true ↔ x.up ≡ x.down
  agree_exact = (agree_equal, equal_agree)

  pub agree_parts : agree x ≡ true → x ≡ alike x.up
  agree_parts e = ap (λ (r : Ratio). record { up = x.up; down = r }) (sym (agree_equal e))

  -- and, where they are held, exactly if they are equal as values
  pub agree_values : HeldParts x → agree x ≡ true ↔ x.up.p * x.down.q ≡ x.down.p * x.up.q
  agree_values h = (
    λ e. rw (agree_equal e),
    λ e. equal_agree (lowest_antisym x.up x.down h.up.positive h.down.positive h.up.coprime h.down.coprime (omega arith) (omega arith)),
  )

-- fractions of the same lowest terms are equal
same_lowest : (a b c d : ℕ) → 0 < b → 0 < d → lowest a b ≡ lowest c d → a * d ≡ c * b
same_lowest a b c d B D e =
    let u = lowest a b in
    let f : u.p * b ≡ a * u.q = lowest_equal a b in
    let g : u.p * d ≡ c * u.q = subst (λ (v : Ratio). v.p * d ≡ c * v.q) (sym e) (lowest_equal c d) in
    eq_of_mul-eq-mul_right u.q (lowest_pos a b B) (a * d) (c * b) (omega (arith, ap (λ (z : ℕ). z * d) f, ap (λ (z : ℕ). z * b) g))

refused : {x : Parts} → None ≡ Some x → ⊥
refused e = let z : ◌≡◌ {A = ℕ} 0 1 = cc in omega arith

-- one ratio for both agrees
pub agree_alike : (r : Ratio) → agree (alike r) ≡ true
agree_alike r = (agree_exact (alike r)).1 refl

-- parts that are one ratio mean what that ratio means
pub alike_meaning : (r : Ratio) → meaning (Each (alike r)) ≡ meaning (One r.p r.q)
alike_meaning r = go (allowed_ratio r.p r.q)
  where
    go : (b : Bool) → held_each (b && b) (alike r) ≡ held b r.p r.q
    go true = refl
    go false = refl

-- parts that are allowed agree once held exactly if they are equal as values: 2 / 2 and 1 / 1 do
pub meaning_agree : (y x : Parts) → meaning (Each y) ≡ Some x → agree x ≡ true ↔ y.up.p * y.down.q ≡ y.down.p * y.up.q
meaning_agree y x = go (allowed_ratio y.up.p y.up.q) refl (allowed_ratio y.down.p y.down.q) refl
  where
    values : 0 < y.up.q → 0 < y.down.q → agree (record { up = lowest y.up.p y.up.q; down = lowest y.down.p y.down.q }) ≡ true ↔ y.up.p * y.down.q ≡ y.down.p * y.up.q
    values U D = (
      λ e. same_lowest y.up.p y.up.q y.down.p y.down.q U D ((agree_exact _).0 e),
      λ e. (agree_exact _).1 (lowest_same y.up.p y.up.q y.down.p y.down.q U D e),
    )

    go : (a : Bool) → allowed_ratio y.up.p y.up.q ≡ a → (b : Bool) → allowed_ratio y.down.p y.down.q ≡ b → held_each (a && b) y ≡ Some x
        → agree x ≡ true ↔ y.up.p * y.down.q ≡ y.down.p * y.up.q
    go true u true d e =
        let s : record { up = lowest y.up.p y.up.q; down = lowest y.down.p y.down.q } ≡ x = cc in
        subst (λ (z : Parts). agree z ≡ true ↔ y.up.p * y.down.q ≡ y.down.p * y.up.q) s (values (allowed_pos _ _ u) (allowed_pos _ _ d))
    go true u false d e = absurd (refused e)
    go false u b d e = absurd (refused e)

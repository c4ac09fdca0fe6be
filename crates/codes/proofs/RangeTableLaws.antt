-- Laws of tables of range values: row 12 applies to a table exactly if it is not 256 long or does not rise; where it rises,
-- a higher code has a higher value.
-- Assumes nothing.
use Rattle.std.specs.Prelude.{Ok}
use mathlib.Core.Path.{◌≡◌, refl, subst}
use mathlib.Core.Bool.{false}
use mathlib.Core.List.{List}
use Prim.Native.Nat.{ℕ, zero, suc, ◌+◌, ◌-◌, ◌≤◌, ◌<◌}
use native.Mathlib.Nat.{zero-add, suc-add, le_of_lt}
use native.Mathlib.Omega.{arith}
use lib.Dec.{le→leb, lt→ltb, ltb→lt}
use lib.IntN.{ℤ, pos, negsuc}
use lib.ListN.{length}
use lib.Signed.{le_z, ◌≤ℤ◌, ◌<ℤ◌, le_z_yes, <ℤ-≤ℤ_trans, clash_ℤ}
use borrow.Author.Tests.{leb-true, leb-false, eq-eqb, eqb-true}
use Rattle.lists.specs.First.{first}
use Rattle.lists.proofs.Tests.{true_false, is_true, is_false}
use Rattle.lists.proofs.FirstLaws.{first_found, first_none, neighbours_clear, clear_neighbours}
use Rattle.refusal.proofs.TableLaws.{row_fine, then_fine}
use Rattle.codes.specs.RangeTable.{value_in, Rises, not_rising, table_row}

-- ---- the order of whole numbers

above : (a b : ℤ) → le_z a b ≡ false → b <ℤ a
above (pos a) (pos b) h = record { lt = lt→ltb b a (leb-false a b h) }
above (pos a) (negsuc b) h = record { lt = tt }
above (negsuc a) (pos b) h = true_false refl h
above (negsuc a) (negsuc b) h = record { lt = lt→ltb a b (leb-false b a h) }

not_above : {a b : ℤ} → b <ℤ a → le_z a b ≡ false
not_above {a} {b} h = is_false (le_z a b) (λ e. clash_ℤ h (le_z_yes (is_true e)))

at_most : (a b : ℤ) → a <ℤ b → a ≤ℤ b
at_most (pos a) (pos b) h = record { le = le→leb a b (le_of_lt (ltb→lt a b h.lt)) }
at_most (pos a) (negsuc b) h = absurd h.lt
at_most (negsuc a) (pos b) h = record { le = tt }
at_most (negsuc a) (negsuc b) h = record { le = le→leb b a (le_of_lt (ltb→lt b a h.lt)) }

module _ (t : List ℤ) where
  -- ---- row 12 applies to no table of 256 values that rises, and to all others

  pub rises_fine : length t ≡ 256 → Rises t → table_row t ≡ Ok tt
  unfolding table_row
  rises_fine all r = rw (
    eq-eqb (length t) 256 all,
    first_none {f = not_rising t} {a = 1} {b = 256} (omega arith) (neighbours_clear (λ (d c : ℕ). le_z (value_in t d) (value_in t c)) (λ c l. not_above (r.rises c (omega arith)))),
  )

  pub fine_rises : table_row t ≡ Ok tt → (length t ≡ 256) × Rises t
  unfolding table_row
  fine_rises e =
      let a = then_fine _ _ e in
      let all : length t ≡ 256 = eqb-true (length t) 256 (row_fine _ _ a.0) in
      let f = first_found (not_rising t) 1 256 (omega arith) in
      let none : 256 ≤ first (not_rising t) 1 256 = leb-true _ _ (row_fine _ _ a.1) in (
        all,
        record { rises = λ c l. above (value_in t (suc c)) (value_in t c) (clear_neighbours (λ (d c : ℕ). le_z (value_in t d) (value_in t c)) f.clear c (omega arith)) },
      )

  -- ---- a higher code has a higher value

  module _ (r : Rises t) where
    step : (n c : ℕ) → suc (n + c) < length t → value_in t c <ℤ value_in t (suc (n + c))
    step zero c h = rw zero-add (r.rises c (omega arith))
    step (suc n) c h = rw suc-add (<ℤ-≤ℤ_trans (step n c (omega arith)) (at_most _ _ (r.rises (suc (n + c)) (omega arith))))

    pub higher_code : (c d : ℕ) → c < d → d < length t → value_in t c <ℤ value_in t d
    higher_code c d h l =
        let e : suc ((d - suc c) + c) ≡ d = omega arith in
        subst (λ (k : ℕ). value_in t c <ℤ value_in t k) e (step (d - suc c) c (omega arith))

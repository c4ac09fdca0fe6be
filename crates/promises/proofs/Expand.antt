-- What follows from the contract of expand_with.
--   with_built_in   with a table of the values that the rule gives it is expand: an outcome is the one's exactly if it is the
--                   other's
--   with_value      each entry written is the table's value of its code
--   with_order      a higher code has a higher value, so the values written tell the codes
-- Assumes nothing.
use Rattle.std.specs.Prelude.{Err, Ok, Result, ℕ}
use mathlib.Core.Path.{◌≡◌, sym, ◌∙◌, ap, subst}
use mathlib.Core.Logic.{◌↔◌}
use mathlib.Core.List.{List}
use Prim.Native.Nat.{ℕ, ◌<◌}
use native.Mathlib.Omega.{arith}
use lib.IntN.{ℤ, pos}
use lib.ListN.{length, get_or, get_or-append}
use lib.Signed.{◌<ℤ◌}
use Rattle.lists.specs.Overwrite.{Wrote}
use Rattle.lists.proofs.SelectLaws.{select_length, select_at}
use Rattle.codes.specs.RangeTable.{value_in, values_in, expand_with_rows}
use Rattle.codes.specs.Code.{code_values, code_table}
use Rattle.codes.proofs.RangeTableLaws.{fine_rises, higher_code}
use Rattle.codes.proofs.RowLaws.{with_table, fine_with}
use Rattle.codes.proofs.CodeLaws.{code_table_fine, code_values_lem}
use Rattle.expanding.specs.Expand.{expand_rows, ExpandOutcome, ExpandWithOutcome}
use Rattle.refusal.specs.declared.Refusal.{Refusal}

module _ (codes : List ℕ) (byte : (i : ℕ) → get_or codes i 0 < 256) (o o' : List ℤ) where
  same_rows : expand_with_rows codes code_table (length o) ≡ expand_rows codes (length o)
  unfolding expand_rows
  same_rows = with_table codes code_table (length o) code_table_fine

  same_values : values_in code_table codes ≡ code_values codes
  same_values = code_values_lem codes byte

  pub with_built_in : (r : Result ℕ Refusal) → ExpandWithOutcome codes code_table o r o' ↔ ExpandOutcome codes o r o'
  with_built_in (Ok n) = (
    λ x. (sym same_rows ∙ x.0, subst (λ (l : List ℤ). Wrote l o n o') same_values x.1),
    λ x. (same_rows ∙ x.0, subst (λ (l : List ℤ). Wrote l o n o') (sym same_values) x.1),
  )
  with_built_in (Err x) = (λ y. (sym same_rows ∙ y.0, y.1), λ y. (same_rows ∙ y.0, y.1))

module _ (codes : List ℕ) (t o o' : List ℤ) (n : ℕ) (x : ExpandWithOutcome codes t o (Ok n) o') where
  pub with_value : (i : ℕ) → i < length codes → get_or o' i (pos 0) ≡ value_in t (get_or codes i 0)
  with_value i h =
      ap (λ (l : List ℤ). get_or l i (pos 0)) x.1.content ∙ get_or-append (values_in t codes) _ (pos 0) i (omega (arith, select_length (pos 0) t codes)) ∙ select_at (pos 0) t codes i h

  pub with_order : (i j : ℕ) → i < length codes → j < length codes → get_or codes i 0 < get_or codes j 0 → get_or codes j 0 < 256 → get_or o' i (pos 0) <ℤ get_or o' j (pos 0)
  with_order i j h k l byte =
      let r = fine_rises t (fine_with codes t (length o) x.0).0 in
      rw (with_value i h, with_value j k) (higher_code t r.1 (get_or codes i 0) (get_or codes j 0) l (omega (arith, r.0)))

-- Laws of the rows of expand_with: what row 12 finds between the others, and what holds where none applies.
-- Assumes nothing.
use Rattle.std.specs.Prelude.{Ok}
use mathlib.Core.Path.{◌≡◌, refl, sym, ◌∙◌}
use mathlib.Core.Bool.{◌&&◌}
use mathlib.Core.List.{List}
use Prim.Native.Nat.{ℕ, ◌≤◌}
use lib.Dec.{leb}
use lib.IntN.{ℤ}
use lib.ListN.{length}
use borrow.Author.Tests.{leb-true}
use Rattle.refusal.specs.declared.Refusal.TheVariants.{Length}
use Rattle.refusal.specs.Table.{row, room_row, ◌then_check◌, Checked}
use Rattle.refusal.proofs.TableLaws.{row_fine, then_fine}
use Rattle.codes.specs.RangeTable.{table_row, expand_with_rows}

module _ (codes : List ℕ) (t : List ℤ) (room : ℕ) where
  -- the rows, with what row 12 finds between 1 and 10
  pub with_table : {found : Checked} → table_row t ≡ found → expand_with_rows codes t room ≡ (row (leb 1 (length codes) && leb (length codes) 4096) Length then_check found then_check room_row (length codes) room)
  unfolding expand_with_rows
  with_table e = rw e refl

  pub fine_with : expand_with_rows codes t room ≡ Ok tt → (table_row t ≡ Ok tt) × (length codes ≤ room)
  fine_with e =
      let a = then_fine (row (leb 1 (length codes) && leb (length codes) 4096) Length) _ (sym (with_table refl) ∙ e) in
      let b = then_fine (table_row t) (room_row (length codes) room) a.1 in
      (b.0, leb-true _ _ (row_fine _ _ b.1))

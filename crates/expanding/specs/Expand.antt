-- The outcomes of expand (document 01, "Range codes" and rows 1 and 10 of "When the engine declines") and of expand_with
-- (document 02, "Our own range table").
--   expand_rows                        the first of the rows 1, 10 that applies; every code is legal
--   ExpandOutcome, ExpandWithOutcome   the contracts: by cases on the answer
-- A refused call leaves the lent list as it was. Otherwise its first entries are the values, and the others stay.
-- Assumes nothing.
use Rattle.std.specs.Prelude.{◌≡◌, ◌&&◌, List, ℕ, leb, ℤ, length, Err, Ok, Result}
use Rattle.lists.specs.Overwrite.{Wrote}
use Rattle.refusal.specs.declared.Refusal.TheVariants.{Length}
use Rattle.refusal.specs.Table.{row, room_row, ◌then_check◌, Checked}
use Rattle.codes.specs.RangeTable.{values_in, expand_with_rows}
use Rattle.codes.specs.Code.{code_values}
use Rattle.refusal.specs.declared.Refusal.{Refusal}

unfoldable pub expand_rows : List ℕ → ℕ → Checked
expand_rows codes room = row (leb 1 (length codes) && leb (length codes) 4096) Length then_check room_row (length codes) room

abbrev pub ExpandOutcome : List ℕ → List ℤ → Result ℕ Refusal → List ℤ → Type 0
ExpandOutcome codes o (Ok n) o' = (expand_rows codes (length o) ≡ Ok tt) × Wrote (code_values codes) o n o'
ExpandOutcome codes o (Err x) o' = (expand_rows codes (length o) ≡ Err x) × (o' ≡ o)

abbrev pub ExpandWithOutcome : List ℕ → List ℤ → List ℤ → Result ℕ Refusal → List ℤ → Type 0
ExpandWithOutcome codes table o (Ok n) o' = (expand_with_rows codes table (length o) ≡ Ok tt) × Wrote (values_in table codes) o n o'
ExpandWithOutcome codes table o (Err x) o' = (expand_with_rows codes table (length o) ≡ Err x) × (o' ≡ o)

-- Tables of range values (document 02, "Our own range table"), and the rows 1, 12 and 10 of document 01, "When the engine
-- declines".
--   value_in, values_in   the value of a code in a table; those of codes, as expanding by it writes them
--   Rises                 each value is above the one before
--   not_rising            the codes of which row 12 names the first
--   table_row             row 12: whether a table may be used
--   expand_with_rows      the first of the rows 1, 12, 10 that applies to codes, a table and an output of `room` entries
-- Laws are in RangeTableLaws. Assumes nothing.
use Rattle.std.specs.Prelude.{Bool, ◌&&◌, List, ℕ, suc, ◌-◌, ◌<◌, leb, eqb, ℤ, pos, length, get_or, ◌<ℤ◌}
use Rattle.std.specs.Int.Signed.{le_z}
use Rattle.lists.specs.First.{first}
use Rattle.lists.specs.Select.{select}
use Rattle.refusal.specs.declared.Refusal.TheVariants.{Length, Table}
use Rattle.refusal.specs.Table.{row, placed, room_row, ◌then_check◌, Checked}

abbrev pub value_in : List ℤ → ℕ → ℤ
value_in t c = get_or t c (pos 0)

abbrev pub values_in : List ℤ → List ℕ → List ℤ
values_in t codes = select (pos 0) t codes

pub record Rises (t : List ℤ) : Type 0 where
  pub rises : (c : ℕ) → suc c < length t → value_in t c <ℤ value_in t (suc c)

-- the value of code c is not above the one before
abbrev pub not_rising : List ℤ → ℕ → Bool
not_rising t c = le_z (value_in t c) (value_in t (c - 1))

-- 12: a table that is not 256 long, at 0; one that does not rise, at the first code that does not
unfoldable pub table_row : List ℤ → Checked
table_row t = row (eqb (length t) 256) (Table 0) then_check placed Table 256 (first (not_rising t) 1 256)

-- every code is legal
unfoldable pub expand_with_rows : List ℕ → List ℤ → ℕ → Checked
expand_with_rows codes t room = row (leb 1 (length codes) && leb (length codes) 4096) Length then_check table_row t then_check room_row (length codes) room

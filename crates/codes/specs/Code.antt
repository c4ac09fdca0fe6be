-- Range codes (document 01, "Range codes"; document 02, "Smaller firmware image").
--   code_value        the value of a code
--   code_values       the values of codes, as expanding writes them
--   values_from       the values of n codes from c on
--   code_table        the values of all 256 codes, as a table
-- Laws are in CodeLaws. Assumes nothing.
use Rattle.std.specs.Prelude.{List, [], ◌∷◌, map, ℕ, zero, suc, ◌+◌, ◌-◌, ◌*◌, ◌/◌, ◌%◌, ◌^◌, ℤ, pos}

-- the code c = 32 e + m with m below 32: 2 ^ e times (m + 32), minus 32
unfoldable pub code_value : ℕ → ℕ
code_value c = 2 ^ (c / 32) * (c % 32 + 32) - 32

abbrev pub code_values : List ℕ → List ℤ
code_values codes = map (λ (c : ℕ). pos (code_value c)) codes

unfoldable pub values_from : ℕ → ℕ → List ℤ
values_from c zero = []
values_from c (suc n) = pos (code_value c) ∷ values_from (suc c) n

abbrev pub code_table : List ℤ
code_table = values_from 0 256

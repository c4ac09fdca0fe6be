-- Numbers in a record (document 01, "The record"): high byte first, signed ones in two's complement.
--   number_from, field   the number in some bytes; the number in k bytes from a place on
--   bytes_onto           the bytes of a number, before other bytes
--   Bytes                every element is a byte
--   flip16, flip8        offset binary to two's complement, of 16 bits and of 8; and back
--   value_of             the value of a level
-- Laws are in NumberLaws. Assumes nothing.
use Rattle.std.specs.Prelude.{List, [], ◌∷◌, ℕ, zero, suc, ◌+◌, ◌*◌, ◌/◌, ◌%◌, ◌<◌, ℤ, pos, ◌-ℤ◌, take, drop, get_or}

-- the number that goes on from n with the bytes xs
unfoldable pub number_from : ℕ → List ℕ → ℕ
number_from n [] = n
number_from n (x ∷ xs) = number_from (n * 256 + x) xs

abbrev pub field : List ℕ → ℕ → ℕ → ℕ
field s i k = number_from 0 (take k (drop i s))

-- the k bytes of n, and then xs
unfoldable pub bytes_onto : ℕ → ℕ → List ℕ → List ℕ
bytes_onto zero n xs = xs
bytes_onto (suc k) n xs = bytes_onto k (n / 256) (n % 256 ∷ xs)

pub record Bytes (s : List ℕ) : Type 0 where
  pub byte : (i : ℕ) → get_or s i 0 < 256

abbrev pub flip16 : ℕ → ℕ
flip16 x = (x + 32768) % 65536

abbrev pub flip8 : ℕ → ℕ
flip8 x = (x + 128) % 256

unfoldable pub value_of : ℕ → ℤ
value_of l = pos l -ℤ pos 32768

-- Laws of the values of codes, for all codes at once: what the shift gives in 16 bits, and the strict rise. A table of all
-- values passes the check of a table, and codes expanded by it have the values that the rule gives.
-- Assumes nothing.
use Rattle.std.specs.Prelude.{Ok}
use mathlib.Core.Path.{◌≡◌, refl, ap}
use mathlib.Core.Logic.{⊎_elim}
use mathlib.Core.List.{List, [], ◌∷◌}
use Prim.Native.Nat.{ℕ, zero, suc, ◌+◌, ◌*◌, ◌/◌, ◌%◌, ◌^◌, ◌<◌}
use native.Mathlib.Nat.{add-zero, zero-add, add-suc, suc-add, eq-or-lt_of_le, lt_trans, pow-suc}
use native.Mathlib.Omega.{arith}
use lib.Dec.{lt→ltb}
use lib.IntN.{pos}
use lib.ListN.{length, get_or}
use lib.Pow.{pow_pos, pow_mono, shl_exact, shl_lt}
use Rattle.codes.specs.RangeTable.{value_in, values_in, Rises, table_row}
use Rattle.codes.specs.Code.{code_value, code_values, values_from, code_table}
use Rattle.codes.proofs.RangeTableLaws.{rises_fine}

-- ---- the rule

module _ (c : ℕ) where
  -- nothing is lost by the subtraction
  code_whole : code_value c + 32 ≡ (c % 32 + 32) * 2 ^ (c / 32)
  unfolding code_value
  code_whole = omega (arith, pow_pos (c / 32))

  module _ (byte : c < 256) where
    -- nor by the shift in 16 bits
    pub code_shift : ((c % 32 + 32) * 2 ^ (c / 32)) % 65536 ≡ code_value c + 32
    code_shift = rw code_whole (shl_exact 6 (c / 32) 16 (omega arith) (omega arith))

    pub code_small : code_value c < 8192
    code_small = omega (arith, code_whole, shl_lt {a = c % 32 + 32} 6 (c / 32) (omega arith), pow_mono {i = 6 + c / 32} {j = 13} (omega arith))

  -- the next code has the same e and the next m, or the next e and m = 0
  pub code_next : code_value c < code_value (suc c)
  unfolding code_value
  code_next = ⊎_elim
      (λ last.
      let e : suc c / 32 ≡ suc (c / 32) = omega arith in
      let m : suc c % 32 ≡ 0 = omega arith in
      let w : 2 ^ (c / 32) * (c % 32 + 32) ≡ 2 ^ (c / 32) * 63 = ap (λ (r : ℕ). 2 ^ (c / 32) * (r + 32)) last in
      rw (e, m, pow-suc) (omega (arith, pow_pos (c / 32), w)))
      (λ within.
      let e : suc c / 32 ≡ c / 32 = omega arith in
      let m : suc c % 32 ≡ suc (c % 32) = omega arith in
      rw (e, m) (omega (arith, pow_pos (c / 32))))
      (eq-or-lt_of_le {n = c % 32} {m = 31} (omega arith))

-- the values of the codes rise strictly
pub code_rises : (c d : ℕ) → c < d → code_value c < code_value d
code_rises c zero h = absurd (omega arith)
code_rises c (suc d) h = ⊎_elim
    (λ e. rw e (code_next d))
    (λ l. lt_trans (code_rises c d l) (code_next d))
    (eq-or-lt_of_le {n = c} {m = d} (omega arith))

-- ---- a table of the values of all codes

value_from : (n c k : ℕ) → k < n → value_in (values_from c n) k ≡ pos (code_value (c + k))
unfolding values_from
value_from zero c k h = absurd (omega arith)
value_from (suc n) c zero h = rw add-zero
value_from (suc n) c (suc k) h = rw (add-suc, ← suc-add c k) (value_from n (suc c) k (omega arith))

pub code_at : (c : ℕ) → c < 256 → value_in code_table c ≡ pos (code_value c)
code_at c h = rw zero-add at (value_from 256 0 c h)

values_length : (n c : ℕ) → length (values_from c n) ≡ n
unfolding values_from
values_length zero c = refl
values_length (suc n) c = ap suc (values_length n (suc c))

code_table_rises : Rises code_table
code_table_rises = record {
  rises = λ c h.
      let l : suc c < 256 = omega (arith, values_length 256 0) in
      rw (code_at c (omega arith), code_at (suc c) l) (record { lt = lt→ltb (code_value c) (code_value (suc c)) (code_next c) });
}

-- it passes the check of a table
pub code_table_fine : table_row code_table ≡ Ok tt
code_table_fine = rises_fine code_table (values_length 256 0) code_table_rises

-- codes expanded by it have their values
pub code_values_lem : (codes : List ℕ) → ((i : ℕ) → get_or codes i 0 < 256) → values_in code_table codes ≡ code_values codes
code_values_lem [] h = refl
code_values_lem (c ∷ codes) h = rw (code_at c (h 0), code_values_lem codes (λ i. h (suc i)))

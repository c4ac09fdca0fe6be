-- Laws of the header, a tolerance and the first sample: what it is read as, and what it says of the bytes.
--   tolerance_size   the bytes of a tolerance's command
--   start            the cursor after the first sample, where the tolerance has k bytes
-- Assumes nothing.
use mathlib.Core.Path.{◌≡◌, refl, sym, ap, ◌∙◌, subst}
use mathlib.Core.Bool.{Bool, true, false, not, ◌&&◌}
use mathlib.Core.List.{List}
use Prim.Native.Nat.{ℕ, ◌+◌, ◌≤◌}
use native.Mathlib.Omega.{arith}
use Rattle.std.specs.Prelude.{Result, Ok}
use borrow.Author.Tests.{not-true}
use lib.IntN.{ℤ}
use lib.ListN.{drop}
use Rattle.lists.proofs.Tests.{and_first, and_second, by_test}
use Rattle.ratio.specs.declared.Ratio.{Ratio}
use Rattle.tolerance.specs.declared.Parts.{Parts}
use Rattle.tolerance.specs.Meaning.{HeldParts, alike, agree}
use Rattle.tolerance.proofs.Agreement.{agree_alike, agree_exact, agree_parts}
use Rattle.format.specs.Number.{Bytes}
use Rattle.format.specs.Command.{size_of, choose, command_of, command_onto, Operands}
use Rattle.format.specs.Format.{is_held, are_sides, no_header, sample_header, tolerance_header, header_of, tolerance_command, samples_onto, encode}
use Rattle.format.specs.declared.Cursor.{Cursor}
use Rattle.format.specs.declared.Command.{Command}
use Rattle.format.specs.declared.Command.TheVariants.{Tolerance, Sides, First, Short, Long, End, Invalid}
use Rattle.format.specs.declared.Header.{Header}
use Rattle.format.specs.declared.Fault.{Fault}
use Rattle.format.proofs.NumberLaws.{bytes_drop}
use Rattle.format.proofs.CommandLaws.{Starts, Read, read, command_read}
use Rattle.format.proofs.RuleLaws.{is_held_true, held_is_held}

-- ---- the command of a tolerance

pub alike_command : (r : Ratio) → tolerance_command (alike r) ≡ Tolerance r
unfolding tolerance_command
alike_command r = rw (agree_alike r)

pub agree_command : (x : Parts) → agree x ≡ true → tolerance_command x ≡ Tolerance x.up
unfolding tolerance_command
agree_command x e = rw e

pub sides_command : (x : Parts) → agree x ≡ false → tolerance_command x ≡ Sides x
unfolding tolerance_command
sides_command x e = rw e

abbrev pub tolerance_size : Parts → ℕ
tolerance_size x = size_of (tolerance_command x)

pub tolerance_size_lem : (x : Parts) → (9 ≤ tolerance_size x) × (tolerance_size x ≤ 17)
tolerance_size_lem x = by_test (agree x) (λ e. rw (agree_command x e) (omega arith, omega arith)) (λ e. rw (sides_command x e) (omega arith, omega arith))

-- a record with one ratio for both parts opens as document 01 has it, with 54
pub alike_bytes : (r : Ratio) (ts : List ℕ) (vs : List ℤ) → encode (record { tolerance = alike r; ticks = ts; values = vs }) ≡ command_onto (Tolerance r) (samples_onto ts vs)
unfolding encode
alike_bytes r ts vs = ap (λ (m : Command). command_onto m (samples_onto ts vs)) (alike_command r)

-- and one with parts that differ with 42
pub sides_bytes : (x : Parts) (ts : List ℕ) (vs : List ℤ) → (x.up ≡ x.down → ⊥) → encode (record { tolerance = x; ticks = ts; values = vs }) ≡ command_onto (Sides x) (samples_onto ts vs)
unfolding encode
sides_bytes x ts vs n = ap (λ (m : Command). command_onto m (samples_onto ts vs)) (sides_command x (by_test (agree x) (λ e. absurd (n ((agree_exact x).0 e))) (λ e. e)))

-- ---- the rule of 42

are_sides_true : (x : Parts) → are_sides x ≡ true → HeldParts x × (agree x ≡ false)
unfolding are_sides
are_sides_true x e =
    let f = and_first (is_held x.up && is_held x.down) (not (agree x)) e in (
      record { up = is_held_true x.up (and_first (is_held x.up) (is_held x.down) f); down = is_held_true x.down (and_second (is_held x.up) (is_held x.down) f) },
      not-true (agree x) (and_second (is_held x.up && is_held x.down) (not (agree x)) e),
    )

sides_are_sides : (x : Parts) → HeldParts x → agree x ≡ false → are_sides x ≡ true
unfolding are_sides
sides_are_sides x h e = rw (held_is_held x.up h.up, held_is_held x.down h.down, e)

-- ---- a held tolerance as it is written is read

module _ (x : Parts) (h : HeldParts x) where
  tolerance_operands : Operands (tolerance_command x)
  tolerance_operands = by_test (agree x)
      (λ e. subst Operands (sym (agree_command x e)) (omega (arith, h.up), omega (arith, h.up)))
      (λ e. subst Operands (sym (sides_command x e)) ((omega (arith, h.up), omega (arith, h.up)), (omega (arith, h.down), omega (arith, h.down))))

  header_command : (b : List ℕ) → tolerance_header b (tolerance_command x) ≡ sample_header (tolerance_size x) x (command_of (drop (tolerance_size x) b))
  header_command b = by_test (agree x)
      (λ e. rw (agree_command x e, held_is_held x.up h.up) (ap (λ (y : Parts). sample_header 9 y (command_of (drop 9 b))) (sym (agree_parts x e))))
      (λ e. rw (sides_command x e, sides_are_sides x h e))

  pub header_written : (b ys : List ℕ) → b ≡ command_onto (tolerance_command x) ys → header_of b ≡ sample_header (tolerance_size x) x (command_of (drop (tolerance_size x) b))
  header_written b ys e = ap (tolerance_header b) (ap command_of e ∙ command_read ys (tolerance_command x) tolerance_operands) ∙ header_command b

-- ---- what was read

abbrev pub start : ℕ → ℕ → ℕ → Cursor
start k t l = record { at = k + 7; first = t; tick = t; level = l; count = 1 }

module _ {b : List ℕ} (by : Bytes b) (P : Result Header Fault → Type 0) where
  -- after a tolerance of k bytes stands a first sample, or the fault is there
  pub by_first : (k : ℕ) (x : Parts) → P (no_header k) → ((t l : ℕ) → Starts (drop k b) (First t l) → P (Ok (record { tolerance = x; first = start k t l }))) → P (sample_header k x (command_of (drop k b)))
  by_first k x missing found = go (command_of (drop k b)) (read (bytes_drop k by))
    where
      go : (m : Command) → Read (drop k b) m → P (sample_header k x m)
      go (First t l) w = found t l w
      go (Tolerance r) w = missing
      go (Sides y) w = missing
      go (Short a d) w = missing
      go (Long a l) w = missing
      go (End n) w = missing
      go Invalid w = missing

  -- the record opens with a tolerance that is held, as it is written, or the fault is at 0
  pub by_tolerance : P (no_header 0) → ((x : Parts) → HeldParts x → Starts b (tolerance_command x) → P (sample_header (tolerance_size x) x (command_of (drop (tolerance_size x) b)))) → P (header_of b)
  by_tolerance missing found = go (command_of b) (read by)
    where
      held : (x : Parts) (m : Command) → HeldParts x → tolerance_command x ≡ m → Starts b m → P (sample_header (size_of m) x (command_of (drop (size_of m) b)))
      held x m h e s = subst (λ (n : Command). P (sample_header (size_of n) x (command_of (drop (size_of n) b)))) e (found x h (subst (Starts b) (sym e) s))

      one : (r : Ratio) → Starts b (Tolerance r) → (a : Bool) → is_held r ≡ a → P (choose a (sample_header 9 (alike r) (command_of (drop 9 b))) (no_header 0))
      one r s true e = let h = is_held_true r e in held (alike r) (Tolerance r) (record { up = h; down = h }) (alike_command r) s
      one r s false e = missing

      two : (x : Parts) → Starts b (Sides x) → (a : Bool) → are_sides x ≡ a → P (choose a (sample_header 17 x (command_of (drop 17 b))) (no_header 0))
      two x s true e = let h = are_sides_true x e in held x (Sides x) h.0 (sides_command x h.1) s
      two x s false e = missing

      go : (m : Command) → Read b m → P (tolerance_header b m)
      go (Tolerance r) s = one r s (is_held r) refl
      go (Sides x) s = two x s (are_sides x) refl
      go (First t l) s = missing
      go (Short a d) s = missing
      go (Long a l) s = missing
      go (End n) s = missing
      go Invalid s = missing

-- The command at a place of a record, by its first byte and the bytes that are left.
--   read_at                                                       a command that is there is whole, and its operands are in range
--   tolerance_at, sides_at, first_at, short_at, long_at, end_at   a whole command
--   nothing_at, unknown_at, cut_at                                none: no byte is left, it begins no command, or the command is cut off
-- Assumes nothing.
use Rattle.std.proofs.Common.{◌≡◌, ap, ◌∙◌, ℕ, ◌+◌, ◌≤◌, ◌<◌, true, false, List, length, drop, get_or, arith}
use Rattle.std.proofs.lemmas.List.{length-drop, get_or-drop, drop-drop}
use native.Mathlib.Nat.{add-zero}
use borrow.Author.Tests.{le-leb, lt-leb, ne_eqb}
use lib.Dec.{leb}
use lib.ListN.{drop_of_length-le}
use Rattle.format.specs.declared.Kind.{Kind}
use Rattle.format.specs.declared.Kind.TheVariants.{Tolerance as IsTolerance, Sides as IsSides, First as IsFirst, Short as IsShort, Long as IsLong, End as IsEnd}
use Rattle.format.specs.declared.Command.{Command}
use Rattle.format.specs.declared.Command.TheVariants.{Tolerance, Sides, First, Short, Long, End, Invalid}
use Rattle.format.specs.Kind.{first_byte}
use Rattle.format.specs.Number.{Bytes, field, flip16, flip8}
use Rattle.format.proofs.NumberLaws.{bytes_drop}
use Rattle.format.proofs.CommandLaws.{Read, read}
use Rattle.format.specs.Command.{ratio_at, command_of}

pub read_at : {b : List ℕ} → Bytes b → (i : ℕ) {m : Command} → m ≡ command_of (drop i b) → Read (drop i b) m
read_at {b} by i e = rw e (read (bytes_drop i by))

module _ (b : List ℕ) (i : ℕ) (within : i ≤ length b) where
  kind : get_or (drop i b) 0 0 ≡ get_or b i 0
  kind = get_or-drop i b 0 0 ∙ ap (λ (k : ℕ). get_or b k 0) (add-zero i)

  left : (k : ℕ) → i + k ≤ length b → leb k (length (drop i b)) ≡ true
  left k h = le-leb k (length (drop i b)) (rw length-drop (omega arith))

  few : (k : ℕ) → length b < i + k → leb k (length (drop i b)) ≡ false
  few k h = lt-leb k (length (drop i b)) (rw length-drop (omega arith))

  pub tolerance_at : get_or b i 0 ≡ 0x54 → i + 9 ≤ length b → command_of (drop i b) ≡ Tolerance (ratio_at b (i + 1))
  unfolding command_of
  tolerance_at e h = let q : i + 1 + 5 ≡ i + 6 = omega arith in rw (kind, e, left 9 h, drop-drop 1 i b, drop-drop 6 i b, q)

  pub sides_at : get_or b i 0 ≡ 0x42 → i + 17 ≤ length b → command_of (drop i b) ≡ Sides (record { up = ratio_at b (i + 1); down = ratio_at b (i + 9) })
  unfolding command_of
  sides_at e h =
      let up : i + 1 + 5 ≡ i + 6 = omega arith in
      let down : i + 9 + 5 ≡ i + 14 = omega arith in
      rw (kind, e, left 17 h, drop-drop 1 i b, drop-drop 6 i b, drop-drop 9 i b, drop-drop 14 i b, up, down)

  pub first_at : get_or b i 0 ≡ 0x41 → i + 7 ≤ length b → command_of (drop i b) ≡ First (field b (i + 1) 4) (flip16 (field b (i + 5) 2))
  unfolding command_of
  first_at e h = rw (kind, e, left 7 h, drop-drop 1 i b, drop-drop 5 i b)

  pub short_at : get_or b i 0 ≡ 0x53 → i + 3 ≤ length b → command_of (drop i b) ≡ Short (field b (i + 1) 1) (flip8 (field b (i + 2) 1))
  unfolding command_of
  short_at e h = rw (kind, e, left 3 h, drop-drop 1 i b, drop-drop 2 i b)

  pub long_at : get_or b i 0 ≡ 0x4C → i + 6 ≤ length b → command_of (drop i b) ≡ Long (field b (i + 1) 3) (flip16 (field b (i + 4) 2))
  unfolding command_of
  long_at e h = rw (kind, e, left 6 h, drop-drop 1 i b, drop-drop 4 i b)

  pub end_at : get_or b i 0 ≡ 0x45 → i + 3 ≤ length b → command_of (drop i b) ≡ End (field b (i + 1) 2)
  unfolding command_of
  end_at e h = rw (kind, e, left 3 h, drop-drop 1 i b)

  pub nothing_at : length b ≤ i → command_of (drop i b) ≡ Invalid
  unfolding command_of
  nothing_at h = rw (drop_of_length-le b h)

  pub unknown_at : ((k : Kind) → get_or b i 0 ≡ first_byte k → ⊥) → command_of (drop i b) ≡ Invalid
  unfolding command_of
  unknown_at h =
      rw (kind, ne_eqb _ 0x54 (h IsTolerance), ne_eqb _ 0x41 (h IsFirst), ne_eqb _ 0x53 (h IsShort), ne_eqb _ 0x4C (h IsLong), ne_eqb _ 0x45 (h IsEnd), ne_eqb _ 0x42 (h IsSides))

  -- the bytes of a command of a kind
  abbrev pub size : Kind → ℕ
  size IsTolerance = 9
  size IsSides = 17
  size IsFirst = 7
  size IsShort = 3
  size IsLong = 6
  size IsEnd = 3

  pub cut_at : (k : Kind) → get_or b i 0 ≡ first_byte k → length b < i + size k → command_of (drop i b) ≡ Invalid
  unfolding command_of
  cut_at IsTolerance e h = rw (kind, e, few 9 h)
  cut_at IsSides e h = rw (kind, e, few 17 h)
  cut_at IsFirst e h = rw (kind, e, few 7 h)
  cut_at IsShort e h = rw (kind, e, few 3 h)
  cut_at IsLong e h = rw (kind, e, few 6 h)
  cut_at IsEnd e h = rw (kind, e, few 3 h)

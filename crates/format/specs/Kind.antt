-- The kinds of commands, and the byte that each begins with (document 01, "The record", the table of commands; document 02, "Above and
-- below", for 42).
--   first_byte   the byte that a command of a kind begins with
--   KindOf       the kind that a byte says, or that it says none
-- Assumes nothing.
use Rattle.std.specs.Prelude.{◌≡◌, ℕ, Result, Ok, Err}
use Rattle.format.specs.declared.Kind.{Kind}
use Rattle.format.specs.declared.Kind.TheVariants.{Tolerance, Sides, First, Short, Long, End}
use Rattle.format.specs.declared.UnknownKind.{UnknownKind}

abbrev pub first_byte : Kind → ℕ
first_byte Tolerance = 0x54
first_byte Sides = 0x42
first_byte First = 0x41
first_byte Short = 0x53
first_byte Long = 0x4C
first_byte End = 0x45

abbrev pub KindOf : ℕ → Result Kind UnknownKind → Type 0
KindOf byte (Ok kind) = byte ≡ first_byte kind
KindOf byte (Err e) = (e.0 ≡ byte) × ((kind : Kind) → byte ≡ first_byte kind → ⊥)

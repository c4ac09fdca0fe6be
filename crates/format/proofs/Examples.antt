-- Examples of records, computed: how one is parsed, and each place of a fault.
-- Assumes nothing.
use mathlib.Core.Path.{◌≡◌, refl}
use mathlib.Core.Bool.{Bool, true, ◌&&◌}
use mathlib.Core.List.{List, [], ◌∷◌, ◌++◌}
use Prim.Native.Nat.{ℕ, zero, suc, ◌<◌}
use native.Mathlib.Omega.{arith}
use borrow.Author.Tests.{ltb-true}
use lib.Dec.{ltb}
use lib.IntN.{pos}
use lib.ListN.{get_or, take, set}
use Rattle.lists.proofs.Tests.{and_first, and_second}
use Rattle.ratio.specs.Gcd.{gcd}
use Rattle.ratio.specs.Order.{over}
use Rattle.tolerance.specs.Meaning.{alike, agree}
use Rattle.format.specs.Number.{number_from, bytes_onto, Bytes, value_of}
use Rattle.format.specs.Command.{command_of}
use Rattle.format.specs.Format.{Content, is_held, are_sides, short_step, long_step, end_step, steps, faulty, says, parse, tolerance_command, steps_onto, samples_onto, encode}
use Rattle.format.specs.Fault.{FaultAt}
use Rattle.format.proofs.FaultLaws.{fault_exact}

-- samples 0 and 2 of ticks 0 1 3 and values 0 1 1, at 2/3
abbrev kept : Content
kept = record { tolerance = alike (over 2 3); ticks = 0 ∷ 3 ∷ []; values = pos 0 ∷ pos 1 ∷ [] }

abbrev figure : List ℕ
figure = 0x54 ∷ 0x00 ∷ 0x00 ∷ 0x00 ∷ 0x00 ∷ 0x02 ∷ 0x00 ∷ 0x00 ∷ 0x03 ∷ 0x41 ∷ 0x00 ∷ 0x00 ∷ 0x00 ∷ 0x00 ∷ 0x00 ∷ 0x00 ∷ 0x53 ∷ 0x03 ∷ 0x01 ∷ 0x45 ∷ 0x00 ∷ 0x02 ∷ []

parsed : parse figure ≡ says kept
unfolding parse steps short_step long_step end_step command_of is_held gcd number_from value_of
parsed = refl

written : encode kept ≡ figure
unfolding encode tolerance_command agree samples_onto steps_onto bytes_onto
written = refl

-- faults: an empty record
fault_empty : parse [] ≡ faulty 0
unfolding parse command_of
fault_empty = refl

-- an end that is cut off, and one that is missing
fault_cut : parse (take 21 figure) ≡ faulty 19
unfolding parse steps short_step long_step end_step command_of is_held gcd number_from
fault_cut = refl

fault_missing : parse (take 19 figure) ≡ faulty 19
unfolding parse steps short_step long_step end_step command_of is_held gcd number_from
fault_missing = refl

-- a byte after the end, and another number of samples there
fault_after : parse (figure ++ (0 ∷ [])) ≡ faulty 22
unfolding parse steps short_step long_step end_step command_of is_held gcd number_from
fault_after = refl

fault_count : parse (set figure 21 3) ≡ faulty 19
unfolding parse steps short_step long_step end_step command_of is_held gcd number_from
fault_count = refl

-- a tolerance that is not reduced, an advance of 0, and a byte that opens no command
fault_tolerance : parse (set figure 5 6) ≡ faulty 0
unfolding parse command_of is_held gcd number_from
fault_tolerance = refl

fault_advance : parse (set figure 17 0) ≡ faulty 16
unfolding parse steps short_step long_step end_step command_of is_held gcd number_from
fault_advance = refl

fault_kind : parse (set figure 9 0x53) ≡ faulty 9
unfolding parse steps short_step long_step end_step command_of is_held gcd number_from
fault_kind = refl

-- ---- parts that differ

-- ticks 0 3 and values 0 1, at 2/3 above and 1 below
abbrev sided : Content
sided = record { tolerance = record { up = over 2 3; down = over 1 1 }; ticks = 0 ∷ 3 ∷ []; values = pos 0 ∷ pos 1 ∷ [] }

abbrev sides : List ℕ
sides = 0x42 ∷ 0x00 ∷ 0x00 ∷ 0x00 ∷ 0x00 ∷ 0x02 ∷ 0x00 ∷ 0x00 ∷ 0x03 ∷ 0x00 ∷ 0x00 ∷ 0x00 ∷ 0x00 ∷ 0x01 ∷ 0x00 ∷ 0x00 ∷ 0x01
    ∷ 0x41 ∷ 0x00 ∷ 0x00 ∷ 0x00 ∷ 0x00 ∷ 0x00 ∷ 0x00 ∷ 0x53 ∷ 0x03 ∷ 0x01 ∷ 0x45 ∷ 0x00 ∷ 0x02 ∷ []

sides_parsed : parse sides ≡ says sided
unfolding parse steps short_step long_step end_step command_of is_held are_sides agree gcd number_from value_of
sides_parsed = refl

sides_written : encode sided ≡ sides
unfolding encode tolerance_command agree samples_onto steps_onto bytes_onto
sides_written = refl

-- a part of 0
sides_zero : parse (set sides 13 0) ≡ says (record { tolerance = record { up = over 2 3; down = over 0 1 }; ticks = 0 ∷ 3 ∷ []; values = pos 0 ∷ pos 1 ∷ [] })
unfolding parse steps short_step long_step end_step command_of is_held are_sides agree gcd number_from value_of
sides_zero = refl

-- 42 with equal parts; with a part above, and one below, that is not reduced; with one of denominator 0, and one above 65,535; cut off
fault_equal : parse (set (set sides 13 2) 16 3) ≡ faulty 0
unfolding parse command_of is_held are_sides agree gcd number_from
fault_equal = refl

fault_unreduced_above : parse (set sides 5 6) ≡ faulty 0
unfolding parse command_of is_held are_sides gcd number_from
fault_unreduced_above = refl

fault_unreduced_below : parse (set (set sides 13 2) 16 2) ≡ faulty 0
unfolding parse command_of is_held are_sides gcd number_from
fault_unreduced_below = refl

fault_over_zero : parse (set sides 16 0) ≡ faulty 0
unfolding parse command_of is_held are_sides gcd number_from
fault_over_zero = refl

fault_too_large : parse (set sides 10 1) ≡ faulty 0
unfolding parse command_of is_held are_sides gcd number_from
fault_too_large = refl

fault_cut_tolerance : parse (take 16 sides) ≡ faulty 0
unfolding parse command_of
fault_cut_tolerance = refl

-- each later fault is 8 bytes further on
fault_first_missing : parse (take 17 sides) ≡ faulty 17
unfolding parse command_of is_held are_sides agree gcd number_from
fault_first_missing = refl

fault_sides_advance : parse (set sides 25 0) ≡ faulty 24
unfolding parse steps short_step long_step end_step command_of is_held are_sides agree gcd number_from
fault_sides_advance = refl

fault_sides_after : parse (sides ++ (0 ∷ [])) ≡ faulty 30
unfolding parse steps short_step long_step end_step command_of is_held are_sides agree gcd number_from
fault_sides_after = refl

-- 42 where the first sample is due
fault_second_tolerance : parse (take 9 figure ++ sides) ≡ faulty 9
unfolding parse command_of is_held gcd number_from
fault_second_tolerance = refl

-- ---- one fault of each kind, without the parser

are_bytes : List ℕ → Bool
are_bytes [] = true
are_bytes (x ∷ s) = ltb x 256 && are_bytes s

are_bytes_lem : (s : List ℕ) → are_bytes s ≡ true → Bytes s
unfolding are_bytes
are_bytes_lem s e = record { byte = go s e }
  where
    go : (s : List ℕ) → are_bytes s ≡ true → (i : ℕ) → get_or s i 0 < 256
    go [] e i = omega arith
    go (x ∷ s) e zero = ltb-true x 256 (and_first (ltb x 256) (are_bytes s) e)
    go (x ∷ s) e (suc i) = go s (and_second (ltb x 256) (are_bytes s) e) i

-- a command that is cut off
cut_off : FaultAt (take 21 figure) 19
unfolding are_bytes
cut_off = (fault_exact (are_bytes_lem _ refl) 19).0 fault_cut

-- one that breaks a rule
broken : FaultAt (set figure 17 0) 16
unfolding are_bytes
broken = (fault_exact (are_bytes_lem _ refl) 16).0 fault_advance

-- a byte after the end
after_end : FaultAt (figure ++ (0 ∷ [])) 22
unfolding are_bytes
after_end = (fault_exact (are_bytes_lem _ refl) 22).0 fault_after

-- a missing end
end_missing : FaultAt (take 19 figure) 19
unfolding are_bytes
end_missing = (fault_exact (are_bytes_lem _ refl) 19).0 fault_missing

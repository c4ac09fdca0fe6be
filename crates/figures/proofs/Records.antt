-- Examples of the request "Same record, strictly" of document 02, over the definitions that the contract names: a trace kept at 2 counts and at 5
-- ends with the same samples, and its two records are not the same; two forms of one tolerance give the same record; rows 8 and 9.
-- Assumes nothing.
use Rattle.std.specs.Prelude.{Err, Ok, Result}
use mathlib.Core.Path.{◌≡◌, refl, ap}
use mathlib.Core.List.{List, [], ◌∷◌}
use Prim.Native.Nat.{ℕ}
use native.Mathlib.Omega.{arith}
use lib.IntN.{ℤ, pos}
use lib.ListN.{take, set}
use Rattle.ratio.specs.Gcd.{gcd, euclid}
use Rattle.kept.specs.Stops.{stops}
use Rattle.kept.specs.Walk.{walk_from, walk_of}
use Rattle.refusal.specs.declared.Refusal.TheVariants.{Record, SecondRecord}
use Rattle.refusal.specs.Table.{number_of, returned_of}
use Rattle.tolerance.specs.declared.Parts.{Parts}
use Rattle.tolerance.specs.declared.Tolerance.{Tolerance}
use Rattle.tolerance.specs.declared.Tolerance.TheVariants.{Ratio}
use Rattle.tolerance.specs.Meaning.{agree}
use Rattle.trace.specs.Link.{deviation, above, below, within, all_from, hole, obeys, all_within, valid}
use Rattle.format.specs.Number.{bytes_onto, number_from, value_of}
use Rattle.format.specs.Command.{command_of}
use Rattle.format.specs.Format.{Content, SameRecord, is_held, short_step, long_step, end_step, steps, parse, steps_onto, samples_onto, tolerance_command, encode}
use Rattle.reduction.specs.Walking.{walk_list}
use Rattle.reader.specs.declared.Comparison.{Comparison}
use Rattle.reader.specs.declared.Comparison.TheVariants.{Same, Different}
use Rattle.reader.specs.Reading.{same_rows, SameOutcome}
use Rattle.limits.specs.Prepare.{unlimited, criterion_of}
use Rattle.engine.specs.Write.{content_of}
use Rattle.refusal.specs.declared.Refusal.{Refusal}

-- ---- ticks 0 to 4, values 0 2 0 2 0: at 2 counts and at 5 the ends are kept

abbrev five_ticks : List ℕ
five_ticks = 0 ∷ 1 ∷ 2 ∷ 3 ∷ 4 ∷ []

abbrev low : List ℤ
low = pos 0 ∷ pos 2 ∷ pos 0 ∷ pos 2 ∷ pos 0 ∷ []

abbrev ends : List ℕ
ends = 0 ∷ 4 ∷ []

kept_alike : (walk_list five_ticks low (criterion_of (unlimited (Ratio 2 1))) ≡ ends) × (walk_list five_ticks low (criterion_of (unlimited (Ratio 5 1))) ≡ ends)
unfolding walk_of walk_from stops criterion_of valid obeys hole all_within all_from within above below deviation gcd euclid
kept_alike = (refl, refl)

-- what their records say, and the records, which differ in one byte
abbrev content_at : Tolerance → Content
content_at t = content_of five_ticks low ends (unlimited t)

abbrev at2 : List ℕ
at2 = 0x54 ∷ 0 ∷ 0 ∷ 0 ∷ 0 ∷ 2 ∷ 0 ∷ 0 ∷ 1 ∷ 0x41 ∷ 0 ∷ 0 ∷ 0 ∷ 0 ∷ 0 ∷ 0 ∷ 0x53 ∷ 4 ∷ 0 ∷ 0x45 ∷ 0 ∷ 2 ∷ []

abbrev at5 : List ℕ
at5 = set at2 5 5

records : (encode (content_at (Ratio 2 1)) ≡ at2) × (encode (content_at (Ratio 5 1)) ≡ at5)
unfolding encode tolerance_command agree samples_onto steps_onto bytes_onto criterion_of gcd euclid
records = (refl, refl)

-- ---- they are not the same, though their samples agree

not_same : SameRecord (content_at (Ratio 2 1)) (content_at (Ratio 5 1)) → ⊥
unfolding criterion_of gcd euclid
not_same s = omega (arith, ap (λ (x : Parts). x.up.p) s.tolerance)

both_accepted : same_rows at2 at5 ≡ Ok tt
unfolding parse steps short_step long_step end_step command_of is_held gcd euclid number_from value_of
both_accepted = refl

-- so that the answer is no
different : (r : Result Comparison Refusal) → SameOutcome at2 at5 r → r ≡ Ok Different
different (Ok Same) o = let e = o.bytes.0 o.holds in cc
different (Ok Different) o = refl
different (Err c) o = let e = both_accepted in cc

-- 5/1 and 10/2 are one tolerance
same_tolerance : SameRecord (content_at (Ratio 5 1)) (content_at (Ratio 10 2))
unfolding criterion_of gcd euclid
same_tolerance = record { tolerance = refl; ticks = refl; values = refl }

-- ---- 8 for the first record, then 9 for the second, also if their bytes agree: the end is cut off

abbrev cut : List ℕ
cut = take 21 at2

faulty_alike : same_rows cut cut ≡ Err (Record 19)
unfolding parse steps short_step long_step end_step command_of is_held gcd euclid number_from value_of
faulty_alike = refl

faulty_second : same_rows at2 cut ≡ Err (SecondRecord 19)
unfolding parse steps short_step long_step end_step command_of is_held gcd euclid number_from value_of
faulty_second = refl

faulty_numbers : (number_of (Record 19) ≡ 8) × (returned_of (Record 19) ≡ 19) × (number_of (SecondRecord 19) ≡ 9) × (returned_of (SecondRecord 19) ≡ 19)
faulty_numbers = (refl, refl, refl, refl)

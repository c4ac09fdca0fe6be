-- Examples of the request "Lists from other labs" of document 02, over the definitions that the contract names, each by computation: lists that pass and
-- lists at fault, with the gap limit and with two parts; and two weaker questions from which the size bound does not follow.
-- Assumes nothing.
use Rattle.std.specs.Prelude.{Ok, Err}
use mathlib.Core.Path.{◌≡◌, refl}
use mathlib.Core.Bool.{Bool, false}
use mathlib.Core.List.{List, [], ◌∷◌}
use Prim.Native.Nat.{ℕ, ◌-◌}
use native.Mathlib.Omega.{arith}
use lib.IntN.{ℤ, pos, negsuc}
use lib.ListN.{length}
use Rattle.lists.specs.First.{first, first_of}
use Rattle.ratio.specs.Gcd.{gcd, euclid}
use Rattle.ratio.specs.Order.{over}
use Rattle.refusal.specs.declared.Refusal.TheVariants.{List as NoKeptList, Gap}
use Rattle.kept.specs.Kept.{KeptList, AllValid}
use Rattle.kept.specs.Stops.{stops}
use Rattle.kept.specs.Walk.{walk_from, walk_of}
use Rattle.kept.specs.Gallop.{probe_of, doubling, bisection, search_by, gallop_search, gallop_of}
use Rattle.tolerance.specs.declared.Tolerance.TheVariants.{Ratio, Parts}
use Rattle.trace.specs.declared.Criterion.{Criterion}
use Rattle.trace.specs.Trace.{trace_rows}
use Rattle.trace.specs.Link.{deviation, above, below, within, all_from, hole, obeys, all_within, valid, parted, limited, NoLonger}
use Rattle.reduction.specs.Walking.{walk_list}
use Rattle.reduction.specs.Galloping.{gallop_list}
use Rattle.proposed.specs.Proposed.{bad_at, list_row}
use Rattle.limits.specs.declared.Limits.{Limits}
use Rattle.limits.specs.Prepare.{unlimited, common_rows, criterion_of}
use Rattle.judging.specs.Judge.{judge_rows}
use Rattle.greedy.specs.declared.GreedyVerdict.TheVariants.{Yes, Link, Stop}
use Rattle.greedy.specs.Greedy.{first_faulty, list_greedy, judge_greedy_of}

abbrev five_ticks : List ℕ
five_ticks = 0 ∷ 1 ∷ 2 ∷ 3 ∷ 4 ∷ []

abbrev at_two : Limits
at_two = unlimited (Ratio 2 1)

-- ---- values 0 3 0 3 0, tolerance 2: all five samples, 0 3 4 and 0 1 4 pass

abbrev peaks : List ℤ
peaks = pos 0 ∷ pos 3 ∷ pos 0 ∷ pos 3 ∷ pos 0 ∷ []

peaks_all : judge_greedy_of five_ticks peaks (0 ∷ 1 ∷ 2 ∷ 3 ∷ 4 ∷ []) at_two ≡ Ok Yes
unfolding judge_greedy_of judge_rows common_rows trace_rows list_row bad_at list_greedy first_faulty first first_of criterion_of valid obeys hole all_within all_from within above below deviation gcd euclid
peaks_all = refl

peaks_later : judge_greedy_of five_ticks peaks (0 ∷ 3 ∷ 4 ∷ []) at_two ≡ Ok Yes
unfolding judge_greedy_of judge_rows common_rows trace_rows list_row bad_at list_greedy first_faulty first first_of criterion_of valid obeys hole all_within all_from within above below deviation gcd euclid
peaks_later = refl

peaks_earlier : judge_greedy_of five_ticks peaks (0 ∷ 1 ∷ 4 ∷ []) at_two ≡ Ok Yes
unfolding judge_greedy_of judge_rows common_rows trace_rows list_row bad_at list_greedy first_faulty first first_of criterion_of valid obeys hole all_within all_from within above below deviation gcd euclid
peaks_earlier = refl

-- 0 4 is at fault at 0, the link
peaks_ends : judge_greedy_of five_ticks peaks (0 ∷ 4 ∷ []) at_two ≡ Ok (Link 0)
unfolding judge_greedy_of judge_rows common_rows trace_rows list_row bad_at list_greedy first_faulty first first_of criterion_of valid obeys hole all_within all_from within above below deviation gcd euclid
peaks_ends = refl

-- 0 to 2 is invalid and 0 to 3 is valid: where both faults share a position the link is named
peaks_both : judge_greedy_of five_ticks peaks (0 ∷ 2 ∷ 3 ∷ 4 ∷ []) at_two ≡ Ok (Link 0)
unfolding judge_greedy_of judge_rows common_rows trace_rows list_row bad_at list_greedy first_faulty first first_of criterion_of valid obeys hole all_within all_from within above below deviation gcd euclid
peaks_both = refl

-- ---- values 0 2 0 -2 0, tolerance 2: 0 2 4 and 0 4 pass

abbrev swing : List ℤ
swing = pos 0 ∷ pos 2 ∷ pos 0 ∷ negsuc 1 ∷ pos 0 ∷ []

swing_two_links : judge_greedy_of five_ticks swing (0 ∷ 2 ∷ 4 ∷ []) at_two ≡ Ok Yes
unfolding judge_greedy_of judge_rows common_rows trace_rows list_row bad_at list_greedy first_faulty first first_of criterion_of valid obeys hole all_within all_from within above below deviation gcd euclid
swing_two_links = refl

swing_one_link : judge_greedy_of five_ticks swing (0 ∷ 4 ∷ []) at_two ≡ Ok Yes
unfolding judge_greedy_of judge_rows common_rows trace_rows list_row bad_at list_greedy first_faulty first first_of criterion_of valid obeys hole all_within all_from within above below deviation gcd euclid
swing_one_link = refl

-- from 0 the link to 2 is valid too: a stop at 1 is at fault
swing_stop : judge_greedy_of five_ticks swing (0 ∷ 1 ∷ 4 ∷ []) at_two ≡ Ok (Stop 0)
unfolding judge_greedy_of judge_rows common_rows trace_rows list_row bad_at list_greedy first_faulty first first_of criterion_of valid obeys hole all_within all_from within above below deviation gcd euclid
swing_stop = refl

swing_link : judge_greedy_of five_ticks swing (0 ∷ 3 ∷ 4 ∷ []) at_two ≡ Ok (Link 0)
unfolding judge_greedy_of judge_rows common_rows trace_rows list_row bad_at list_greedy first_faulty first first_of criterion_of valid obeys hole all_within all_from within above below deviation gcd euclid
swing_link = refl

-- a stop has the position of the link that ends there
swing_second : judge_greedy_of five_ticks swing (0 ∷ 2 ∷ 3 ∷ 4 ∷ []) at_two ≡ Ok (Stop 1)
unfolding judge_greedy_of judge_rows common_rows trace_rows list_row bad_at list_greedy first_faulty first first_of criterion_of valid obeys hole all_within all_from within above below deviation gcd euclid
swing_second = refl

-- at U = 2 and D = 1 walk's list is 0 2 3 4

abbrev uneven : Limits
uneven = unlimited (Parts (record { up = over 2 1; down = over 1 1 }))

swing_parts : judge_greedy_of five_ticks swing (0 ∷ 2 ∷ 3 ∷ 4 ∷ []) uneven ≡ Ok Yes
unfolding judge_greedy_of judge_rows common_rows trace_rows list_row bad_at list_greedy first_faulty first first_of criterion_of valid obeys hole all_within all_from within above below deviation gcd euclid
swing_parts = refl

swing_parts_link : judge_greedy_of five_ticks swing (0 ∷ 2 ∷ 4 ∷ []) uneven ≡ Ok (Link 1)
unfolding judge_greedy_of judge_rows common_rows trace_rows list_row bad_at list_greedy first_faulty first first_of criterion_of valid obeys hole all_within all_from within above below deviation gcd euclid
swing_parts_link = refl

-- ---- one sample

one_sample : judge_greedy_of (9 ∷ []) (pos 7 ∷ []) (0 ∷ []) at_two ≡ Ok Yes
unfolding judge_greedy_of judge_rows common_rows trace_rows list_row bad_at list_greedy first_faulty first first_of criterion_of valid obeys hole all_within all_from within above below deviation gcd euclid
one_sample = refl

-- ---- ticks 0 to 6, values 2 -2 -1 0 -2 2 -1, tolerance 3: walk keeps 0 2 6 and gallop 0 4 5 6, and both pass

abbrev seven_ticks : List ℕ
seven_ticks = 0 ∷ 1 ∷ 2 ∷ 3 ∷ 4 ∷ 5 ∷ 6 ∷ []

abbrev rough : List ℤ
rough = pos 2 ∷ negsuc 1 ∷ negsuc 0 ∷ pos 0 ∷ negsuc 1 ∷ pos 2 ∷ negsuc 0 ∷ []

abbrev at_three : Limits
at_three = unlimited (Ratio 3 1)

rough_walk : walk_list seven_ticks rough (criterion_of at_three) ≡ 0 ∷ 2 ∷ 6 ∷ []
unfolding walk_of walk_from stops criterion_of valid obeys hole all_within all_from within above below deviation gcd euclid
rough_walk = refl

rough_gallop : gallop_list seven_ticks rough (criterion_of at_three) ≡ 0 ∷ 4 ∷ 5 ∷ 6 ∷ []
unfolding gallop_of gallop_search probe_of search_by doubling bisection stops criterion_of valid obeys hole all_within all_from within above below deviation gcd euclid
rough_gallop = refl

rough_walk_passes : judge_greedy_of seven_ticks rough (0 ∷ 2 ∷ 6 ∷ []) at_three ≡ Ok Yes
unfolding judge_greedy_of judge_rows common_rows trace_rows list_row bad_at list_greedy first_faulty first first_of criterion_of valid obeys hole all_within all_from within above below deviation gcd euclid
rough_walk_passes = refl

rough_gallop_passes : judge_greedy_of seven_ticks rough (0 ∷ 4 ∷ 5 ∷ 6 ∷ []) at_three ≡ Ok Yes
unfolding judge_greedy_of judge_rows common_rows trace_rows list_row bad_at list_greedy first_faulty first first_of criterion_of valid obeys hole all_within all_from within above below deviation gcd euclid
rough_gallop_passes = refl

-- ---- ticks 0 1 2 10 11 12, values 0, tolerance 0: a gap limit of 7 asks for the samples on either side of the hole, one of 8 does not

abbrev holed_ticks : List ℕ
holed_ticks = 0 ∷ 1 ∷ 2 ∷ 10 ∷ 11 ∷ 12 ∷ []

abbrev level : List ℤ
level = pos 0 ∷ pos 0 ∷ pos 0 ∷ pos 0 ∷ pos 0 ∷ pos 0 ∷ []

abbrev under : ℕ → Limits
under g = record { tolerance = Ratio 0 1; gap = g }

holed_7 : judge_greedy_of holed_ticks level (0 ∷ 2 ∷ 3 ∷ 5 ∷ []) (under 7) ≡ Ok Yes
unfolding judge_greedy_of judge_rows common_rows trace_rows list_row bad_at list_greedy first_faulty first first_of criterion_of valid obeys hole all_within all_from within above below deviation gcd euclid
holed_7 = refl

holed_8 : judge_greedy_of holed_ticks level (0 ∷ 2 ∷ 3 ∷ 5 ∷ []) (under 8) ≡ Ok (Stop 0)
unfolding judge_greedy_of judge_rows common_rows trace_rows list_row bad_at list_greedy first_faulty first first_of criterion_of valid obeys hole all_within all_from within above below deviation gcd euclid
holed_8 = refl

holed_across : judge_greedy_of holed_ticks level (0 ∷ 5 ∷ []) (under 7) ≡ Ok (Link 0)
unfolding judge_greedy_of judge_rows common_rows trace_rows list_row bad_at list_greedy first_faulty first first_of criterion_of valid obeys hole all_within all_from within above below deviation gcd euclid
holed_across = refl

-- 15 is checked before 6; a list that stops short is named by its length

holed_gap : judge_greedy_of holed_ticks level (0 ∷ 1 ∷ []) (under 0) ≡ Err Gap
unfolding judge_greedy_of judge_rows common_rows trace_rows list_row bad_at list_greedy first_faulty first first_of criterion_of valid obeys hole all_within all_from within above below deviation gcd euclid
holed_gap = refl

holed_short : judge_greedy_of holed_ticks level (0 ∷ 1 ∷ []) (under 7) ≡ Err (NoKeptList 2)
unfolding judge_greedy_of judge_rows common_rows trace_rows list_row bad_at list_greedy first_faulty first first_of criterion_of valid obeys hole all_within all_from within above below deviation gcd euclid
holed_short = refl

-- ---- weaker questions: the size bound does not follow from them

-- from each start the link to the kept sample after the next is invalid
abbrev NextKeptInvalid : (ℕ → ℕ → Bool) → List ℕ → Type 0
NextKeptInvalid ok [] = Unit {0}
NextKeptInvalid ok (i ∷ []) = Unit {0}
NextKeptInvalid ok (i ∷ j ∷ []) = Unit {0}
NextKeptInvalid ok (i ∷ j ∷ k ∷ s) = (ok i k ≡ false) × NextKeptInvalid ok (j ∷ k ∷ s)

-- values -2 0 2 2 0, tolerance 1: of the list 0 1 3 4 that is so, yet 0 2 4, at most 1 above and 0 below, is shorter
abbrev hill : List ℤ
hill = negsuc 1 ∷ pos 0 ∷ pos 2 ∷ pos 2 ∷ pos 0 ∷ []

abbrev one : Criterion
one = limited 1048575 (over 1 1)

hill_valid : AllValid (valid five_ticks hill one) (0 ∷ 1 ∷ 3 ∷ 4 ∷ [])
unfolding valid obeys hole all_within all_from within above below deviation
hill_valid = (refl, (refl, (refl, tt)))

hill_next_kept : NextKeptInvalid (valid five_ticks hill one) (0 ∷ 1 ∷ 3 ∷ 4 ∷ [])
unfolding valid obeys hole all_within all_from within above below deviation
hill_next_kept = (refl, (refl, tt))

hill_shorter : AllValid (valid five_ticks hill (parted 1048575 (over 1 1) (over 0 1))) (0 ∷ 2 ∷ 4 ∷ [])
unfolding valid obeys hole all_within all_from within above below deviation
hill_shorter = (refl, (refl, tt))

not_next_kept : ((ts : List ℕ) (vs : List ℤ) (c : Criterion) (l : List ℕ) → KeptList (length ts - 1) l → AllValid (valid ts vs c) l → NextKeptInvalid (valid ts vs c) l → NoLonger ts vs c (length l)) → ⊥
not_next_kept bound =
    absurd (omega (
      arith,
      bound five_ticks hill one (0 ∷ 1 ∷ 3 ∷ 4 ∷ []) (record { spans = (refl, refl); rises = (omega arith, (omega arith, (omega arith, tt))) }) hill_valid hill_next_kept
          (over 1 1) (over 0 1) (record { a_pos = omega arith; b_pos = omega arith; up = omega arith; down = omega arith })
          (0 ∷ 2 ∷ 4 ∷ []) (record { spans = (refl, refl); rises = (omega arith, (omega arith, tt)) }) hill_shorter,
    ))

-- valid links alone, judge's first question: all samples of a level trace are a list of them, and 0 5 is shorter
level_valid : AllValid (valid holed_ticks level one) (0 ∷ 1 ∷ 2 ∷ 3 ∷ 4 ∷ 5 ∷ [])
unfolding valid obeys hole all_within all_from within above below deviation
level_valid = (refl, (refl, (refl, (refl, (refl, tt)))))

level_shorter : AllValid (valid holed_ticks level (parted 1048575 (over 0 1) (over 0 1))) (0 ∷ 5 ∷ [])
unfolding valid obeys hole all_within all_from within above below deviation
level_shorter = (refl, tt)

not_valid_alone : ((ts : List ℕ) (vs : List ℤ) (c : Criterion) (l : List ℕ) → KeptList (length ts - 1) l → AllValid (valid ts vs c) l → NoLonger ts vs c (length l)) → ⊥
not_valid_alone bound =
    absurd (omega (
      arith,
      bound holed_ticks level one (0 ∷ 1 ∷ 2 ∷ 3 ∷ 4 ∷ 5 ∷ []) (record { spans = (refl, refl); rises = (omega arith, (omega arith, (omega arith, (omega arith, (omega arith, tt))))) }) level_valid
          (over 0 1) (over 0 1) (record { a_pos = omega arith; b_pos = omega arith; up = omega arith; down = omega arith })
          (0 ∷ 5 ∷ []) (record { spans = (refl, refl); rises = (omega arith, tt) }) level_shorter,
    ))

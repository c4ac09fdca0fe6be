-- The figures of document 01, "Figures to reproduce", over the definitions that the contracts name, each by computation.
-- Assumes nothing.
use Rattle.std.specs.Prelude.{Err, Ok}
use mathlib.Core.Path.{◌≡◌, refl}
use mathlib.Core.Bool.{true, false}
use mathlib.Core.List.{List, [], ◌∷◌}
use Prim.Native.Nat.{ℕ}
use lib.IntN.{ℤ, pos, negsuc}
use Rattle.lists.specs.First.{first, first_of}
use Rattle.ratio.specs.Gcd.{gcd, euclid}
use Rattle.ratio.specs.Order.{over, greater, lesser}
use Rattle.kept.specs.Stops.{stops}
use Rattle.kept.specs.Walk.{walk_from, walk_of}
use Rattle.kept.specs.Minimum.{best_stop, links_in, links_of, next_of, minimum_of}
use Rattle.kept.specs.Least.{least_over, least_from, least_of}
use Rattle.kept.specs.Gallop.{probe_of, doubling, bisection, search_by, gallop_search, gallop_of, gallop_probes, sum_from}
use Rattle.refusal.specs.declared.Refusal.TheVariants.{Tick, Span}
use Rattle.refusal.specs.Table.{number_of, returned_of}
use Rattle.tolerance.specs.declared.Tolerance.TheVariants.{Ratio}
use Rattle.trace.specs.declared.Criterion.{Criterion}
use Rattle.trace.specs.Level.{level}
use Rattle.trace.specs.Trace.{trace_rows}
use Rattle.trace.specs.declared.Side.TheVariants.{Above}
use Rattle.tolerance.specs.Meaning.{agree}
use Rattle.trace.specs.Link.{deviation, above, below, within, all_from, hole, obeys, all_within, valid, criterion, greatest, farthest, link_error}
use Rattle.measures.specs.Measure.{worst_sample, fault_of}
use Rattle.codes.specs.Code.{code_value, code_values}
use Rattle.format.specs.Number.{bytes_onto}
use Rattle.format.specs.Format.{steps_onto, samples_onto, tolerance_command, encode}
use Rattle.reduction.specs.Walking.{walk_list}
use Rattle.reduction.specs.Galloping.{gallop_list, gallop_total}
use Rattle.shortest.specs.Shortest.{minimum_list}
use Rattle.closest.specs.Closest.{least_error}
use Rattle.proposed.specs.Proposed.{bad_at, list_row, first_invalid}
use Rattle.judging.specs.declared.Verdict.TheVariants.{Yes, No}
use Rattle.limits.specs.Prepare.{unlimited, common_rows, criterion_of}
use Rattle.judging.specs.Judge.{judge_rows, list_verdict, judge_of}
use Rattle.engine.specs.Write.{content_of}

-- ticks 0 to 4
abbrev five : List ℕ
five = 0 ∷ 1 ∷ 2 ∷ 3 ∷ 4 ∷ []

-- the criterion of the tolerance p/1
abbrev at : ℕ → Criterion
at p = criterion_of (unlimited (Ratio p 1))

-- ---- values 0 3 0 3 0, tolerance 2: walk and gallop keep all five, gallop with 4 probes; minimum 0 3 4

abbrev teeth : List ℤ
teeth = pos 0 ∷ pos 3 ∷ pos 0 ∷ pos 3 ∷ pos 0 ∷ []

walk_teeth_2 : walk_list five teeth (at 2) ≡ 0 ∷ 1 ∷ 2 ∷ 3 ∷ 4 ∷ []
unfolding walk_of walk_from stops criterion_of valid obeys hole all_within all_from within above below deviation gcd euclid
walk_teeth_2 = refl

gallop_teeth_2 : gallop_list five teeth (at 2) ≡ 0 ∷ 1 ∷ 2 ∷ 3 ∷ 4 ∷ []
unfolding gallop_of gallop_search probe_of search_by doubling bisection stops criterion_of valid obeys hole all_within all_from within above below deviation gcd euclid
gallop_teeth_2 = refl

probes_teeth_2 : gallop_total five teeth (at 2) ≡ 4
unfolding gallop_probes sum_from gallop_of gallop_search probe_of search_by doubling bisection stops criterion_of valid obeys hole all_within all_from within above below deviation gcd euclid
probes_teeth_2 = refl

minimum_teeth_2 : minimum_list five teeth (at 2) ≡ 0 ∷ 3 ∷ 4 ∷ []
unfolding minimum_of next_of links_of links_in best_stop stops criterion_of valid obeys hole all_within all_from within above below deviation gcd euclid
minimum_teeth_2 = refl

-- ---- the same, tolerance 3: all keep 0 4; gallop 5 probes

minimum_teeth_3 : minimum_list five teeth (at 3) ≡ 0 ∷ 4 ∷ []
unfolding minimum_of next_of links_of links_in best_stop stops criterion_of valid obeys hole all_within all_from within above below deviation gcd euclid
minimum_teeth_3 = refl

walk_teeth_3 : walk_list five teeth (at 3) ≡ 0 ∷ 4 ∷ []
unfolding walk_of walk_from stops criterion_of valid obeys hole all_within all_from within above below deviation gcd euclid
walk_teeth_3 = refl

gallop_teeth_3 : gallop_list five teeth (at 3) ≡ 0 ∷ 4 ∷ []
unfolding gallop_of gallop_search probe_of search_by doubling bisection stops criterion_of valid obeys hole all_within all_from within above below deviation gcd euclid
gallop_teeth_3 = refl

probes_teeth_3 : gallop_total five teeth (at 3) ≡ 5
unfolding gallop_probes sum_from gallop_of gallop_search probe_of search_by doubling bisection stops criterion_of valid obeys hole all_within all_from within above below deviation gcd euclid
probes_teeth_3 = refl

-- ---- the same, least for m = 2 is 3/1, for m = 3 and 4 is 2/1 with 0 3 4, for m = 5 is 0/1

least_teeth_2 : least_error five teeth 1048575 2 ≡ over 3 1
unfolding least_of obeys hole all_from least_from link_error farthest greatest deviation gcd euclid
least_teeth_2 = refl

least_teeth_3 : least_error five teeth 1048575 3 ≡ over 2 1
unfolding least_of obeys hole all_from least_from least_over lesser greater link_error farthest greatest deviation gcd euclid
least_teeth_3 = refl

least_teeth_4 : least_error five teeth 1048575 4 ≡ over 2 1
unfolding least_of obeys hole all_from least_from least_over lesser greater link_error farthest greatest deviation gcd euclid
least_teeth_4 = refl

least_list_3 : minimum_list five teeth (criterion (least_error five teeth 1048575 3)) ≡ 0 ∷ 3 ∷ 4 ∷ []
unfolding criterion_of gcd euclid
least_list_3 = rw least_teeth_3 minimum_teeth_2

least_list_4 : minimum_list five teeth (criterion (least_error five teeth 1048575 4)) ≡ 0 ∷ 3 ∷ 4 ∷ []
unfolding criterion_of gcd euclid
least_list_4 = rw least_teeth_4 minimum_teeth_2

least_teeth_5 : least_error five teeth 1048575 5 ≡ over 0 1
unfolding least_of obeys hole all_from least_from least_over lesser greater link_error farthest greatest deviation gcd euclid
least_teeth_5 = refl

-- ---- values 0 2 0 -2 0, tolerance 2: walk 0 2 4; gallop 0 4 with 5 probes

abbrev wave : List ℤ
wave = pos 0 ∷ pos 2 ∷ pos 0 ∷ negsuc 1 ∷ pos 0 ∷ []

walk_wave : walk_list five wave (at 2) ≡ 0 ∷ 2 ∷ 4 ∷ []
unfolding walk_of walk_from stops criterion_of valid obeys hole all_within all_from within above below deviation gcd euclid
walk_wave = refl

gallop_wave : gallop_list five wave (at 2) ≡ 0 ∷ 4 ∷ []
unfolding gallop_of gallop_search probe_of search_by doubling bisection stops criterion_of valid obeys hole all_within all_from within above below deviation gcd euclid
gallop_wave = refl

probes_wave : gallop_total five wave (at 2) ≡ 5
unfolding gallop_probes sum_from gallop_of gallop_search probe_of search_by doubling bisection stops criterion_of valid obeys hole all_within all_from within above below deviation gcd euclid
probes_wave = refl

-- ---- ticks 0 1 3, values 0 1 1: link 0 to 2 has error 2/3; valid at 4/6, invalid at 665/1000

abbrev slope_ticks : List ℕ
slope_ticks = 0 ∷ 1 ∷ 3 ∷ []

abbrev slope_values : List ℤ
slope_values = pos 0 ∷ pos 1 ∷ pos 1 ∷ []

slope_error : link_error slope_ticks slope_values 0 2 ≡ over 2 3
unfolding link_error farthest greatest deviation gcd euclid
slope_error = refl

slope_valid : valid slope_ticks slope_values (criterion_of (unlimited (Ratio 4 6))) 0 2 ≡ true
unfolding criterion_of valid obeys hole all_within all_from within above below deviation gcd euclid
slope_valid = refl

slope_invalid : valid slope_ticks slope_values (criterion_of (unlimited (Ratio 665 1000))) 0 2 ≡ false
unfolding criterion_of valid obeys hole all_within all_from within above below deviation gcd euclid
slope_invalid = refl

-- so judge passes the list 0 2 at the one, and names link 0 and its sample 1 at the other
slope_passed : judge_of slope_ticks slope_values (0 ∷ 2 ∷ []) (unlimited (Ratio 4 6)) ≡ Ok Yes
unfolding judge_of judge_rows common_rows criterion_of list_verdict trace_rows list_row bad_at first_invalid first first_of valid obeys hole all_within all_from within above below deviation gcd euclid
slope_passed = refl

slope_named : judge_of slope_ticks slope_values (0 ∷ 2 ∷ []) (unlimited (Ratio 665 1000)) ≡ Ok (No 0 (record { error = over 2 3; sample = 1; side = Above }))
unfolding judge_of judge_rows common_rows criterion_of list_verdict trace_rows list_row bad_at first_invalid fault_of worst_sample first first_of valid obeys hole all_within all_from within above below link_error farthest greatest deviation gcd euclid
slope_named = refl

-- ---- ticks 0 1048575 pass; 0 1048576 is 3 at 1; 5 5 is 2 at 1

abbrev flat : List ℤ
flat = pos 0 ∷ pos 0 ∷ []

span_passes : trace_rows 4096 (0 ∷ 1048575 ∷ []) flat ≡ Ok tt
unfolding trace_rows first first_of
span_passes = refl

-- 3 at 1, and 2 at 1
span_too_long_number : (number_of (Span 1) ≡ 3) × (returned_of (Span 1) ≡ 1)
span_too_long_number = (refl, refl)

span_too_long : trace_rows 4096 (0 ∷ 1048576 ∷ []) flat ≡ Err (Span 1)
unfolding trace_rows first first_of
span_too_long = refl

tick_not_above_number : (number_of (Tick 1) ≡ 2) × (returned_of (Tick 1) ≡ 1)
tick_not_above_number = (refl, refl)

tick_not_above : trace_rows 4096 (5 ∷ 5 ∷ []) flat ≡ Err (Tick 1)
unfolding trace_rows first first_of
tick_not_above = refl

-- ---- ticks 0 1 3, values 0 1 1, list 0 2, tolerance 2/3: its record

slope_record : encode (content_of slope_ticks slope_values (0 ∷ 2 ∷ []) (unlimited (Ratio 2 3)))
    ≡ 0x54 ∷ 0 ∷ 0 ∷ 0 ∷ 0 ∷ 2 ∷ 0 ∷ 0 ∷ 3 ∷ 0x41 ∷ 0 ∷ 0 ∷ 0 ∷ 0 ∷ 0 ∷ 0 ∷ 0x53 ∷ 3 ∷ 1 ∷ 0x45 ∷ 0 ∷ 2 ∷ []
unfolding encode tolerance_command agree samples_onto steps_onto bytes_onto criterion_of gcd euclid
slope_record = refl

-- ---- codes 31, 32, 63, 64, 255 give 31, 32, 94, 96, 8032

codes_values : code_values (31 ∷ 32 ∷ 63 ∷ 64 ∷ 255 ∷ []) ≡ pos 31 ∷ pos 32 ∷ pos 94 ∷ pos 96 ∷ pos 8032 ∷ []
unfolding code_value
codes_values = refl

-- ---- steps 255/+127 and 255/-128 are short; 256/0 and 1/+128 long

-- the step from the value 0 by an advance to a value, as it is written
abbrev step : ℕ → ℤ → List ℕ
step a v = steps_onto 0 (level (pos 0)) (a ∷ []) (v ∷ []) []

step_up : step 255 (pos 127) ≡ 0x53 ∷ 0xFF ∷ 0x7F ∷ []
unfolding steps_onto bytes_onto
step_up = refl

step_down : step 255 (negsuc 127) ≡ 0x53 ∷ 0xFF ∷ 0x80 ∷ []
unfolding steps_onto bytes_onto
step_down = refl

step_far : step 256 (pos 0) ≡ 0x4C ∷ 0x00 ∷ 0x01 ∷ 0x00 ∷ 0x00 ∷ 0x00 ∷ []
unfolding steps_onto bytes_onto
step_far = refl

step_high : step 1 (pos 128) ≡ 0x4C ∷ 0x00 ∷ 0x00 ∷ 0x01 ∷ 0x00 ∷ 0x80 ∷ []
unfolding steps_onto bytes_onto
step_high = refl

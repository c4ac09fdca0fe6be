-- Examples of the requests of document 02 about links, over the definitions that the contracts name, each by computation: dropouts, and where
-- the line strays.
-- Assumes nothing.
use Rattle.std.specs.Prelude.{Err, Ok}
use mathlib.Core.Path.{◌≡◌, refl, ap}
use mathlib.Core.List.{List, [], ◌∷◌}
use Prim.Native.Nat.{ℕ, ◌≤◌}
use native.Mathlib.Omega.{arith}
use lib.IntN.{ℤ, pos, negsuc}
use lib.ListN.{length}
use Rattle.lists.specs.First.{first, first_of}
use Rattle.ratio.specs.Gcd.{gcd, euclid}
use Rattle.ratio.specs.Order.{over, greater, lesser}
use Rattle.kept.specs.Kept.{KeptList, AllValid}
use Rattle.kept.specs.Error.{error_from}
use Rattle.kept.specs.Stops.{stops}
use Rattle.kept.specs.Walk.{walk_from, walk_of}
use Rattle.kept.specs.Minimum.{best_stop, links_in, links_of, next_of, minimum_of}
use Rattle.kept.specs.Least.{least_over, least_from, least_of}
use Rattle.kept.specs.Gallop.{probe_of, doubling, bisection, search_by, gallop_search, gallop_of, gallop_probes, sum_from}
use Rattle.refusal.specs.declared.Refusal.TheVariants.{Tick, List as NoKeptList, Gap, Holes, Link, Allowance}
use Rattle.refusal.specs.Table.{NotAllowedTolerance as Tolerance}
use Rattle.tolerance.specs.declared.Tolerance.TheVariants.{Ratio}
use Rattle.trace.specs.declared.Side.TheVariants.{On, Above, Below, Gap as OverGap}
use Rattle.trace.specs.Trace.{trace_rows}
use Rattle.trace.specs.Link.{deviation, above, below, within, all_from, hole, obeys, all_within, links_end, valid, greatest, farthest, link_error, list_error, limited, half}
use Rattle.measures.specs.Measure.{worst_sample, measure_of, fault_of}
use Rattle.channels.specs.Channels.{crate_row}
use Rattle.reduction.specs.Walking.{walk_list}
use Rattle.reduction.specs.Galloping.{gallop_list, gallop_total}
use Rattle.shortest.specs.Shortest.{minimum_list}
use Rattle.closest.specs.Closest.{obeying_list, least_error}
use Rattle.allowance.specs.Rows.{allowed_rows, least_rows}
use Rattle.proposed.specs.Proposed.{bad_at, list_row, ends_row, first_invalid, first_worst, list_sample, list_stray}
use Rattle.limits.specs.declared.Limits.{Limits}
use Rattle.judging.specs.declared.Verdict.TheVariants.{No}
use Rattle.limits.specs.Prepare.{common_rows, criterion_of, output_rows}
use Rattle.judging.specs.Measure.{measure_rows, measured_by}
use Rattle.judging.specs.Judge.{judge_rows, list_verdict, judge_of}
use Rattle.engine.specs.Write.{write_rows}
use Rattle.reporting.specs.Report.{crate_rows}

-- ---- dropouts: ticks 0 1 2 10 11 12, values 0, tolerance 0; a gap limit of 7 keeps 0 2 3 5, one of 8 keeps 0 5

abbrev holed_ticks : List ℕ
holed_ticks = 0 ∷ 1 ∷ 2 ∷ 10 ∷ 11 ∷ 12 ∷ []

abbrev level : List ℤ
level = pos 0 ∷ pos 0 ∷ pos 0 ∷ pos 0 ∷ pos 0 ∷ pos 0 ∷ []

abbrev under : ℕ → Limits
under g = record { tolerance = Ratio 0 1; gap = g }

holed_walk_7 : walk_list holed_ticks level (criterion_of (under 7)) ≡ 0 ∷ 2 ∷ 3 ∷ 5 ∷ []
unfolding walk_of walk_from stops criterion_of valid obeys hole all_within all_from within above below deviation gcd euclid
holed_walk_7 = refl

holed_gallop_7 : gallop_list holed_ticks level (criterion_of (under 7)) ≡ 0 ∷ 2 ∷ 3 ∷ 5 ∷ []
unfolding gallop_of gallop_search probe_of search_by doubling bisection stops criterion_of valid obeys hole all_within all_from within above below deviation gcd euclid
holed_gallop_7 = refl

holed_probes_7 : gallop_total holed_ticks level (criterion_of (under 7)) ≡ 7
unfolding gallop_probes sum_from gallop_of gallop_search probe_of search_by doubling bisection stops criterion_of valid obeys hole all_within all_from within above below deviation gcd euclid
holed_probes_7 = refl

holed_minimum_7 : minimum_list holed_ticks level (criterion_of (under 7)) ≡ 0 ∷ 2 ∷ 3 ∷ 5 ∷ []
unfolding minimum_of next_of links_of links_in best_stop stops criterion_of valid obeys hole all_within all_from within above below deviation gcd euclid
holed_minimum_7 = refl

-- least with m = 3 is 16, with m = 4 it is 0/1
holed_least_3 : least_rows holed_ticks level 7 3 6 ≡ Err Holes
unfolding least_rows allowed_rows trace_rows obeying_list links_end first first_of stops hole
holed_least_3 = refl

holed_least_fine : least_rows holed_ticks level 7 4 6 ≡ Ok tt
unfolding least_rows allowed_rows trace_rows obeying_list links_end first first_of stops hole
holed_least_fine = refl

holed_least_4 : least_error holed_ticks level 7 4 ≡ over 0 1
unfolding least_of obeys hole all_from least_from least_over lesser greater link_error farthest greatest deviation gcd euclid
holed_least_4 = refl

holed_walk_8 : walk_list holed_ticks level (criterion_of (under 8)) ≡ 0 ∷ 5 ∷ []
unfolding walk_of walk_from stops criterion_of valid obeys hole all_within all_from within above below deviation gcd euclid
holed_walk_8 = refl

holed_gallop_8 : gallop_list holed_ticks level (criterion_of (under 8)) ≡ 0 ∷ 5 ∷ []
unfolding gallop_of gallop_search probe_of search_by doubling bisection stops criterion_of valid obeys hole all_within all_from within above below deviation gcd euclid
holed_gallop_8 = refl

holed_probes_8 : gallop_total holed_ticks level (criterion_of (under 8)) ≡ 5
unfolding gallop_probes sum_from gallop_of gallop_search probe_of search_by doubling bisection stops criterion_of valid obeys hole all_within all_from within above below deviation gcd euclid
holed_probes_8 = refl

holed_minimum_8 : minimum_list holed_ticks level (criterion_of (under 8)) ≡ 0 ∷ 5 ∷ []
unfolding minimum_of next_of links_of links_in best_stop stops criterion_of valid obeys hole all_within all_from within above below deviation gcd euclid
holed_minimum_8 = refl

-- the list 0 5 crosses a hole of 7: judge's link 0, with an error of 0 and the sample before the hole, and the writer's cause 7
holed_judged : judge_of holed_ticks level (0 ∷ 5 ∷ []) (under 7) ≡ Ok (No 0 (record { error = over 0 1; sample = 2; side = OverGap }))
unfolding judge_of judge_rows common_rows criterion_of list_verdict trace_rows list_row bad_at first_invalid fault_of first first_of valid obeys hole all_within all_from within above below link_error farthest greatest deviation gcd euclid
holed_judged = refl

holed_written : write_rows holed_ticks level (0 ∷ 2 ∷ 5 ∷ []) (under 7) 99 0 ≡ Err (Link 1)
unfolding write_rows judge_rows common_rows criterion_of trace_rows list_row bad_at first_invalid first first_of valid obeys hole all_within all_from within above below deviation gcd euclid
holed_written = refl

-- 4 before 15 before 6 and 10; in least 15 before 5 before 16 before 10; in a report 11 before 4 before 15 before 10

gap_after_tolerance : common_rows holed_ticks level (record { tolerance = Ratio 1 0; gap = 0 }) ≡ Err Tolerance
unfolding common_rows trace_rows first first_of
gap_after_tolerance = refl

gap_before_list : judge_rows holed_ticks level [] (under 0) ≡ Err Gap
unfolding judge_rows common_rows trace_rows first first_of gcd euclid
gap_before_list = refl

gap_before_room : output_rows holed_ticks level (under 1048576) 0 ≡ Err Gap
unfolding output_rows common_rows trace_rows first first_of gcd euclid
gap_before_room = refl

least_gap_first : least_rows holed_ticks level 0 1 0 ≡ Err Gap
unfolding least_rows allowed_rows trace_rows first first_of
least_gap_first = refl

least_allowance_next : least_rows holed_ticks level 7 1 0 ≡ Err Allowance
unfolding least_rows allowed_rows trace_rows first first_of
least_allowance_next = refl

least_holes_next : least_rows holed_ticks level 7 3 0 ≡ Err Holes
unfolding least_rows allowed_rows trace_rows obeying_list links_end first first_of stops hole
least_holes_next = refl

report_gap_after_tolerance : crate_rows holed_ticks level (6 ∷ []) (record { tolerance = Ratio 1 0; gap = 0 }) 0 ≡ Err Tolerance
unfolding crate_rows crate_row
report_gap_after_tolerance = refl

report_gap_before_room : crate_rows holed_ticks level (6 ∷ []) (under 0) 0 ≡ Err Gap
unfolding crate_rows crate_row gcd euclid
report_gap_before_room = refl

-- ticks 0 2 3, values 0, a gap limit of 1: walk and gallop keep all three samples, though the list 0 2 has the error 0. So demand 3 is about lists
-- that obey the gap limit, and false of all kept lists within half the tolerance.

abbrev sparse_ticks : List ℕ
sparse_ticks = 0 ∷ 2 ∷ 3 ∷ []

abbrev sparse : List ℤ
sparse = pos 0 ∷ pos 0 ∷ pos 0 ∷ []

sparse_walk : walk_list sparse_ticks sparse (criterion_of (under 1)) ≡ 0 ∷ 1 ∷ 2 ∷ []
unfolding walk_of walk_from stops criterion_of valid obeys hole all_within all_from within above below deviation gcd euclid
sparse_walk = refl

sparse_gallop : gallop_list sparse_ticks sparse (criterion_of (under 1)) ≡ 0 ∷ 1 ∷ 2 ∷ []
unfolding gallop_of gallop_search probe_of search_by doubling bisection stops criterion_of valid obeys hole all_within all_from within above below deviation gcd euclid
sparse_gallop = refl

sparse_error : list_error sparse_ticks sparse (0 ∷ 2 ∷ []) ≡ over 0 1
unfolding error_from greater link_error farthest greatest deviation gcd euclid
sparse_error = refl

sparse_within : AllValid (all_within sparse_ticks sparse (limited 1 (half (over 0 1)))) (0 ∷ 2 ∷ [])
unfolding all_within all_from within above below deviation
sparse_within = (refl, tt)

not_of_all_lists : ((h : List ℕ) → KeptList 2 h → AllValid (all_within sparse_ticks sparse (limited 1 (half (over 0 1)))) h → length (walk_list sparse_ticks sparse (criterion_of (under 1))) ≤ length h) → ⊥
not_of_all_lists no_longer =
    absurd (omega (arith, ap length sparse_walk, no_longer (0 ∷ 2 ∷ []) (record { spans = (refl, refl); rises = (omega arith, tt) }) sparse_within))

-- ---- where the line strays: ticks 0 1 3, values 0 1 1: from sample 0 to 2, 2/3 at sample 1, above; values 0 0 0: 0/1 at sample 0, on

abbrev slope_ticks : List ℕ
slope_ticks = 0 ∷ 1 ∷ 3 ∷ []

slope_measured : measured_by slope_ticks (pos 0 ∷ pos 1 ∷ pos 1 ∷ []) 0 2 ≡ Ok (record { error = over 2 3; sample = 1; side = Above })
unfolding measured_by measure_rows ends_row trace_rows worst_sample first first_of link_error farthest greatest deviation gcd euclid
slope_measured = refl

level_measured : measured_by slope_ticks (pos 0 ∷ pos 0 ∷ pos 0 ∷ []) 0 2 ≡ Ok (record { error = over 0 1; sample = 0; side = On })
unfolding measured_by measure_rows ends_row trace_rows worst_sample first first_of link_error farthest greatest deviation gcd euclid
level_measured = refl

-- of two samples with one deviation the first, on its own side
abbrev four_ticks : List ℕ
four_ticks = 0 ∷ 1 ∷ 2 ∷ 3 ∷ []

tie_above : measure_of four_ticks (pos 0 ∷ pos 1 ∷ negsuc 0 ∷ pos 0 ∷ []) 0 3 ≡ record { error = over 1 1; sample = 1; side = Above }
unfolding worst_sample first first_of link_error farthest greatest deviation gcd euclid
tie_above = refl

tie_below : measure_of four_ticks (pos 0 ∷ negsuc 0 ∷ pos 1 ∷ pos 0 ∷ []) 0 3 ≡ record { error = over 1 1; sample = 1; side = Below }
unfolding worst_sample first first_of link_error farthest greatest deviation gcd euclid
tie_below = refl

-- 6 with 0 for a first sample beyond the trace, with 1 for a second beyond it, equal to the first or below it; 2 comes first

beyond_first : measure_rows four_ticks (pos 0 ∷ pos 0 ∷ pos 0 ∷ pos 0 ∷ []) 4 9 ≡ Err (NoKeptList 0)
unfolding measure_rows ends_row trace_rows first first_of
beyond_first = refl

beyond_second : measure_rows four_ticks (pos 0 ∷ pos 0 ∷ pos 0 ∷ pos 0 ∷ []) 3 4 ≡ Err (NoKeptList 1)
unfolding measure_rows ends_row trace_rows first first_of
beyond_second = refl

equal_samples : measure_rows four_ticks (pos 0 ∷ pos 0 ∷ pos 0 ∷ pos 0 ∷ []) 3 3 ≡ Err (NoKeptList 1)
unfolding measure_rows ends_row trace_rows first first_of
equal_samples = refl

swapped_samples : measure_rows four_ticks (pos 0 ∷ pos 0 ∷ pos 0 ∷ pos 0 ∷ []) 2 1 ≡ Err (NoKeptList 1)
unfolding measure_rows ends_row trace_rows first first_of
swapped_samples = refl

trace_before_link : measure_rows (0 ∷ 1 ∷ 1 ∷ []) (pos 0 ∷ pos 0 ∷ pos 0 ∷ []) 9 0 ≡ Err (Tick 2)
unfolding measure_rows ends_row trace_rows first first_of
trace_before_link = refl

-- a link that crosses a hole and is not within the tolerance has its plain measure
both_faults : judge_of holed_ticks (pos 0 ∷ pos 0 ∷ pos 0 ∷ pos 0 ∷ pos 9 ∷ pos 0 ∷ []) (0 ∷ 5 ∷ []) (under 7) ≡ Ok (No 0 (record { error = over 9 1; sample = 4; side = Above }))
unfolding judge_of judge_rows common_rows criterion_of list_verdict trace_rows list_row bad_at first_invalid fault_of worst_sample first first_of valid obeys hole all_within all_from within above below link_error farthest greatest deviation gcd euclid
both_faults = refl

-- of two links with one error the first, and the worst one wherever it is
abbrev even_ticks : List ℕ
even_ticks = 0 ∷ 1 ∷ 2 ∷ 3 ∷ 4 ∷ []

first_worst_link : list_stray even_ticks (pos 0 ∷ pos 2 ∷ pos 0 ∷ negsuc 1 ∷ pos 0 ∷ []) (0 ∷ 2 ∷ 4 ∷ []) ≡ record { p = 2; q = 1; sample = 1 }
unfolding list_sample first_worst worst_sample first first_of error_from greater link_error farthest greatest deviation gcd euclid
first_worst_link = refl

later_worst_link : list_stray even_ticks (pos 0 ∷ pos 1 ∷ pos 0 ∷ negsuc 2 ∷ pos 0 ∷ []) (0 ∷ 2 ∷ 4 ∷ []) ≡ record { p = 3; q = 1; sample = 3 }
unfolding list_sample first_worst worst_sample first first_of error_from greater link_error farthest greatest deviation gcd euclid
later_worst_link = refl

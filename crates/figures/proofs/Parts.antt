-- Examples of the request "Above and below" of document 02, over the definitions that the contracts name, each by computation: the lists of walk, gallop
-- and minimum at unequal parts, three statements about the size of greedy lists that are false, the sample that judge names, and the rows.
-- Assumes nothing.
use Rattle.std.specs.Prelude.{Err, Ok}
use mathlib.Core.Path.{◌≡◌, refl, ap}
use mathlib.Core.Bool.{true, false}
use mathlib.Core.List.{List, [], ◌∷◌}
use Prim.Native.Nat.{ℕ, ◌-◌, ◌≤◌}
use native.Mathlib.Omega.{arith}
use lib.IntN.{ℤ, pos, negsuc}
use lib.ListN.{length, replicate}
use Rattle.lists.specs.First.{first, first_of}
use Rattle.ratio.specs.declared.Ratio.{Ratio as Fraction}
use Rattle.ratio.specs.Gcd.{gcd, euclid}
use Rattle.ratio.specs.Order.{over, plus, AtMost, greater, lesser}
use Rattle.kept.specs.Kept.{KeptList, AllValid}
use Rattle.kept.specs.Stops.{stops}
use Rattle.kept.specs.Walk.{walk_from, walk_of}
use Rattle.kept.specs.Minimum.{best_stop, links_in, links_of, next_of, minimum_of}
use Rattle.kept.specs.Gallop.{probe_of, doubling, bisection, search_by, gallop_search, gallop_of, gallop_probes, sum_from}
use Rattle.refusal.specs.declared.Refusal.TheVariants.{Tolerance as ToleranceAt}
use Rattle.refusal.specs.Table.{NotAllowedTolerance}
use Rattle.tolerance.specs.declared.Tolerance.{Tolerance}
use Rattle.tolerance.specs.declared.Tolerance.TheVariants.{Ratio, Parts}
use Rattle.tolerance.specs.Meaning.{agree}
use Rattle.trace.specs.declared.Side.TheVariants.{Above}
use Rattle.trace.specs.declared.Criterion.{Criterion}
use Rattle.trace.specs.Trace.{trace_rows}
use Rattle.trace.specs.Link.{deviation, above, below, within, all_from, hole, obeys, all_within, valid, parted, half, smaller, larger, greatest, farthest, link_error}
use Rattle.measures.specs.Measure.{worst_sample, fault_of}
use Rattle.channels.specs.Channels.{crate_row}
use Rattle.reduction.specs.Walking.{walk_list}
use Rattle.reduction.specs.Galloping.{gallop_list, gallop_total}
use Rattle.shortest.specs.Shortest.{minimum_list}
use Rattle.proposed.specs.Proposed.{bad_at, list_row, first_invalid}
use Rattle.limits.specs.Prepare.{unlimited, common_rows, criterion_of}
use Rattle.tolerances.specs.declared.Tolerances.{Tolerances}
use Rattle.tolerances.specs.Tolerances.{bad_at as bad_tolerance, several_rows, scan_rows}
use Rattle.judging.specs.declared.Verdict.TheVariants.{No}
use Rattle.judging.specs.Judge.{judge_rows, list_verdict, judge_of}
use Rattle.pedestals.specs.declared.Cause.TheVariants.{Call}
use Rattle.pedestals.specs.Compare.{run_of, runs_row, compare_rows}

-- U and D
abbrev parts : Fraction → Fraction → Tolerance
parts u d = Parts (record { up = u; down = d })

abbrev four_ticks : List ℕ
four_ticks = 0 ∷ 1 ∷ 2 ∷ 3 ∷ []

-- ---- ticks 0 to 4, values 0 2 0 -2 0, U = 2 and D = 1: 0 2 3 4 by each, gallop with 5 probes

abbrev five_ticks : List ℕ
five_ticks = 0 ∷ 1 ∷ 2 ∷ 3 ∷ 4 ∷ []

abbrev swing : List ℤ
swing = pos 0 ∷ pos 2 ∷ pos 0 ∷ negsuc 1 ∷ pos 0 ∷ []

abbrev high : Criterion
high = criterion_of (unlimited (parts (over 2 1) (over 1 1)))

swing_walk : walk_list five_ticks swing high ≡ 0 ∷ 2 ∷ 3 ∷ 4 ∷ []
unfolding walk_of walk_from stops criterion_of valid obeys hole all_within all_from within above below deviation gcd euclid
swing_walk = refl

swing_gallop : gallop_list five_ticks swing high ≡ 0 ∷ 2 ∷ 3 ∷ 4 ∷ []
unfolding gallop_of gallop_search probe_of search_by doubling bisection stops criterion_of valid obeys hole all_within all_from within above below deviation gcd euclid
swing_gallop = refl

swing_probes : gallop_total five_ticks swing high ≡ 5
unfolding gallop_probes sum_from gallop_of gallop_search probe_of search_by doubling bisection stops criterion_of valid obeys hole all_within all_from within above below deviation gcd euclid
swing_probes = refl

swing_minimum : minimum_list five_ticks swing high ≡ 0 ∷ 2 ∷ 3 ∷ 4 ∷ []
unfolding minimum_of next_of links_of links_in best_stop stops criterion_of valid obeys hole all_within all_from within above below deviation gcd euclid
swing_minimum = refl

-- with U and D exchanged minimum keeps other samples
swing_exchanged : minimum_list five_ticks swing (criterion_of (unlimited (parts (over 1 1) (over 2 1)))) ≡ 0 ∷ 1 ∷ 3 ∷ 4 ∷ []
unfolding minimum_of next_of links_of links_in best_stop stops criterion_of valid obeys hole all_within all_from within above below deviation gcd euclid
swing_exchanged = refl

-- ---- sizes: what no greedy list is promised

-- every kept list within the parts a and b that obeys the gap limit has at least n samples
abbrev NoneFewer : List ℕ → List ℤ → Criterion → Fraction → Fraction → ℕ → Type 0
NoneFewer ts vs c a b n = (h : List ℕ) → KeptList (length ts - 1) h → AllValid (valid ts vs (parted c.gap a b)) h → n ≤ length h

-- values 1 1 0 1, U = 0 and D = 3: both greedy lists are 0 1 3, and 0 3 is within U/2 and D/2
abbrev dip : List ℤ
dip = pos 1 ∷ pos 1 ∷ pos 0 ∷ pos 1 ∷ []

abbrev only_below : Criterion
only_below = parted 1048575 (over 0 1) (over 3 1)

dip_walk : walk_list four_ticks dip only_below ≡ 0 ∷ 1 ∷ 3 ∷ []
unfolding walk_of walk_from stops valid obeys hole all_within all_from within above below deviation
dip_walk = refl

dip_gallop : gallop_list four_ticks dip only_below ≡ 0 ∷ 1 ∷ 3 ∷ []
unfolding gallop_of gallop_search probe_of search_by doubling bisection stops valid obeys hole all_within all_from within above below deviation
dip_gallop = refl

dip_within : AllValid (valid four_ticks dip (parted 1048575 (half only_below.up) (half only_below.down))) (0 ∷ 3 ∷ [])
unfolding valid obeys hole all_within all_from within above below deviation
dip_within = (refl, tt)

not_half_of_each : ((ts : List ℕ) (vs : List ℤ) (c : Criterion) → NoneFewer ts vs c (half c.up) (half c.down) (length (walk_list ts vs c))) → ⊥
not_half_of_each bound =
    absurd (omega (arith, ap length dip_walk, bound four_ticks dip only_below (0 ∷ 3 ∷ []) (record { spans = (refl, refl); rises = (omega arith, tt) }) dip_within))

not_half_of_each_gallop : ((ts : List ℕ) (vs : List ℤ) (c : Criterion) → NoneFewer ts vs c (half c.up) (half c.down) (length (gallop_list ts vs c))) → ⊥
not_half_of_each_gallop bound =
    absurd (omega (arith, ap length dip_gallop, bound four_ticks dip only_below (0 ∷ 3 ∷ []) (record { spans = (refl, refl); rises = (omega arith, tt) }) dip_within))

-- ticks 0 1 2, values 1 1 -1, U = 1/2 and D = 2: both keep all samples, and 0 2 is within 1 and 0, whose sum is at most the larger part
abbrev three_ticks : List ℕ
three_ticks = 0 ∷ 1 ∷ 2 ∷ []

abbrev fall : List ℤ
fall = pos 1 ∷ pos 1 ∷ negsuc 0 ∷ []

abbrev more_below : Criterion
more_below = parted 1048575 (over 1 2) (over 2 1)

fall_walk : walk_list three_ticks fall more_below ≡ 0 ∷ 1 ∷ 2 ∷ []
unfolding walk_of walk_from stops valid obeys hole all_within all_from within above below deviation
fall_walk = refl

fall_gallop : gallop_list three_ticks fall more_below ≡ 0 ∷ 1 ∷ 2 ∷ []
unfolding gallop_of gallop_search probe_of search_by doubling bisection stops valid obeys hole all_within all_from within above below deviation
fall_gallop = refl

fall_within : AllValid (valid three_ticks fall (parted 1048575 (over 1 1) (over 0 1))) (0 ∷ 2 ∷ [])
unfolding valid obeys hole all_within all_from within above below deviation
fall_within = (refl, tt)

fall_sum : AtMost (plus (over 1 1) (over 0 1)) (larger more_below)
unfolding greater
fall_sum = omega arith

not_the_larger : ((ts : List ℕ) (vs : List ℤ) (c : Criterion) (a b : Fraction) → AtMost (plus a b) (larger c) → NoneFewer ts vs c a b (length (walk_list ts vs c))) → ⊥
not_the_larger bound = absurd (omega (
  arith,
  ap length fall_walk,
  bound three_ticks fall more_below (over 1 1) (over 0 1) fall_sum (0 ∷ 2 ∷ []) (record { spans = (refl, refl); rises = (omega arith, tt) }) fall_within,
))

not_the_larger_gallop : ((ts : List ℕ) (vs : List ℤ) (c : Criterion) (a b : Fraction) → AtMost (plus a b) (larger c) → NoneFewer ts vs c a b (length (gallop_list ts vs c))) → ⊥
not_the_larger_gallop bound = absurd (omega (
  arith,
  ap length fall_gallop,
  bound three_ticks fall more_below (over 1 1) (over 0 1) fall_sum (0 ∷ 2 ∷ []) (record { spans = (refl, refl); rises = (omega arith, tt) }) fall_within,
))

-- values 0 2 1 3, U = 1 and D = 3: both greedy lists are 0 1 3, and 0 3 is within 1 and 1, each at most the smaller part
abbrev stairs : List ℤ
stairs = pos 0 ∷ pos 2 ∷ pos 1 ∷ pos 3 ∷ []

abbrev one_above : Criterion
one_above = parted 1048575 (over 1 1) (over 3 1)

stairs_walk : walk_list four_ticks stairs one_above ≡ 0 ∷ 1 ∷ 3 ∷ []
unfolding walk_of walk_from stops valid obeys hole all_within all_from within above below deviation
stairs_walk = refl

stairs_gallop : gallop_list four_ticks stairs one_above ≡ 0 ∷ 1 ∷ 3 ∷ []
unfolding gallop_of gallop_search probe_of search_by doubling bisection stops valid obeys hole all_within all_from within above below deviation
stairs_gallop = refl

stairs_within : AllValid (valid four_ticks stairs (parted 1048575 (over 1 1) (over 1 1))) (0 ∷ 3 ∷ [])
unfolding valid obeys hole all_within all_from within above below deviation
stairs_within = (refl, tt)

stairs_small : AtMost (over 1 1) (smaller one_above)
unfolding lesser
stairs_small = omega arith

not_each_the_smaller : ((ts : List ℕ) (vs : List ℤ) (c : Criterion) (a b : Fraction) → AtMost a (smaller c) → AtMost b (smaller c) → NoneFewer ts vs c a b (length (walk_list ts vs c))) → ⊥
not_each_the_smaller bound = absurd (omega (
  arith,
  ap length stairs_walk,
  bound four_ticks stairs one_above (over 1 1) (over 1 1) stairs_small stairs_small (0 ∷ 3 ∷ []) (record { spans = (refl, refl); rises = (omega arith, tt) }) stairs_within,
))

not_each_the_smaller_gallop : ((ts : List ℕ) (vs : List ℤ) (c : Criterion) (a b : Fraction) → AtMost a (smaller c) → AtMost b (smaller c) → NoneFewer ts vs c a b (length (gallop_list ts vs c))) → ⊥
not_each_the_smaller_gallop bound = absurd (omega (
  arith,
  ap length stairs_gallop,
  bound four_ticks stairs one_above (over 1 1) (over 1 1) stairs_small stairs_small (0 ∷ 3 ∷ []) (record { spans = (refl, refl); rises = (omega arith, tt) }) stairs_within,
))

-- ---- where the line strays: values 1 0 1 -1, U = 5 and D = 0, list 0 3: sample 2 lies farthest, 4/3 above, and within its part; sample 1 below is not

abbrev crooked : List ℤ
crooked = pos 1 ∷ pos 0 ∷ pos 1 ∷ negsuc 0 ∷ []

abbrev none_below : Tolerance
none_below = parts (over 5 1) (over 0 1)

crooked_judged : judge_of four_ticks crooked (0 ∷ 3 ∷ []) (unlimited none_below) ≡ Ok (No 0 (record { error = over 4 3; sample = 2; side = Above }))
unfolding judge_of judge_rows common_rows criterion_of list_verdict trace_rows list_row bad_at first_invalid fault_of worst_sample first first_of valid obeys hole all_within all_from within above below link_error farthest greatest deviation gcd euclid
crooked_judged = refl

crooked_samples : (within four_ticks crooked (criterion_of (unlimited none_below)) 0 3 1 ≡ false) × (within four_ticks crooked (criterion_of (unlimited none_below)) 0 3 2 ≡ true)
unfolding criterion_of within above below deviation gcd euclid
crooked_samples = (refl, refl)

-- ---- rows: a part that is not allowed is 4, in a scan with its position; parts that are equal as values are one tolerance

bad_above : common_rows four_ticks dip (unlimited (parts (over 65536 1) (over 1 1))) ≡ Err NotAllowedTolerance
unfolding common_rows trace_rows first first_of
bad_above = refl

bad_below : common_rows four_ticks dip (unlimited (parts (over 1 1) (over 1 0))) ≡ Err NotAllowedTolerance
unfolding common_rows trace_rows first first_of
bad_below = refl

abbrev several : Tolerances
several = record {
  count = 3;
  list = record { tolerance = none_below } ∷ record { tolerance = parts (over 2 1) (over 1 1048576) } ∷ replicate 14 (record { tolerance = Ratio 1 0 });
}

bad_in_scan : scan_rows four_ticks dip several 0 0 ≡ Err (ToleranceAt 1)
unfolding scan_rows several_rows bad_tolerance trace_rows first first_of gcd euclid
bad_in_scan = refl

equal_values : criterion_of (unlimited (parts (over 2 2) (over 1 1))) ≡ criterion_of (unlimited (Ratio 1 1))
unfolding criterion_of gcd euclid
equal_values = refl

-- pedestals refuses parts that differ, and no others
unequal_pedestals : compare_rows (run_of (0 ∷ []) (pos 0 ∷ []) (1 ∷ [])) (run_of (0 ∷ []) (pos 0 ∷ []) (1 ∷ [])) (parts (over 2 1) (over 1 1)) 1 1 1 ≡ Err (Call NotAllowedTolerance)
unfolding compare_rows runs_row crate_row agree gcd euclid
unequal_pedestals = refl

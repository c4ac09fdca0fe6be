-- Examples of the requests of document 02 about crates, probes and range tables, over the definitions that the contracts name, each by computation.
-- Assumes nothing.
use Rattle.std.specs.Prelude.{Err, Ok}
use mathlib.Core.Path.{◌≡◌, refl, ap}
use mathlib.Core.List.{List, [], ◌∷◌}
use Prim.Native.Nat.{ℕ, zero, suc, ◌+◌, ◌*◌}
use lib.IntN.{ℤ, pos, negsuc, ◌-ℤ◌}
use lib.ListN.{get_or, set}
use lib.Count.{count_leading_zeros}
use Rattle.lists.specs.First.{first, first_of}
use Rattle.ratio.specs.Gcd.{gcd, euclid}
use Rattle.ratio.specs.Order.{over, greater}
use Rattle.kept.specs.Error.{error_from}
use Rattle.kept.specs.Stops.{stops}
use Rattle.kept.specs.Walk.{walk_from, walk_of}
use Rattle.kept.specs.Gallop.{sum_from, list_probes}
use Rattle.refusal.specs.declared.Refusal.TheVariants.{Length, Tick, Room, Crate, Table, Samples, Factor}
use Rattle.refusal.specs.Table.{NotAllowedTolerance as Tolerance, number_of, returned_of}
use Rattle.tolerance.specs.declared.Tolerance.TheVariants.{Ratio}
use Rattle.tolerance.specs.Meaning.{meaning, agree}
use Rattle.trace.specs.Trace.{trace_rows}
use Rattle.trace.specs.Link.{deviation, above, below, within, all_from, hole, obeys, all_within, valid, greatest, farthest, link_error}
use Rattle.measures.specs.Measure.{worst_sample}
use Rattle.codes.specs.RangeTable.{values_in, table_row, expand_with_rows}
use Rattle.channels.specs.Channels.{crate_row}
use Rattle.sheet.specs.Report.{kept_row, walked_row, declined_row, row_of, totalled, totals_of}
use Rattle.proposed.specs.Proposed.{first_worst, list_sample}
use Rattle.limits.specs.Prepare.{unlimited, criterion_of}
use Rattle.reporting.specs.Report.{crate_rows, report_rows}
use Rattle.pedestals.specs.declared.Cause.TheVariants.{Call, Trace}
use Rattle.verdicts.specs.Sums.{spread, moved, noisy}
use Rattle.pedestals.specs.Compare.{Run, run_of, held_ratio, cause_number, cause_value, runs_row, channel_row, compare_rows, moved_channels, noisy_channels}

-- ---- whole-crate report: lengths 5 0 2 1 at tolerance 2; the wave, no samples, a tick that does not rise, one sample

abbrev crate_ticks : List ℕ
crate_ticks = 0 ∷ 1 ∷ 2 ∷ 3 ∷ 4 ∷ 5 ∷ 5 ∷ 7 ∷ []

abbrev crate_values : List ℤ
crate_values = pos 0 ∷ pos 2 ∷ pos 0 ∷ negsuc 1 ∷ pos 0 ∷ pos 1 ∷ pos 1 ∷ pos 9 ∷ []

abbrev crate_lengths : List ℕ
crate_lengths = 5 ∷ 0 ∷ 2 ∷ 1 ∷ []

crate_fine : crate_rows crate_ticks crate_values crate_lengths (unlimited (Ratio 2 1)) 4 ≡ Ok tt
unfolding crate_rows crate_row
crate_fine = refl

crate_rows_lem : report_rows crate_ticks crate_values crate_lengths (unlimited (Ratio 2 1)) ≡ kept_row 5 3 (record { p = 2; q = 1; sample = 1 }) ∷ declined_row Length ∷ declined_row (Tick 1) ∷ kept_row 1 1 (record { p = 0; q = 1; sample = 0 }) ∷ []
unfolding row_of walked_row list_sample first_worst worst_sample trace_rows first first_of walk_of walk_from stops error_from greater link_error farthest greatest criterion_of valid obeys hole all_within all_from within above below deviation gcd euclid
crate_rows_lem = refl

crate_totals : totals_of (report_rows crate_ticks crate_values crate_lengths (unlimited (Ratio 2 1))) ≡ totalled 6 4 (over 2 1)
unfolding greater
crate_totals = ap totals_of crate_rows_lem

-- ---- probes to the digit: from the lists alone, the totals of the figures above; of a single sample; of stops of 1, 2, 3 and 4 samples

list_probes_all : list_probes (0 ∷ 1 ∷ 2 ∷ 3 ∷ 4 ∷ []) ≡ 4
unfolding sum_from count_leading_zeros
list_probes_all = refl

list_probes_ends : list_probes (0 ∷ 4 ∷ []) ≡ 5
unfolding sum_from count_leading_zeros
list_probes_ends = refl

list_probes_one : list_probes (0 ∷ []) ≡ 0
unfolding sum_from
list_probes_one = refl

list_probes_rising : list_probes (0 ∷ 1 ∷ 3 ∷ 6 ∷ 10 ∷ []) ≡ 1 + 3 + 3 + 5
unfolding sum_from count_leading_zeros
list_probes_rising = refl

-- ---- our own range table: code c has the value 257 c - 32768, so that codes 0 127 128 255 have -32768 -129 128 32767

-- the values of n codes from c on
own_from : ℕ → ℕ → List ℤ
own_from c zero = []
own_from c (suc n) = (pos (257 * c) -ℤ pos 32768) ∷ own_from (suc c) n

abbrev own : List ℤ
own = own_from 0 256

own_values : values_in own (0 ∷ 127 ∷ 128 ∷ 255 ∷ []) ≡ negsuc 32767 ∷ negsuc 128 ∷ pos 128 ∷ pos 32767 ∷ []
unfolding own_from
own_values = refl

own_fine : expand_with_rows (0 ∷ 127 ∷ 128 ∷ 255 ∷ []) own 4 ≡ Ok tt
unfolding expand_with_rows table_row first first_of own_from
own_fine = refl

-- code 255 with the value of code 254; code 0 with the greatest value; 255 values

own_level : table_row (set own 255 (get_or own 254 (pos 0))) ≡ Err (Table 255)
unfolding table_row first first_of own_from
own_level = refl

own_number : (number_of (Table 255) ≡ 12) × (returned_of (Table 255) ≡ 255)
own_number = (refl, refl)

own_falling : table_row (set own 0 (pos 32767)) ≡ Err (Table 1)
unfolding table_row first first_of own_from
own_falling = refl

own_short : table_row (own_from 0 255) ≡ Err (Table 0)
unfolding table_row own_from
own_short = refl

-- 1 before 12 before 10

own_length_first : expand_with_rows [] (own_from 0 255) 0 ≡ Err Length
unfolding expand_with_rows
own_length_first = refl

own_table_next : expand_with_rows (0 ∷ []) (own_from 0 255) 0 ≡ Err (Table 0)
unfolding expand_with_rows table_row own_from
own_table_next = refl

own_room_last : expand_with_rows (0 ∷ []) own 0 ≡ Err (Room 1)
unfolding expand_with_rows table_row first first_of own_from
own_room_last = refl

-- ---- morning pedestals: three channels of four samples at tolerance 1/2 and k = 2; channel 0 has moved, channel 1 is noisy, and channel 2 is
-- exactly at both limits

abbrev pedestal_ticks : List ℕ
pedestal_ticks = 0 ∷ 1 ∷ 2 ∷ 3 ∷ 0 ∷ 1 ∷ 2 ∷ 3 ∷ 0 ∷ 1 ∷ 2 ∷ 3 ∷ []

abbrev today : Run
today = run_of pedestal_ticks (pos 11 ∷ pos 13 ∷ pos 11 ∷ pos 13 ∷ negsuc 4 ∷ negsuc 4 ∷ negsuc 4 ∷ negsuc 3 ∷ pos 0 ∷ pos 2 ∷ pos 0 ∷ pos 2 ∷ []) (4 ∷ 4 ∷ 4 ∷ [])

abbrev earlier : Run
earlier = run_of pedestal_ticks (pos 10 ∷ pos 12 ∷ pos 10 ∷ pos 12 ∷ negsuc 4 ∷ negsuc 4 ∷ negsuc 4 ∷ negsuc 4 ∷ pos 0 ∷ pos 1 ∷ pos 0 ∷ pos 1 ∷ []) (4 ∷ 4 ∷ 4 ∷ [])

pedestals_fine : compare_rows today earlier (Ratio 1 2) 2 3 3 ≡ Ok tt
unfolding compare_rows runs_row crate_row channel_row trace_rows first first_of agree gcd euclid
pedestals_fine = refl

pedestals_moved : moved_channels (held_ratio (meaning (Ratio 1 2))) today earlier ≡ 0 ∷ []
unfolding moved gcd euclid
pedestals_moved = refl

pedestals_noisy : noisy_channels 2 today earlier ≡ 1 ∷ []
unfolding noisy spread
pedestals_noisy = refl

-- at 1/3, and at k = 1, channel 2 is listed too
pedestals_third : moved_channels (held_ratio (meaning (Ratio 1 3))) today earlier ≡ 0 ∷ 2 ∷ []
unfolding moved gcd euclid
pedestals_third = refl

pedestals_once : noisy_channels 1 today earlier ≡ 1 ∷ 2 ∷ []
unfolding noisy spread
pedestals_once = refl

-- the runs the other way round: what is noisy today was not before
pedestals_back : noisy_channels 2 earlier today ≡ []
unfolding noisy spread
pedestals_back = refl

-- 14 before 11 before 4 before the channels before 10

pedestals_factor_first : compare_rows today (run_of [] [] []) (Ratio 1 0) 17 0 0 ≡ Err (Call Factor)
unfolding compare_rows
pedestals_factor_first = refl

pedestals_counts : compare_rows today (run_of (0 ∷ []) (pos 0 ∷ []) (1 ∷ [])) (Ratio 1 0) 16 0 0 ≡ Err (Call Crate)
unfolding compare_rows runs_row crate_row
pedestals_counts = refl

-- channel 1 of run 2 has a tick that is not above the one before, and three samples
abbrev faulty : Run
faulty = run_of (0 ∷ 1 ∷ 2 ∷ 3 ∷ 0 ∷ 1 ∷ 1 ∷ 0 ∷ 1 ∷ 2 ∷ 3 ∷ 4 ∷ []) earlier.values (4 ∷ 3 ∷ 5 ∷ [])

pedestals_tolerance : compare_rows today faulty (Ratio 1 0) 16 0 0 ≡ Err (Call Tolerance)
unfolding compare_rows runs_row crate_row
pedestals_tolerance = refl

pedestals_own : compare_rows today faulty (Ratio 1 2) 16 0 0 ≡ Err (Trace 1 (Tick 2))
unfolding compare_rows runs_row crate_row channel_row trace_rows first first_of agree gcd euclid
pedestals_own = refl

pedestals_own_number : (cause_number (Trace 1 (Tick 2)) ≡ 2) × (cause_value (Trace 1 (Tick 2)) ≡ 1)
pedestals_own_number = (refl, refl)

-- with ticks that rise, 13 at channel 1, though channel 2 differs too
pedestals_samples : compare_rows today (run_of (0 ∷ 1 ∷ 2 ∷ 3 ∷ 0 ∷ 1 ∷ 2 ∷ 0 ∷ 1 ∷ 2 ∷ 3 ∷ 4 ∷ []) earlier.values (4 ∷ 3 ∷ 5 ∷ [])) (Ratio 1 2) 16 0 0 ≡ Err (Call (Samples 1))
unfolding compare_rows runs_row crate_row channel_row trace_rows first first_of agree gcd euclid
pedestals_samples = refl

pedestals_samples_number : (cause_number (Call (Samples 1)) ≡ 13) × (cause_value (Call (Samples 1)) ≡ 1)
pedestals_samples_number = (refl, refl)

pedestals_room_last : compare_rows today earlier (Ratio 1 2) 16 3 2 ≡ Err (Call (Room 3))
unfolding compare_rows runs_row crate_row channel_row trace_rows first first_of agree gcd euclid
pedestals_room_last = refl

-- Examples of the request "Summed channels" of document 02, over the definitions that the contract names, each by computation: a joined list whose
-- error is exactly 2 (T1 + T2), one whose error is above T1 + T2, and the rows in their order.
-- Assumes nothing.
use Rattle.std.specs.Prelude.{Err, Ok}
use mathlib.Core.Path.{◌≡◌, refl}
use mathlib.Core.List.{List, [], ◌∷◌}
use Prim.Native.Nat.{ℕ, ◌+◌, ◌*◌}
use lib.IntN.{ℤ, pos, negsuc}
use lib.ListN.{length}
use Rattle.lists.specs.First.{first, first_of}
use Rattle.lists.proofs.Tests.{true_false}
use Rattle.refusal.specs.declared.Refusal.TheVariants.{Length, Tick, List as NoKeptList, Room, Mismatch, Overflow}
use Rattle.refusal.specs.Table.{number_of, returned_of, Checked}
use Rattle.ratio.specs.declared.Ratio.{Ratio}
use Rattle.ratio.specs.Gcd.{gcd, euclid}
use Rattle.ratio.specs.Order.{over, greater}
use Rattle.kept.specs.Kept.{AllValid}
use Rattle.kept.specs.Error.{error_from}
use Rattle.trace.specs.Trace.{trace_rows}
use Rattle.trace.specs.Link.{deviation, above, below, within, all_from, hole, obeys, all_within, valid, greatest, farthest, link_error, list_error, limited}
use Rattle.proposed.specs.Proposed.{bad_at, list_row}
use Rattle.matching.specs.Match.{mismatch_row}
use Rattle.summed.specs.Sum.{sums_of, overflow_row, sum_rows, joined_of, twice_sum}

-- ---- the bound is reached: list 1 has the error 0 and list 2 the error 1, and the joined list has the error 2

abbrev five_ticks : List ℕ
five_ticks = 0 ∷ 1 ∷ 2 ∷ 3 ∷ 4 ∷ []

abbrev steep : List ℤ
steep = negsuc 5 ∷ negsuc 5 ∷ pos 0 ∷ pos 6 ∷ negsuc 5 ∷ []

abbrev steep_list : List ℕ
steep_list = 0 ∷ 1 ∷ 3 ∷ 4 ∷ []

abbrev wavy : List ℤ
wavy = pos 3 ∷ pos 4 ∷ pos 2 ∷ pos 4 ∷ pos 3 ∷ []

abbrev wavy_list : List ℕ
wavy_list = 0 ∷ 4 ∷ []

reached_fine : sum_rows five_ticks steep five_ticks wavy steep_list wavy_list 5 5 ≡ Ok tt
unfolding sum_rows mismatch_row overflow_row trace_rows list_row bad_at first first_of
reached_fine = refl

reached_sums : sums_of steep wavy ≡ negsuc 2 ∷ negsuc 1 ∷ pos 2 ∷ pos 10 ∷ negsuc 2 ∷ []
reached_sums = refl

reached_joined : joined_of 5 steep_list wavy_list ≡ 0 ∷ 1 ∷ 3 ∷ 4 ∷ []
unfolding joined_of
reached_joined = refl

reached_errors : (list_error five_ticks steep steep_list ≡ over 0 1) × (list_error five_ticks wavy wavy_list ≡ over 1 1)
unfolding error_from greater link_error farthest greatest deviation gcd euclid
reached_errors = (refl, refl)

reached_error : list_error five_ticks (sums_of steep wavy) (joined_of 5 steep_list wavy_list) ≡ twice_sum (over 0 1) (over 1 1)
unfolding joined_of error_from greater link_error farthest greatest deviation gcd euclid
reached_error = refl

reached_bound : twice_sum (over 0 1) (over 1 1) ≡ over 2 1
reached_bound = refl

reached_first : AllValid (valid five_ticks steep (limited 1 (over 0 1))) steep_list
unfolding valid obeys hole all_within all_from within above below deviation
reached_first = (refl, (refl, (refl, tt)))

reached_second : AllValid (valid five_ticks wavy (limited 1 (over 1 1))) wavy_list
unfolding valid obeys hole all_within all_from within above below deviation
reached_second = (refl, tt)

reached_valid : AllValid (valid five_ticks (sums_of steep wavy) (limited 1 (twice_sum (over 0 1) (over 1 1)))) (joined_of 5 steep_list wavy_list)
unfolding joined_of valid obeys hole all_within all_from within above below deviation
reached_valid = (refl, (refl, (refl, tt)))

-- ---- T1 + T2 is no bound: list 1 has the error 1/3 and list 2 the error 0, and the joined list has the error 1/2

abbrev plain_sum : Ratio → Ratio → Ratio
plain_sum a b = record { p = a.p * b.q + b.p * a.q; q = a.q * b.q }

-- what is promised of the joined list, with T1 + T2 in place of 2 (T1 + T2)
abbrev WithinPlainSum : List ℕ → List ℤ → List ℕ → List ℤ → List ℕ → List ℕ → Type 0
WithinPlainSum ts vs us ws l m =
    (a b : Ratio) (g : ℕ) → AllValid (valid ts vs (limited g a)) l → AllValid (valid us ws (limited g b)) m
    → AllValid (valid ts (sums_of vs ws) (limited g (plain_sum a b))) (joined_of (length ts) l m)

abbrev four_ticks : List ℕ
four_ticks = 0 ∷ 1 ∷ 2 ∷ 3 ∷ []

abbrev stepped : List ℤ
stepped = pos 0 ∷ pos 0 ∷ pos 1 ∷ pos 1 ∷ []

abbrev stepped_list : List ℕ
stepped_list = 0 ∷ 3 ∷ []

abbrev dipped : List ℤ
dipped = pos 0 ∷ negsuc 0 ∷ pos 0 ∷ pos 1 ∷ []

abbrev dipped_list : List ℕ
dipped_list = 0 ∷ 1 ∷ 3 ∷ []

above_errors : (list_error four_ticks stepped stepped_list ≡ over 1 3) × (list_error four_ticks dipped dipped_list ≡ over 0 1)
unfolding error_from greater link_error farthest greatest deviation gcd euclid
above_errors = (refl, refl)

above_error : (joined_of 4 stepped_list dipped_list ≡ 0 ∷ 1 ∷ 3 ∷ []) × (list_error four_ticks (sums_of stepped dipped) (joined_of 4 stepped_list dipped_list) ≡ over 1 2)
unfolding joined_of error_from greater link_error farthest greatest deviation gcd euclid
above_error = (refl, refl)

plain_sum_false : WithinPlainSum four_ticks stepped four_ticks dipped stepped_list dipped_list → ⊥
unfolding joined_of valid obeys hole all_within all_from within above below deviation
plain_sum_false within = true_false (within (over 1 3) (over 0 1) 1 (refl, tt) (refl, (refl, tt))).1.0 refl

-- ---- the rows: trace 1, trace 2, list 1, list 2, 17, 18, 10

-- trace 1 has a tick that is not above the one before, and trace 2 no samples
trace_1_first : sum_rows (0 ∷ 1 ∷ 1 ∷ []) (pos 0 ∷ pos 0 ∷ pos 0 ∷ []) [] [] [] [] 0 0 ≡ Err (Tick 2)
unfolding sum_rows trace_rows first first_of
trace_1_first = refl

trace_2_next : sum_rows (0 ∷ []) (pos 0 ∷ []) [] [] [] [] 0 0 ≡ Err Length
unfolding sum_rows trace_rows first first_of
trace_2_next = refl

-- list 1 ends beyond trace 1, and list 2 is empty
list_1_next : sum_rows (0 ∷ 1 ∷ []) (pos 0 ∷ pos 0 ∷ []) (5 ∷ []) (pos 0 ∷ []) (0 ∷ 2 ∷ []) [] 0 0 ≡ Err (NoKeptList 1)
unfolding sum_rows trace_rows list_row bad_at first first_of
list_1_next = refl

-- list 2 is one of trace 1, and not of trace 2
list_2_next : sum_rows (0 ∷ 1 ∷ []) (pos 0 ∷ pos 0 ∷ []) (5 ∷ []) (pos 0 ∷ []) (0 ∷ 1 ∷ []) (0 ∷ 1 ∷ []) 0 0 ≡ Err (NoKeptList 1)
unfolding sum_rows trace_rows list_row bad_at first first_of
list_2_next = refl

-- ticks differ at the samples 1 and 2, and the first sum is 32,768
mismatch_next : sum_rows (0 ∷ 1 ∷ 2 ∷ []) (pos 32767 ∷ pos 0 ∷ pos 0 ∷ []) (0 ∷ 2 ∷ 3 ∷ []) (pos 1 ∷ pos 0 ∷ pos 0 ∷ []) (0 ∷ 2 ∷ []) (0 ∷ 2 ∷ []) 0 0 ≡ Err (Mismatch 1)
unfolding sum_rows mismatch_row trace_rows list_row bad_at first first_of
mismatch_next = refl

-- one trace goes on where the other ends, either way
missing_2 : sum_rows (0 ∷ 1 ∷ 2 ∷ []) (pos 0 ∷ pos 0 ∷ pos 0 ∷ []) (0 ∷ []) (pos 0 ∷ []) (0 ∷ 2 ∷ []) (0 ∷ []) 3 3 ≡ Err (Mismatch 1)
unfolding sum_rows mismatch_row trace_rows list_row bad_at first first_of
missing_2 = refl

missing_1 : sum_rows (0 ∷ []) (pos 0 ∷ []) (0 ∷ 1 ∷ 2 ∷ []) (pos 0 ∷ pos 0 ∷ pos 0 ∷ []) (0 ∷ []) (0 ∷ 2 ∷ []) 3 3 ≡ Err (Mismatch 1)
unfolding sum_rows mismatch_row trace_rows list_row bad_at first first_of
missing_1 = refl

mismatch_number : (number_of (Mismatch 1) ≡ 17) × (returned_of (Mismatch 1) ≡ 1)
mismatch_number = (refl, refl)

-- the sums 0 32,768 32,769, and 0 -32,769 -32,769
overflow_next : sum_rows (0 ∷ 1 ∷ 2 ∷ []) (pos 0 ∷ pos 32767 ∷ pos 32767 ∷ []) (0 ∷ 1 ∷ 2 ∷ []) (pos 0 ∷ pos 1 ∷ pos 2 ∷ []) (0 ∷ 2 ∷ []) (0 ∷ 2 ∷ []) 0 0 ≡ Err (Overflow 1)
unfolding sum_rows mismatch_row overflow_row trace_rows list_row bad_at first first_of
overflow_next = refl

overflow_below : overflow_row (pos 0 ∷ negsuc 32767 ∷ negsuc 32767 ∷ []) (pos 0 ∷ negsuc 0 ∷ negsuc 0 ∷ []) ≡ Err (Overflow 1)
unfolding overflow_row first first_of
overflow_below = refl

overflow_number : (number_of (Overflow 1) ≡ 18) × (returned_of (Overflow 1) ≡ 1)
overflow_number = (refl, refl)

-- the sums 32,767 and -32,768 are in range, and each output needs 2 entries
abbrev two_ticks : List ℕ
two_ticks = 0 ∷ 1 ∷ []

abbrev outermost : ℕ → ℕ → Checked
outermost room room' = sum_rows two_ticks (pos 32766 ∷ negsuc 32766 ∷ []) two_ticks (pos 1 ∷ negsuc 0 ∷ []) two_ticks two_ticks room room'

outermost_fine : outermost 2 2 ≡ Ok tt
unfolding sum_rows mismatch_row overflow_row trace_rows list_row bad_at first first_of
outermost_fine = refl

room_for_sums : outermost 1 2 ≡ Err (Room 2)
unfolding sum_rows mismatch_row overflow_row trace_rows list_row bad_at first first_of
room_for_sums = refl

room_for_joined : outermost 2 1 ≡ Err (Room 2)
unfolding sum_rows mismatch_row overflow_row trace_rows list_row bad_at first first_of
room_for_joined = refl

-- Examples of the request "Live view" of document 02, over the definitions that the contracts name, each by computation: a view whose error is exactly twice that
-- of a list with k inner samples, lists and states for which there is no such bound, equal costs, and the rows in their order.
-- Assumes nothing.
use Rattle.std.specs.Prelude.{Err, Ok}
use mathlib.Core.Path.{◌≡◌, refl}
use mathlib.Core.List.{List, [], ◌∷◌, ◌++◌}
use Prim.Native.Nat.{ℕ}
use native.Mathlib.Omega.{arith}
use lib.IntN.{ℤ, pos, negsuc}
use lib.ListN.{replicate}
use Rattle.lists.specs.First.{first, first_of}
use Rattle.refusal.specs.declared.Refusal.TheVariants.{Length, Tick, Span, View as NoView}
use Rattle.refusal.specs.Table.{number_of, returned_of}
use Rattle.ratio.specs.Gcd.{gcd, euclid}
use Rattle.ratio.specs.Order.{over, greater, AtMost}
use Rattle.kept.specs.Error.{error_from}
use Rattle.views.specs.View.{cheapest, thinned, view_with, view_of, twice}
use Rattle.trace.specs.Trace.{trace_rows}
use Rattle.trace.specs.Link.{deviation, greatest, farthest, link_error, list_error}
use Rattle.proposed.specs.Proposed.{bad_at, list_row}
use Rattle.live.specs.declared.View.{View}
use Rattle.live.specs.Live.{fresh, begun_of, is_view, state_row, add_rows, grown}

abbrev five : List ℕ
five = 0 ∷ 1 ∷ 2 ∷ 3 ∷ 4 ∷ []

abbrev eight_ticks : List ℕ
eight_ticks = 0 ∷ 1 ∷ 2 ∷ 3 ∷ 4 ∷ 5 ∷ 6 ∷ 7 ∷ []

-- ---- a view is begun with the list 0, and k above 32 is refused

begun : (begun_of 0 ≡ Ok (fresh 0 1)) × (begun_of 32 ≡ Ok (fresh 32 1)) × (begun_of 33 ≡ Err NoView)
unfolding begun_of
begun = (refl, refl, refl)

-- ---- k = 1, values -4 -4 0 4 -4 4 -4 0: the lists after each sample, and the error 8 of the last, twice the error 4 of the list 0 2 7

abbrev swing : List ℤ
swing = negsuc 3 ∷ negsuc 3 ∷ pos 0 ∷ pos 4 ∷ negsuc 3 ∷ pos 4 ∷ negsuc 3 ∷ pos 0 ∷ []

abbrev swing_view : ℕ → List ℕ
swing_view n = view_of (link_error eight_ticks swing) 1 n

swing_lists : (swing_view 3 ≡ 0 ∷ 1 ∷ 2 ∷ 3 ∷ []) × (swing_view 4 ≡ 0 ∷ 1 ∷ 3 ∷ 4 ∷ []) × (swing_view 5 ≡ 0 ∷ 3 ∷ 4 ∷ 5 ∷ []) × (swing_view 6 ≡ 0 ∷ 4 ∷ 5 ∷ 6 ∷ []) × (swing_view 7 ≡ 0 ∷ 4 ∷ 5 ∷ 7 ∷ [])
unfolding view_of view_with thinned cheapest link_error farthest greatest deviation gcd euclid
swing_lists = (refl, refl, refl, refl, refl)

exactly_twice : (list_error eight_ticks swing (0 ∷ 4 ∷ 5 ∷ 7 ∷ []) ≡ over 8 1) × (list_error eight_ticks swing (0 ∷ 2 ∷ 7 ∷ []) ≡ over 4 1) × (twice (over 4 1) ≡ over 8 1)
unfolding error_from greater link_error farthest greatest deviation gcd euclid
exactly_twice = (refl, refl, refl)

-- ---- lists with k + 1 inner samples: k = 1, the error 74/9 is more than twice the error 4 of a list with 2

abbrev hill_ticks : List ℕ
hill_ticks = 0 ∷ 3 ∷ 6 ∷ 8 ∷ 9 ∷ 11 ∷ 13 ∷ 14 ∷ []

abbrev hill : List ℤ
hill = negsuc 6 ∷ pos 4 ∷ pos 11 ∷ pos 15 ∷ pos 27 ∷ pos 31 ∷ pos 23 ∷ pos 16 ∷ []

hill_view : view_of (link_error hill_ticks hill) 1 7 ≡ 0 ∷ 4 ∷ 6 ∷ 7 ∷ []
unfolding view_of view_with thinned cheapest link_error farthest greatest deviation gcd euclid
hill_view = refl

hill_errors : (list_error hill_ticks hill (0 ∷ 4 ∷ 6 ∷ 7 ∷ []) ≡ over 74 9) × (list_error hill_ticks hill (0 ∷ 2 ∷ 5 ∷ 7 ∷ []) ≡ over 4 1)
unfolding error_from greater link_error farthest greatest deviation gcd euclid
hill_errors = (refl, refl)

not_of_one_more : AtMost (over 74 9) (twice (over 4 1)) → ⊥
not_of_one_more a = omega arith

-- ---- a state set by hand: k = 1, values 0 1 0 -1, the list 0 2; it is accepted and becomes 0 2 3, with what lies behind it as it was; its error is 1, that of 0 1 3 is 0

abbrev turn : List ℤ
turn = pos 0 ∷ pos 1 ∷ pos 0 ∷ negsuc 0 ∷ []

abbrev by_hand : View
by_hand = record { k = 1; count = 2; samples = 0 ∷ 2 ∷ replicate 64 9 }

by_hand_fine : add_rows (0 ∷ 1 ∷ 2 ∷ 3 ∷ []) turn by_hand ≡ Ok tt
unfolding add_rows state_row is_view trace_rows list_row bad_at first first_of
by_hand_fine = refl

by_hand_grown : grown (0 ∷ 1 ∷ 2 ∷ 3 ∷ []) turn by_hand ≡ record { k = 1; count = 3; samples = 0 ∷ 2 ∷ 3 ∷ replicate 63 9 }
unfolding grown view_with
by_hand_grown = refl

by_hand_errors : (list_error (0 ∷ 1 ∷ 2 ∷ 3 ∷ []) turn (0 ∷ 2 ∷ 3 ∷ []) ≡ over 1 1) × (list_error (0 ∷ 1 ∷ 2 ∷ 3 ∷ []) turn (0 ∷ 1 ∷ 3 ∷ []) ≡ over 0 1)
unfolding error_from greater link_error farthest greatest deviation gcd euclid
by_hand_errors = (refl, refl)

not_by_hand : AtMost (over 1 1) (twice (over 0 1)) → ⊥
not_by_hand a = omega arith

-- ---- equal costs: k = 1, values 0 3 0 3 0; each inner sample of 0 1 2 3 4 costs 3, and the earliest is dropped

abbrev teeth : List ℤ
teeth = pos 0 ∷ pos 3 ∷ pos 0 ∷ pos 3 ∷ pos 0 ∷ []

equal_costs : (link_error five teeth 0 2 ≡ over 3 1) × (link_error five teeth 1 3 ≡ over 3 1) × (link_error five teeth 2 4 ≡ over 3 1)
unfolding link_error farthest greatest deviation gcd euclid
equal_costs = (refl, refl, refl)

earliest_dropped : view_with (link_error five teeth) 1 (0 ∷ 1 ∷ 2 ∷ 3 ∷ []) 4 ≡ 0 ∷ 2 ∷ 3 ∷ 4 ∷ []
unfolding view_with thinned cheapest link_error farthest greatest deviation gcd euclid
earliest_dropped = refl

-- ---- the sample that was last is an inner one now, and may be dropped: k = 1, values 0 5 0 5 5

old_last_dropped : view_with (link_error five (pos 0 ∷ pos 5 ∷ pos 0 ∷ pos 5 ∷ pos 5 ∷ [])) 1 (0 ∷ 1 ∷ 2 ∷ 3 ∷ []) 4 ≡ 0 ∷ 1 ∷ 2 ∷ 4 ∷ []
unfolding view_with thinned cheapest link_error farthest greatest deviation gcd euclid
old_last_dropped = refl

-- ---- k = 0 keeps both ends

both_ends : view_of (link_error five teeth) 0 4 ≡ 0 ∷ 4 ∷ []
unfolding view_of view_with thinned cheapest link_error farthest greatest deviation gcd euclid
both_ends = refl

-- ---- the rows in their order: 1, 2 and 3, then 20

-- no state of a view
abbrev no_state : View
no_state = fresh 0 0

-- with k, and a list in the first entries
abbrev holding : ℕ → ℕ → List ℕ → View
holding k count l = record { k = k; count = count; samples = l ++ replicate 62 0 }

length_before_state : add_rows [] [] no_state ≡ Err Length
unfolding add_rows trace_rows
length_before_state = refl

tick_before_state : add_rows (1 ∷ 1 ∷ []) (pos 0 ∷ pos 0 ∷ []) no_state ≡ Err (Tick 1)
unfolding add_rows trace_rows first first_of
tick_before_state = refl

span_before_state : add_rows (0 ∷ 1048576 ∷ []) (pos 0 ∷ pos 0 ∷ []) no_state ≡ Err (Span 1)
unfolding add_rows trace_rows first first_of
span_before_state = refl

-- a count of 0; one beyond the room; k above 32; more than 2k inner samples; a list that stops short, falls, or begins late; the new sample in it; no earlier sample
states_refused : (add_rows five teeth no_state ≡ Err NoView) × (add_rows five teeth (holding 32 67 (0 ∷ 1 ∷ 2 ∷ 3 ∷ [])) ≡ Err NoView) × (add_rows five teeth (holding 33 4 (0 ∷ 1 ∷ 2 ∷ 3 ∷ [])) ≡ Err NoView)
    × (add_rows five teeth (holding 0 3 (0 ∷ 1 ∷ 3 ∷ 0 ∷ [])) ≡ Err NoView) × (add_rows five teeth (holding 1 3 (0 ∷ 1 ∷ 2 ∷ 0 ∷ [])) ≡ Err NoView) × (add_rows five teeth (holding 1 4 (0 ∷ 2 ∷ 1 ∷ 3 ∷ [])) ≡ Err NoView)
    × (add_rows five teeth (holding 1 2 (1 ∷ 3 ∷ 0 ∷ 0 ∷ [])) ≡ Err NoView) × (add_rows five teeth (holding 1 3 (0 ∷ 1 ∷ 4 ∷ 0 ∷ [])) ≡ Err NoView) × (add_rows (0 ∷ []) (pos 0 ∷ []) (fresh 1 1) ≡ Err NoView)
unfolding add_rows state_row is_view trace_rows list_row bad_at first first_of
states_refused = (refl, refl, refl, refl, refl, refl, refl, refl, refl)

cause : (number_of NoView ≡ 20) × (returned_of NoView ≡ 0)
cause = (refl, refl)

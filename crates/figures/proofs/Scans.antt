-- Examples of the request "Sixteen tolerances in one reading" of document 02, over the definitions that the contract names, each by computation: the lists at
-- three tolerances, the answers so far after each sample, holes, and the rows in their order.
-- Assumes nothing.
use Rattle.std.specs.Prelude.{Err, Ok}
use mathlib.Core.Path.{◌≡◌, refl}
use mathlib.Core.Bool.{Bool}
use mathlib.Core.List.{List, [], ◌∷◌, ◌++◌}
use Prim.Native.Nat.{ℕ}
use lib.IntN.{ℤ, pos, negsuc}
use lib.ListN.{replicate}
use Rattle.lists.specs.First.{first, first_of}
use Rattle.refusal.specs.declared.Refusal.TheVariants.{Length, Tick, Span, Tolerance, Gap, Room, Count}
use Rattle.refusal.specs.Table.{number_of, returned_of}
use Rattle.ratio.specs.Gcd.{gcd, euclid}
use Rattle.tolerance.specs.declared.Tolerance.TheVariants.{Ratio}
use Rattle.kept.specs.Stops.{stops}
use Rattle.kept.specs.Walk.{walk_from, walk_of, walk_start, walk_open}
use Rattle.trace.specs.Trace.{trace_rows}
use Rattle.trace.specs.Link.{deviation, above, below, within, all_from, hole, obeys, all_within, valid}
use Rattle.limits.specs.Prepare.{criterion_of}
use Rattle.tolerances.specs.declared.Entry.{Entry}
use Rattle.tolerances.specs.declared.Tolerances.{Tolerances}
use Rattle.tolerances.specs.Tolerances.{limits_at, bad_at, several_rows, scan_rows}
use Rattle.reduction.specs.Walking.{walk_list}
use Rattle.scans.specs.Answers.{kept_before}

abbrev five : List ℕ
five = 0 ∷ 1 ∷ 2 ∷ 3 ∷ 4 ∷ []

abbrev wave : List ℤ
wave = pos 0 ∷ pos 2 ∷ pos 0 ∷ negsuc 1 ∷ pos 0 ∷ []

abbrev ratio : ℕ → ℕ → Entry
ratio p q = record { tolerance = Ratio p q }

abbrev three : Tolerances
three = record { count = 3; list = ratio 2 1 ∷ ratio 8 3 ∷ ratio 1 2 ∷ [] }

-- without a gap limit
abbrev list_at : ℕ → List ℕ
list_at a = walk_list five wave (criterion_of (limits_at three 1048575 a))

-- ---- values 0 2 0 -2 0 at 2, 8/3 and 1/2

wave_fine : scan_rows five wave three 1048575 15 ≡ Ok tt
unfolding scan_rows several_rows trace_rows bad_at first first_of gcd euclid
wave_fine = refl

wave_lists : (list_at 0 ≡ 0 ∷ 2 ∷ 4 ∷ []) × (list_at 1 ≡ 0 ∷ 4 ∷ []) × (list_at 2 ≡ 0 ∷ 1 ∷ 3 ∷ 4 ∷ [])
unfolding walk_of walk_from stops criterion_of valid obeys hole all_within all_from within above below deviation gcd euclid
wave_lists = (refl, refl, refl)

-- ---- after each sample, the answers so far closed with it

abbrev ok : ℕ → ℕ → Bool
ok = valid five wave (criterion_of (limits_at three 1048575 0))

wave_streams : (kept_before ok 1 ++ (1 ∷ []) ≡ 0 ∷ 1 ∷ []) × (kept_before ok 2 ++ (2 ∷ []) ≡ 0 ∷ 2 ∷ []) × (kept_before ok 3 ++ (3 ∷ []) ≡ 0 ∷ 2 ∷ 3 ∷ []) × (kept_before ok 4 ++ (4 ∷ []) ≡ 0 ∷ 2 ∷ 4 ∷ [])
unfolding kept_before walk_open walk_start criterion_of valid obeys hole all_within all_from within above below deviation gcd euclid
wave_streams = (refl, refl, refl, refl)

-- walk keeps sample 0 from the start, so that it would stand twice where it closed the list
first_twice : walk_open ok 0 ++ (0 ∷ []) ≡ 0 ∷ 0 ∷ []
unfolding walk_open
first_twice = refl

-- ---- a hole of 8 ticks after sample 2, under a gap limit of 7 and of 8: at each tolerance both samples beside it are kept

abbrev holed : List ℕ
holed = 0 ∷ 1 ∷ 2 ∷ 10 ∷ 11 ∷ 12 ∷ []

abbrev level : List ℤ
level = replicate 6 (pos 0)

holed_lists : (walk_list holed level (criterion_of (limits_at three 7 0)) ≡ 0 ∷ 2 ∷ 3 ∷ 5 ∷ []) × (walk_list holed level (criterion_of (limits_at three 7 2)) ≡ 0 ∷ 2 ∷ 3 ∷ 5 ∷ []) × (walk_list holed level (criterion_of (limits_at three 8 0)) ≡ 0 ∷ 5 ∷ [])
unfolding walk_of walk_from stops criterion_of valid obeys hole all_within all_from within above below deviation gcd euclid
holed_lists = (refl, refl, refl)

-- ---- the rows in their order: 1, 2 and 3, then 19, 4, 15 and 10

abbrev none : Tolerances
none = record { count = 0; list = replicate 16 (ratio 1 0) }

-- the second and the last are not allowed
abbrev bad : Tolerances
bad = record { count = 3; list = ratio 1 1 ∷ ratio 1 0 ∷ ratio 2 0 ∷ [] }

abbrev many : ℕ → Tolerances
many m = record { count = m; list = replicate 16 (ratio 1 1) }

length_first : scan_rows [] [] none 0 0 ≡ Err Length
unfolding scan_rows trace_rows
length_first = refl

tick_first : scan_rows (1 ∷ 1 ∷ []) (pos 0 ∷ pos 0 ∷ []) none 0 0 ≡ Err (Tick 1)
unfolding scan_rows trace_rows first first_of
tick_first = refl

span_first : scan_rows (0 ∷ 1048576 ∷ []) (pos 0 ∷ pos 0 ∷ []) none 0 0 ≡ Err (Span 1)
unfolding scan_rows trace_rows first first_of
span_first = refl

count_before_tolerances : scan_rows five wave none 0 0 ≡ Err Count
unfolding scan_rows several_rows trace_rows first first_of
count_before_tolerances = refl

seventeen_refused : scan_rows five wave (many 17) 0 0 ≡ Err Count
unfolding scan_rows several_rows trace_rows first first_of
seventeen_refused = refl

sixteen_pass : scan_rows five wave (many 16) 1 80 ≡ Ok tt
unfolding scan_rows several_rows trace_rows bad_at first first_of gcd euclid
sixteen_pass = refl

-- the position of the first that is not allowed, and not 0
tolerance_position : scan_rows five wave bad 0 0 ≡ Err (Tolerance 1)
unfolding scan_rows several_rows trace_rows bad_at first first_of gcd euclid
tolerance_position = refl

-- tolerances behind the last are not asked
behind_the_last : scan_rows five wave (record { count = 1; list = bad.list }) 1 5 ≡ Ok tt
unfolding scan_rows several_rows trace_rows bad_at first first_of gcd euclid
behind_the_last = refl

scan_gap_before_room : scan_rows five wave three 0 0 ≡ Err Gap
unfolding scan_rows several_rows trace_rows bad_at first first_of gcd euclid
scan_gap_before_room = refl

room_for_each : scan_rows five wave three 1 14 ≡ Err (Room 15)
unfolding scan_rows several_rows trace_rows bad_at first first_of gcd euclid
room_for_each = refl

numbers : (number_of Count ≡ 19) × (returned_of Count ≡ 0) × (number_of (Tolerance 1) ≡ 4) × (returned_of (Tolerance 1) ≡ 1)
numbers = (refl, refl, refl, refl)

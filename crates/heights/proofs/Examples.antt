-- Lines and heights of document 01's figures, and traces where each bound of specs/Budget is reached, with unequal parts, and would fail with the parts
-- exchanged, each by computation. Ticks are 0, 1, 2, ..
-- Assumes nothing.
use mathlib.Core.Path.{◌≡◌, refl}
use mathlib.Core.List.{List, [], ◌∷◌}
use Prim.Native.Nat.{ℕ, ◌≤◌}
use native.Mathlib.Omega.{arith}
use lib.IntN.{ℤ, pos, negsuc, ◌*ℤ◌}
use Rattle.kept.specs.Kept.{AllValid}
use Rattle.ratio.specs.Order.{over}
use Rattle.trace.specs.declared.Criterion.{Criterion}
use Rattle.trace.specs.Link.{deviation, above, below, within, all_from, hole, obeys, all_within, valid, parted}
use Rattle.heights.specs.Heights.{Fraction, link_at, line_from, line_at, samples_after, every_sample, trace_at, Near, Equals, joined, peak, trough, height}
use Rattle.heights.specs.Windows.{summed, multiplied, sum_at, mean_at, clipped, area_under, area_from, area_of, mean_over, baseline_height, baseline_depth}
use Rattle.heights.specs.Budget.{ErrorBudget}

abbrev five : List ℕ
five = 0 ∷ 1 ∷ 2 ∷ 3 ∷ 4 ∷ []

abbrev fraction : ℤ → ℕ → Fraction
fraction n d = record { num = n; den = d }

computed : {x y : Fraction} {v w : ℤ} → (1 ≤ x.den) × (1 ≤ y.den) → x.num ≡ v *ℤ pos x.den → y.num ≡ w *ℤ pos y.den → Equals x v × Equals y w
computed h e f = (record { positive = h.0; is = e }, record { positive = h.1; is = f })

-- ---- values 0 3 0 3 0: the minimum's list at tolerance 2 is 0 3 4

abbrev teeth : List ℤ
teeth = pos 0 ∷ pos 3 ∷ pos 0 ∷ pos 3 ∷ pos 0 ∷ []

-- at tick 1/2 its line is at 1/2 and the trace's own at 3/2
teeth_half : line_at five teeth (0 ∷ 3 ∷ 4 ∷ []) 1 2 ≡ fraction (pos 3) 6
unfolding line_from link_at
teeth_half = refl

teeth_half_trace : trace_at five teeth 1 2 ≡ fraction (pos 3) 2
unfolding samples_after line_from link_at
teeth_half_trace = refl

-- at sample 2 they are 2 apart, as far as the tolerance allows
teeth_two : line_at five teeth (0 ∷ 3 ∷ 4 ∷ []) 2 1 ≡ fraction (pos 6) 3
unfolding line_from link_at
teeth_two = refl

teeth_two_trace : trace_at five teeth 2 1 ≡ fraction (pos 0) 1
unfolding samples_after line_from link_at
teeth_two_trace = refl

-- at tick 7/2 the link from 3 to 4 decides
teeth_late : line_at five teeth (0 ∷ 3 ∷ 4 ∷ []) 7 2 ≡ fraction (pos 3) 2
unfolding line_from link_at
teeth_late = refl

-- ---- values 0 2 0 -2 0: gallop's list at tolerance 2 is 0 4, and its height is too small by 4, twice the tolerance

abbrev wave : List ℤ
wave = pos 0 ∷ pos 2 ∷ pos 0 ∷ negsuc 1 ∷ pos 0 ∷ []

wave_extremes : (peak wave (every_sample 4) ≡ pos 2) × (trough wave (every_sample 4) ≡ negsuc 1)
unfolding samples_after joined
wave_extremes = (refl, refl)

wave_height : height wave (every_sample 4) ≡ pos 4
unfolding samples_after joined
wave_height = refl

wave_height_kept : height wave (0 ∷ 4 ∷ []) ≡ pos 0
unfolding joined
wave_height_kept = refl

-- ---- one sample, at tick 7 with the value -5

one_sample : trace_at (7 ∷ []) (negsuc 4 ∷ []) 7 1 ≡ fraction (negsuc 4) 1
unfolding samples_after line_from
one_sample = refl

-- ---- the parts 3 above and 1 below, and 1 above and 3 below

abbrev tall : Criterion
tall = parted 1048575 (over 3 1) (over 1 1)

abbrev deep : Criterion
deep = parted 1048575 (over 1 1) (over 3 1)

-- ---- values 0 3 0 -1 0, list 0 4, parts 3 and 1: the greatest value is 3 too small, the least 1 too large, and the height 4 too small

abbrev swing : List ℤ
swing = pos 0 ∷ pos 3 ∷ pos 0 ∷ negsuc 0 ∷ pos 0 ∷ []

swing_within : AllValid (valid five swing tall) (0 ∷ 4 ∷ [])
unfolding valid obeys hole all_within all_from within above below deviation
swing_within = (refl, tt)

swing_extremes : (peak swing (every_sample 4) ≡ pos 3) × (trough swing (every_sample 4) ≡ negsuc 0) × (height swing (every_sample 4) ≡ pos 4)
unfolding samples_after joined
swing_extremes = (refl, refl, refl)

swing_extremes_kept : (peak swing (0 ∷ 4 ∷ []) ≡ pos 0) × (trough swing (0 ∷ 4 ∷ []) ≡ pos 0) × (height swing (0 ∷ 4 ∷ []) ≡ pos 0)
unfolding joined
swing_extremes_kept = (refl, refl, refl)

-- with the parts exchanged its budget is false: the greatest value is more than 1 too small
swing_exchanged : ErrorBudget five swing deep (0 ∷ 4 ∷ []) → ⊥
unfolding samples_after joined
swing_exchanged b = b.peak_near.le

-- ---- values 0 3 3 3 3 0 9, list 0 5 6, parts 3 and 1: of the window 1 .. 4 the mean is 3 too small, the area 3 for each tick, and the greatest value
-- minus the mean 3 too large

abbrev seven : List ℕ
seven = 0 ∷ 1 ∷ 2 ∷ 3 ∷ 4 ∷ 5 ∷ 6 ∷ []

abbrev plateau : List ℤ
plateau = pos 0 ∷ pos 3 ∷ pos 3 ∷ pos 3 ∷ pos 3 ∷ pos 0 ∷ pos 9 ∷ []

plateau_within : AllValid (valid seven plateau tall) (0 ∷ 5 ∷ 6 ∷ [])
unfolding valid obeys hole all_within all_from within above below deviation
plateau_within = (refl, (refl, tt))

plateau_mean : Equals (mean_at (line_at seven plateau (0 ∷ 5 ∷ 6 ∷ [])) 1 4) (pos 0) × Equals (mean_at (trace_at seven plateau) 1 4) (pos 3)
unfolding samples_after line_from link_at summed multiplied sum_at
plateau_mean = computed (omega arith) refl refl

plateau_area : Equals (area_of seven plateau (0 ∷ 5 ∷ 6 ∷ []) 1 4 1) (pos 0) × Equals (area_of seven plateau (every_sample 6) 1 4 1) (pos 9)
unfolding samples_after link_at summed multiplied clipped area_under area_from
plateau_area = computed (omega arith) refl refl

plateau_mean_over : Equals (mean_over seven plateau (0 ∷ 5 ∷ 6 ∷ []) 1 4 1) (pos 0) × Equals (mean_over seven plateau (every_sample 6) 1 4 1) (pos 3)
unfolding samples_after link_at summed multiplied clipped area_under area_from
plateau_mean_over = computed (omega arith) refl refl

-- between fractional ends, from tick 1/2 to tick 9/2, the area under the trace's own lines is 45/4
plateau_part : Equals (multiplied (area_of seven plateau (every_sample 6) 1 9 2) 4 1) (pos 45)
unfolding samples_after link_at summed multiplied clipped area_under area_from
plateau_part = record { positive = omega arith; is = refl }

plateau_baseline : Equals (baseline_height plateau (0 ∷ 5 ∷ 6 ∷ []) (mean_at (line_at seven plateau (0 ∷ 5 ∷ 6 ∷ [])) 1 4)) (pos 9)
    × Equals (baseline_height plateau (every_sample 6) (mean_at (trace_at seven plateau) 1 4)) (pos 6)
unfolding samples_after line_from link_at joined summed multiplied sum_at
plateau_baseline = computed (omega arith) refl refl

plateau_baseline_over : Equals (baseline_height plateau (0 ∷ 5 ∷ 6 ∷ []) (mean_over seven plateau (0 ∷ 5 ∷ 6 ∷ []) 1 4 1)) (pos 9)
    × Equals (baseline_height plateau (every_sample 6) (mean_over seven plateau (every_sample 6) 1 4 1)) (pos 6)
unfolding samples_after link_at joined summed multiplied clipped area_under area_from
plateau_baseline_over = computed (omega arith) refl refl

-- the parts exchanged: the mean is not at most 3 too large and at most 1 too small
plateau_exchanged : Near tall.up tall.down (mean_at (line_at seven plateau (0 ∷ 5 ∷ 6 ∷ [])) 1 4) (mean_at (trace_at seven plateau) 1 4) → ⊥
unfolding samples_after line_from link_at summed multiplied sum_at
plateau_exchanged h = h.small.above.le

-- ---- values 0 -1 -1 -1 -1 0 3 0, list 0 7, parts 3 and 1: the greatest value minus the mean of the window 1 .. 4 is 4 too small

abbrev eight : List ℕ
eight = 0 ∷ 1 ∷ 2 ∷ 3 ∷ 4 ∷ 5 ∷ 6 ∷ 7 ∷ []

abbrev dip : List ℤ
dip = pos 0 ∷ negsuc 0 ∷ negsuc 0 ∷ negsuc 0 ∷ negsuc 0 ∷ pos 0 ∷ pos 3 ∷ pos 0 ∷ []

dip_within : AllValid (valid eight dip tall) (0 ∷ 7 ∷ [])
unfolding valid obeys hole all_within all_from within above below deviation
dip_within = (refl, tt)

dip_baseline : Equals (baseline_height dip (0 ∷ 7 ∷ []) (mean_at (line_at eight dip (0 ∷ 7 ∷ [])) 1 4)) (pos 0)
    × Equals (baseline_height dip (every_sample 7) (mean_at (trace_at eight dip) 1 4)) (pos 4)
unfolding samples_after line_from link_at joined summed multiplied sum_at
dip_baseline = computed (omega arith) refl refl

dip_baseline_over : Equals (baseline_height dip (0 ∷ 7 ∷ []) (mean_over eight dip (0 ∷ 7 ∷ []) 1 4 1)) (pos 0)
    × Equals (baseline_height dip (every_sample 7) (mean_over eight dip (every_sample 7) 1 4 1)) (pos 4)
unfolding samples_after link_at joined summed multiplied clipped area_under area_from
dip_baseline_over = computed (omega arith) refl refl

-- ---- upside down, parts 1 and 3: of the window 1 .. 4 the mean is 3 too large, the area 3 for each tick, and the mean minus the least value 3 too large,
-- and 4 too small

abbrev basin : List ℤ
basin = pos 0 ∷ negsuc 2 ∷ negsuc 2 ∷ negsuc 2 ∷ negsuc 2 ∷ pos 0 ∷ negsuc 8 ∷ []

basin_within : AllValid (valid seven basin deep) (0 ∷ 5 ∷ 6 ∷ [])
unfolding valid obeys hole all_within all_from within above below deviation
basin_within = (refl, (refl, tt))

basin_mean : Equals (mean_at (line_at seven basin (0 ∷ 5 ∷ 6 ∷ [])) 1 4) (pos 0) × Equals (mean_at (trace_at seven basin) 1 4) (negsuc 2)
unfolding samples_after line_from link_at summed multiplied sum_at
basin_mean = computed (omega arith) refl refl

basin_area : Equals (area_of seven basin (0 ∷ 5 ∷ 6 ∷ []) 1 4 1) (pos 0) × Equals (area_of seven basin (every_sample 6) 1 4 1) (negsuc 8)
unfolding samples_after link_at summed multiplied clipped area_under area_from
basin_area = computed (omega arith) refl refl

basin_depth : Equals (baseline_depth basin (0 ∷ 5 ∷ 6 ∷ []) (mean_at (line_at seven basin (0 ∷ 5 ∷ 6 ∷ [])) 1 4)) (pos 9)
    × Equals (baseline_depth basin (every_sample 6) (mean_at (trace_at seven basin) 1 4)) (pos 6)
unfolding samples_after line_from link_at joined summed multiplied sum_at
basin_depth = computed (omega arith) refl refl

-- the parts exchanged: the mean is not at most 1 too large and at most 3 too small
basin_exchanged : Near deep.up deep.down (mean_at (line_at seven basin (0 ∷ 5 ∷ 6 ∷ [])) 1 4) (mean_at (trace_at seven basin) 1 4) → ⊥
unfolding samples_after line_from link_at summed multiplied sum_at
basin_exchanged h = h.large.above.le

abbrev hump : List ℤ
hump = pos 0 ∷ pos 1 ∷ pos 1 ∷ pos 1 ∷ pos 1 ∷ pos 0 ∷ negsuc 2 ∷ pos 0 ∷ []

hump_within : AllValid (valid eight hump deep) (0 ∷ 7 ∷ [])
unfolding valid obeys hole all_within all_from within above below deviation
hump_within = (refl, tt)

hump_depth : Equals (baseline_depth hump (0 ∷ 7 ∷ []) (mean_at (line_at eight hump (0 ∷ 7 ∷ [])) 1 4)) (pos 0)
    × Equals (baseline_depth hump (every_sample 7) (mean_at (trace_at eight hump) 1 4)) (pos 4)
unfolding samples_after line_from link_at joined summed multiplied sum_at
hump_depth = computed (omega arith) refl refl

-- with the parts exchanged its budget is false: the least value is more than 1 too large
hump_exchanged : ErrorBudget eight hump tall (0 ∷ 7 ∷ []) → ⊥
unfolding samples_after joined
hump_exchanged b = b.trough_near.le

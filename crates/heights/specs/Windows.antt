-- Means, areas and baseline heights over a window of ticks, read off the lines of a list (specs/Heights).
--   Line                  a height at each tick a/d
--   whole, nothing        a whole number as a fraction; 0
--   summed, multiplied    the sum of two fractions; m/n times a fraction
--   opposite              a fraction times -1
--   multiple              m/n times p/q
--   Window                the n whole ticks a, a+1, .. lie between the first and the last
--   sum_at, mean_at       the sum and the mean of a line at the n whole ticks a, a+1, ..
--   value_sum             the sum of the values of the n samples k, k+1, ..
--   clipped               a tick, or the nearer end of a stretch of ticks that it is not in
--   trapezoid             the area under a straight line from a height to a height over w/d ticks
--   area_under            the area under the line of a link from the tick a/d to the tick b/d
--   area_from, area_of    the area under the lines of the list i ∷ s, or of any list, from the tick a/d to the tick b/d
--   mean_over             the mean of a list's lines from the tick a/d to the tick b/d: their area over its ticks
--   baseline_height       the greatest value of a list's samples minus a mean
--   baseline_depth        a mean minus the least value of a list's samples
-- Laws are in FractionLaws, AreaLaws and WindowLaws. Assumes nothing.
use Rattle.std.specs.Prelude.{List, [], ◌∷◌, ℕ, zero, suc, ◌+◌, ◌-◌, ◌*◌, ◌≤◌, min, max, ℤ, pos, neg_ℤ, ◌+ℤ◌, ◌*ℤ◌, length}
use Rattle.ratio.specs.declared.Ratio.{Ratio}
use Rattle.trace.specs.Trace.{tick, value}
use Rattle.heights.specs.Heights.{Fraction, link_at, peak, trough}

abbrev pub Line : Type 0
Line = ℕ → ℕ → Fraction

-- ---- fractions

abbrev pub whole : ℤ → Fraction
whole v = record { num = v; den = 1 }

abbrev pub nothing : Fraction
nothing = whole (pos 0)

-- x + y
unfoldable pub summed : Fraction → Fraction → Fraction
summed x y = record { num = x.num *ℤ pos y.den +ℤ y.num *ℤ pos x.den; den = x.den * y.den }

-- x m/n
unfoldable pub multiplied : Fraction → ℕ → ℕ → Fraction
multiplied x m n = record { num = x.num *ℤ pos m; den = x.den * n }

abbrev pub opposite : Fraction → Fraction
opposite x = record { num = neg_ℤ x.num; den = x.den }

-- m/n times p/q
abbrev pub multiple : Ratio → ℕ → ℕ → Ratio
multiple r m n = record { p = r.p * m; q = r.q * n }

-- ---- whole ticks

pub record Window (ts : List ℕ) (a n : ℕ) : Type 0 where
  pub some : 1 ≤ n
  pub from : tick ts 0 ≤ a
  pub to : a + n ≤ tick ts (length ts - 1) + 1

unfoldable pub sum_at : Line → ℕ → ℕ → Fraction
sum_at f a zero = nothing
sum_at f a (suc n) = summed (f a 1) (sum_at f (suc a) n)

abbrev pub mean_at : Line → ℕ → ℕ → Fraction
mean_at f a n = multiplied (sum_at f a n) 1 n

unfoldable pub value_sum : List ℤ → ℕ → ℕ → ℤ
value_sum vs k zero = pos 0
value_sum vs k (suc n) = value vs k +ℤ value_sum vs (suc k) n

-- ---- areas

unfoldable pub clipped : ℕ → ℕ → ℕ → ℕ
clipped from to a = max from (min a to)

-- (x + y)/2 times w/d
abbrev pub trapezoid : Fraction → Fraction → ℕ → ℕ → Fraction
trapezoid x y w d = multiplied (summed x y) w (2 * d)

unfoldable pub area_under : List ℕ → List ℤ → ℕ → ℕ → ℕ → ℕ → ℕ → Fraction
area_under ts vs i j a b d = trapezoid (link_at ts vs i j a d) (link_at ts vs i j b d) (b - a) d

-- of each link the part inside the stretch
unfoldable pub area_from : List ℕ → List ℤ → ℕ → List ℕ → ℕ → ℕ → ℕ → Fraction
area_from ts vs i [] a b d = nothing
area_from ts vs i (j ∷ s) a b d = summed
    (area_under ts vs i j (clipped (d * tick ts i) (d * tick ts j) a) (clipped (d * tick ts i) (d * tick ts j) b) d)
    (area_from ts vs j s a b d)

abbrev pub area_of : List ℕ → List ℤ → List ℕ → ℕ → ℕ → ℕ → Fraction
area_of ts vs [] a b d = nothing
area_of ts vs (i ∷ s) a b d = area_from ts vs i s a b d

abbrev pub mean_over : List ℕ → List ℤ → List ℕ → ℕ → ℕ → ℕ → Fraction
mean_over ts vs l a b d = multiplied (area_of ts vs l a b d) d (b - a)

-- ---- baseline heights

-- peak - m
abbrev pub baseline_height : List ℤ → List ℕ → Fraction → Fraction
baseline_height vs l m = summed (whole (peak vs l)) (opposite m)

-- m - trough
abbrev pub baseline_depth : List ℤ → List ℕ → Fraction → Fraction
baseline_depth vs l m = summed (opposite (whole (trough vs l))) m

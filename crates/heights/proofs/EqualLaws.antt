-- The error budget at one tolerance p/q, which means both parts: the lines and the means are within p/q of the trace's own, an area is within p/q times
-- its ticks, and U + D is 2p/q.
-- Assumes nothing.
use mathlib.Core.List.{List}
use Prim.Native.Nat.{ℕ, ◌-◌, ◌*◌, ◌≤◌, ◌<◌}
use native.Mathlib.Nat.{mul-pos}
use native.Mathlib.Omega.{arith}
use lib.IntN.{ℤ, pos, ◌-ℤ◌, ◌*ℤ◌}
use lib.Signed.{◌≤ℤ◌}
use Rattle.ratio.specs.declared.Ratio.{Ratio}
use Rattle.trace.specs.Link.{limited}
use Rattle.trace.proofs.Difference.{wider}
use Rattle.heights.specs.Heights.{Fraction, line_at, trace_at, all_of, OnTrace, Near, Apart, height}
use Rattle.heights.specs.Windows.{multiple, Window, mean_at, area_of, mean_over, baseline_height, baseline_depth}
use Rattle.heights.specs.Budget.{BaselineBudget, ErrorBudget}
use Rattle.heights.proofs.FractionLaws.{near_apart, twice}

module _ {ts : List ℕ} {vs : List ℤ} {g : ℕ} {r : Ratio} {l : List ℕ} (b : ErrorBudget ts vs (limited g r) l) where
  pub equal_line : (a d : ℕ) → OnTrace ts a d → Apart r (line_at ts vs l a d) (trace_at ts vs a d)
  equal_line a d on = near_apart.0 (b.near a d on)

  pub equal_mean_at : (a n : ℕ) → Window ts a n → Apart r (mean_at (line_at ts vs l) a n) (mean_at (trace_at ts vs) a n)
  equal_mean_at a n w = near_apart.0 (b.windows.mean_at_near a n w)

  pub equal_area : (a e d : ℕ) → OnTrace ts a d → OnTrace ts e d → a ≤ e → Apart (multiple r (e - a) d) (area_of ts vs l a e d) (area_of ts vs (all_of ts) a e d)
  equal_area a e d oa oe h = near_apart.0 (b.windows.area a e d oa oe h)

  pub equal_mean_over : (a e d : ℕ) → OnTrace ts a d → OnTrace ts e d → a < e → Apart r (mean_over ts vs l a e d) (mean_over ts vs (all_of ts) a e d)
  equal_mean_over a e d oa oe h = near_apart.0 (b.windows.mean_over_near a e d oa oe h)

  -- a height is at most 2p/q too small
  pub equal_height : ((height vs (all_of ts) -ℤ height vs l) *ℤ pos r.q) ≤ℤ pos (2 * r.p)
  equal_height = wider (height vs (all_of ts) -ℤ height vs l) (r.q * r.q) _ r.q (2 * r.p) (mul-pos b.up_positive b.up_positive) (omega arith) b.height_near

  -- the greatest value minus a mean, and the mean minus the least, are at most p/q too large and at most 2p/q too small
  pub equal_baseline : {x y : Fraction} → BaselineBudget ts vs (limited g r) l x y
      → Near r (multiple r 2 1) (baseline_height vs l x) (baseline_height vs (all_of ts) y) × Near r (multiple r 2 1) (baseline_depth vs l x) (baseline_depth vs (all_of ts) y)
  equal_baseline h = (
    record { large = h.over_mean.large; small = twice r b.up_positive h.over_mean.small },
    record { large = h.under_mean.large; small = twice r b.up_positive h.under_mean.small },
  )

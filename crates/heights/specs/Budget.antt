-- The error budget: what a list that stands for its trace tells of it (specs/Heights, specs/Windows). The trace is at most U above the list's
-- lines and at most D below them, so the lines are at most D too large and at most U too small.
--   StandsFor         a kept list of a trace, within U above and D below, and the gap limit
--   BaselineBudget    the greatest value minus a mean, and the mean minus the least
--   WindowBudget      means, areas and baselines over any window of ticks
--   ErrorBudget       the lines, their greatest and least value, heights, and windows
-- Laws are in BudgetLaws and WindowLaws; what all this comes to at one tolerance, which means both parts, is in EqualLaws. Assumes nothing.
use Rattle.std.specs.Prelude.{List, ℕ, ◌-◌, ◌≤◌, ◌<◌, ℤ, pos, ◌-ℤ◌, ◌*ℤ◌, length, ◌≤ℤ◌}
use Rattle.kept.specs.Kept.{KeptList, AllValid}
use Rattle.ratio.specs.Order.{plus}
use Rattle.trace.specs.declared.Criterion.{Criterion}
use Rattle.trace.specs.Trace.{Trace}
use Rattle.trace.specs.Link.{valid}
use Rattle.heights.specs.Heights.{Fraction, line_at, trace_at, all_of, OnTrace, Near, peak, trough, height, Extremes}
use Rattle.heights.specs.Windows.{multiple, Window, mean_at, area_of, mean_over, baseline_height, baseline_depth}

-- both parts are fractions
pub record StandsFor (ts : List ℕ) (vs : List ℤ) (c : Criterion) (l : List ℕ) : Type 0 where
  pub trace : Trace ts vs
  pub up_positive : 1 ≤ c.up.q
  pub down_positive : 1 ≤ c.down.q
  pub kept : KeptList (length ts - 1) l
  pub within : AllValid (valid ts vs c) l

-- x is a mean of the list's lines, y that of the trace's own
pub record BaselineBudget (ts : List ℕ) (vs : List ℤ) (c : Criterion) (l : List ℕ) (x y : Fraction) : Type 0 where
  -- the greatest value minus the mean is at most U too large and at most U + D too small
  pub over_mean : Near c.up (plus c.up c.down) (baseline_height vs l x) (baseline_height vs (all_of ts) y)
  -- the mean minus the least is at most D too large and at most U + D too small
  pub under_mean : Near c.down (plus c.up c.down) (baseline_depth vs l x) (baseline_depth vs (all_of ts) y)

pub record WindowBudget (ts : List ℕ) (vs : List ℤ) (c : Criterion) (l : List ℕ) : Type 0 where
  -- the mean at whole ticks is at most D too large and at most U too small
  pub mean_at_near : (a n : ℕ) → Window ts a n → Near c.down c.up (mean_at (line_at ts vs l) a n) (mean_at (trace_at ts vs) a n)
  -- an area is at most D times its ticks too large and at most U times its ticks too small
  pub area : (a b d : ℕ) → OnTrace ts a d → OnTrace ts b d → a ≤ b
      → Near (multiple c.down (b - a) d) (multiple c.up (b - a) d) (area_of ts vs l a b d) (area_of ts vs (all_of ts) a b d)
  -- so the mean over a stretch of ticks is at most D too large and at most U too small
  pub mean_over_near : (a b d : ℕ) → OnTrace ts a d → OnTrace ts b d → a < b → Near c.down c.up (mean_over ts vs l a b d) (mean_over ts vs (all_of ts) a b d)
  -- so the greatest value minus either mean, and either mean minus the least, are as BaselineBudget says
  pub baseline_at : (a n : ℕ) → Window ts a n → BaselineBudget ts vs c l (mean_at (line_at ts vs l) a n) (mean_at (trace_at ts vs) a n)
  pub baseline_over : (a b d : ℕ) → OnTrace ts a d → OnTrace ts b d → a < b → BaselineBudget ts vs c l (mean_over ts vs l a b d) (mean_over ts vs (all_of ts) a b d)

pub record ErrorBudget (ts : List ℕ) (vs : List ℤ) (c : Criterion) (l : List ℕ) : Type 0 where
  -- both parts are fractions
  pub up_positive : 1 ≤ c.up.q
  pub down_positive : 1 ≤ c.down.q
  -- at every tick the lines are at most D above the trace's own and at most U below them
  pub near : (a d : ℕ) → OnTrace ts a d → Near c.down c.up (line_at ts vs l a d) (trace_at ts vs a d)
  pub extremes : Extremes ts vs l
  pub trace_extremes : Extremes ts vs (all_of ts)
  -- the greatest value is never too large, and at most U too small
  pub peak_high : peak vs l ≤ℤ peak vs (all_of ts)
  pub peak_near : ((peak vs (all_of ts) -ℤ peak vs l) *ℤ pos c.up.q) ≤ℤ pos c.up.p
  -- the least is never too small, and at most D too large
  pub trough_low : trough vs (all_of ts) ≤ℤ trough vs l
  pub trough_near : ((trough vs l -ℤ trough vs (all_of ts)) *ℤ pos c.down.q) ≤ℤ pos c.down.p
  -- so a height is never too large, and at most U + D too small
  pub height_high : height vs l ≤ℤ height vs (all_of ts)
  pub height_near : ((height vs (all_of ts) -ℤ height vs l) *ℤ pos (plus c.up c.down).q) ≤ℤ pos (plus c.up c.down).p
  -- means, areas and baselines
  pub windows : WindowBudget ts vs c l

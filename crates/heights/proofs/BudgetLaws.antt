-- What a kept list within U above and D below tells of its trace: the error budget of its lines, its greatest and its least value, its heights and its windows.
-- Assumes nothing.
use mathlib.Core.Path.{subst}
use mathlib.Core.List.{List}
use Prim.Native.Nat.{ℕ, ◌-◌, ◌≤◌}
use native.Mathlib.Nat.{mul-le-mul_right}
use native.Mathlib.Omega.{arith}
use lib.IntN.{ℤ, pos, ◌-ℤ◌, ◌*ℤ◌}
use lib.ListN.{length}
use lib.Signed.{◌≤ℤ◌}
use Rattle.kept.specs.Kept.{KeptList, AllValid}
use Rattle.ratio.specs.declared.Ratio.{Ratio}
use Rattle.ratio.specs.Order.{plus}
use Rattle.trace.specs.declared.Criterion.{Criterion}
use Rattle.trace.specs.Trace.{tick, value, Trace}
use Rattle.trace.specs.Link.{valid}
use Rattle.trace.proofs.Difference.{times, at_most, less, parts}
use Rattle.heights.specs.Heights.{Fraction, line_at, trace_at, all_of, Near, Equals, Between, peak, trough}
use Rattle.heights.specs.Budget.{StandsFor, ErrorBudget}
use Rattle.heights.proofs.Order.{order}
use Rattle.heights.proofs.FractionLaws.{excess_whole, none_left, none_right, equals_excess, between_excess}
use Rattle.heights.proofs.Entries.{Entry, kept_entry, every_kept, every_entry}
use Rattle.heights.proofs.NearLaws.{line_near}
use Rattle.heights.proofs.ExtremeLaws.{Sampled, peak_bound, trough_bound, peak_sampled, trough_sampled, line_through, sample_on, line_extremes}
use Rattle.heights.proofs.WindowLaws.{window_budget}

-- ---- bounds

module _ {a b : Ratio} {x y : Fraction} {v low high : ℤ} (near : Near a b x y) (is : Equals y v) (within : Between low high x) where
  -- x is at most a too large and at most b too small for v, so v is at most b above any upper bound of x, and at most a below any lower one
  above_bound : ((v -ℤ high) *ℤ pos b.q) ≤ℤ pos b.p
  above_bound = (excess_whole v high).1 (none_left (equals_excess is).0 (none_right near.small (between_excess within).1))

  below_bound : ((low -ℤ v) *ℤ pos a.q) ≤ℤ pos a.p
  below_bound = (excess_whole low v).1 (none_left (between_excess within).0 (none_right near.large (equals_excess is).1))

-- ---- heights: h and k are the greatest of the list and of the trace, l and m the least

heights_high : (h k l m : ℤ) → h ≤ℤ k → m ≤ℤ l → (h -ℤ l) ≤ℤ (k -ℤ m)
heights_high h k l m u v =
    let dh = (parts h).2 in
    let dk = (parts k).2 in
    let dl = (parts l).2 in
    let dm = (parts m).2 in
    (order (less dh dl) (less dk dm)).1 (omega (arith, (order dh dk).0 u, (order dm dl).0 v))

heights_near : (h k l m : ℤ) (a b : Ratio) → ((k -ℤ h) *ℤ pos a.q) ≤ℤ pos a.p → ((l -ℤ m) *ℤ pos b.q) ≤ℤ pos b.p
    → (((k -ℤ m) -ℤ (h -ℤ l)) *ℤ pos (plus a b).q) ≤ℤ pos (plus a b).p
heights_near h k l m a b u v =
    let dh = (parts h).2 in
    let dk = (parts k).2 in
    let dl = (parts l).2 in
    let dm = (parts m).2 in
    (at_most (times (less (less dk dm) (less dh dl)) (plus a b).q) (plus a b).p).1
    (omega (arith, mul-le-mul_right b.q ((at_most (times (less dk dh) a.q) a.p).0 u), mul-le-mul_right a.q ((at_most (times (less dl dm) b.q) b.p).0 v)))

-- ---- the budget

module _ {ts : List ℕ} {vs : List ℤ} (c : Criterion) {l : List ℕ} (t : Trace ts vs) (kept : KeptList (length ts - 1) l) (within : AllValid (valid ts vs c) l) where
  -- the list's line at a sample's tick, beside the trace's own, which has the sample's value
  module _ (k : ℕ) (inside : k ≤ length ts - 1) where
    here : Near c.down c.up (line_at ts vs l (tick ts k) 1) (trace_at ts vs (tick ts k) 1)
    here = line_near c t kept within (tick ts k) 1 (sample_on t k inside)

    passes : Equals (trace_at ts vs (tick ts k) 1) (value vs k)
    passes = line_through t (all_of ts) (every_kept (length ts - 1)) k (every_entry (length ts - 1) k inside)

    bounded : Between (trough vs l) (peak vs l) (line_at ts vs l (tick ts k) 1)
    bounded = (line_extremes t l kept).between (tick ts k) 1 (sample_on t k inside)

    sample_peak : ((value vs k -ℤ peak vs l) *ℤ pos c.up.q) ≤ℤ pos c.up.p
    sample_peak = above_bound here passes bounded

    sample_trough : ((trough vs l -ℤ value vs k) *ℤ pos c.down.q) ≤ℤ pos c.down.p
    sample_trough = below_bound here passes bounded

  -- a sample of the list is a sample of the trace
  of_trace : {v : ℤ} (m : Sampled vs l v) → Entry m.sample (all_of ts)
  of_trace m = every_entry (length ts - 1) m.sample (kept_entry l kept m.entry)

  peak_high : peak vs l ≤ℤ peak vs (all_of ts)
  peak_high = let m = peak_sampled vs l kept in subst (λ (v : ℤ). v ≤ℤ peak vs (all_of ts)) m.is (peak_bound vs (all_of ts) m.sample (of_trace m))

  trough_low : trough vs (all_of ts) ≤ℤ trough vs l
  trough_low = let m = trough_sampled vs l kept in subst (λ (v : ℤ). trough vs (all_of ts) ≤ℤ v) m.is (trough_bound vs (all_of ts) m.sample (of_trace m))

  peak_near : ((peak vs (all_of ts) -ℤ peak vs l) *ℤ pos c.up.q) ≤ℤ pos c.up.p
  peak_near =
      let m = peak_sampled vs (all_of ts) (every_kept (length ts - 1)) in
      subst (λ (v : ℤ). ((v -ℤ peak vs l) *ℤ pos c.up.q) ≤ℤ pos c.up.p) m.is (sample_peak m.sample (kept_entry (all_of ts) (every_kept (length ts - 1)) m.entry))

  trough_near : ((trough vs l -ℤ trough vs (all_of ts)) *ℤ pos c.down.q) ≤ℤ pos c.down.p
  trough_near =
      let m = trough_sampled vs (all_of ts) (every_kept (length ts - 1)) in
      subst (λ (v : ℤ). ((trough vs l -ℤ v) *ℤ pos c.down.q) ≤ℤ pos c.down.p) m.is (sample_trough m.sample (kept_entry (all_of ts) (every_kept (length ts - 1)) m.entry))

  budget : 1 ≤ c.up.q → 1 ≤ c.down.q → ErrorBudget ts vs c l
  budget up_some down_some = record {
    up_positive = up_some;
    down_positive = down_some;
    near = line_near c t kept within;
    extremes = line_extremes t l kept;
    trace_extremes = line_extremes t (all_of ts) (every_kept (length ts - 1));
    peak_high = peak_high;
    peak_near = peak_near;
    trough_low = trough_low;
    trough_near = trough_near;
    height_high = heights_high (peak vs l) (peak vs (all_of ts)) (trough vs l) (trough vs (all_of ts)) peak_high trough_low;
    height_near = heights_near (peak vs l) (peak vs (all_of ts)) (trough vs l) (trough vs (all_of ts)) c.up c.down peak_near trough_near;
    windows = window_budget c up_some down_some t kept within peak_high peak_near trough_low trough_near;
  }

pub error_budget : {ts : List ℕ} {vs : List ℤ} {c : Criterion} {l : List ℕ} → StandsFor ts vs c l → ErrorBudget ts vs c l
error_budget {c = c} s = budget c s.trace s.kept s.within s.up_positive s.down_positive

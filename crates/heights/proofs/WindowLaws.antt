-- What a kept list within U above and D below tells of its trace over any window: means, areas, and a greatest or least value beside a mean.
-- Assumes nothing.
use mathlib.Core.Path.{◌≡◌, refl}
use mathlib.Core.List.{List}
use Prim.Native.Nat.{ℕ, zero, suc, ◌+◌, ◌-◌, ◌*◌, ◌≤◌, ◌<◌}
use native.Mathlib.Nat.{add_comm, mul_comm, mul-pos}
use native.Mathlib.Omega.{arith}
use lib.IntN.{ℤ, pos, ◌-ℤ◌, ◌*ℤ◌}
use lib.ListN.{length}
use lib.Signed.{◌≤ℤ◌}
use Rattle.kept.specs.Kept.{KeptList, AllValid}
use Rattle.ratio.specs.declared.Ratio.{Ratio}
use Rattle.ratio.specs.Order.{over, plus}
use Rattle.trace.specs.declared.Criterion.{Criterion}
use Rattle.trace.specs.Trace.{tick, Trace}
use Rattle.trace.specs.Link.{valid}
use Rattle.heights.specs.Heights.{Fraction, line_at, trace_at, all_of, OnTrace, Excess, Near, Equals, peak, trough}
use Rattle.heights.specs.Windows.{Line, summed, Window, sum_at, mean_at, value_sum, mean_over}
use Rattle.heights.specs.Budget.{BaselineBudget, WindowBudget}
use Rattle.heights.proofs.FractionLaws.{equals_summed, plus_summed, excess_opposite, excess_whole, none, none_summed, order_excess, near_opposite, near_refl, near_summed, near_multiplied, near_wider}
use Rattle.heights.proofs.Entries.{every_kept, every_entry}
use Rattle.heights.proofs.NearLaws.{line_near}
use Rattle.heights.proofs.AreaLaws.{area_near}
use Rattle.heights.proofs.ExtremeLaws.{line_through}

-- ---- whole ticks

module _ (d u : Ratio) (f g : Line) where
  sum_near : (n a : ℕ) → ((k : ℕ) → a ≤ k → k < a + n → Near d u (f k 1) (g k 1)) → Near (over (d.p * n) d.q) (over (u.p * n) u.q) (sum_at f a n) (sum_at g a n)
  unfolding sum_at
  sum_near zero a h = near_refl _ _ _ (omega arith)
  sum_near (suc n) a h =
      let e : (p : ℕ) → p * suc n ≡ p + p * n = λ p. omega arith in
      rw (e d.p, e u.p) (near_summed (h a (omega arith) (omega arith)) (sum_near n (suc a) (λ k u v. h k (omega arith) (omega arith))))

  mean_near : (a n : ℕ) → 1 ≤ d.q → 1 ≤ u.q → 1 ≤ n → ((k : ℕ) → a ≤ k → k < a + n → Near d u (f k 1) (g k 1)) → Near d u (mean_at f a n) (mean_at g a n)
  mean_near a n d-some u-some one h = near_wider (mul-pos d-some one) (mul-pos u-some one) (omega arith) (omega arith) (near_multiplied 1 n one (sum_near n a h))

window_on : {ts : List ℕ} {a n : ℕ} → Window ts a n → (k : ℕ) → a ≤ k → k < a + n → OnTrace ts k 1
window_on w k u v = record { positive = omega arith; from = omega (arith, w.from); to = omega (arith, w.to) }

-- where the samples k, k+1, .. stand at the ticks a, a+1, .., the trace's own lines there have the sum of their values
pub samples_sum : {ts : List ℕ} {vs : List ℤ} → Trace ts vs → (n k a : ℕ) → k + n ≤ length ts → ((m : ℕ) → m < n → tick ts (k + m) ≡ a + m) → Equals (sum_at (trace_at ts vs) a n) (value_sum vs k n)
unfolding sum_at value_sum
samples_sum t zero k a inside h = record { positive = omega arith; is = refl }
samples_sum {ts} {vs} t (suc n) k a inside h =
    let at : (i m b : ℕ) → i ≡ k + m → b ≡ a + m → m < suc n → tick ts i ≡ b = λ i m b ei eb u. rw (ei, eb) (h m u) in
    let here = line_through t (all_of ts) (every_kept (length ts - 1)) k (every_entry (length ts - 1) k (omega arith)) in
    equals_summed (rw (at k 0 a (omega arith) (omega arith) (omega arith)) at here)
    (samples_sum t n (suc k) (suc a) (omega arith) (λ m u. at (suc k + m) (suc m) (suc a + m) (omega arith) (omega arith) (omega arith)))

-- ---- a greatest or least value beside a mean

-- u, x of the list and v, y of the trace: u is never too large and at most a too small, x at most a too large and at most b too small
baseline_near : {a b : Ratio} {u v x y : Fraction} → 1 ≤ a.q → 1 ≤ b.q → Excess none u v → Excess a v u → Near a b x y → Near a (plus a b) (summed u x) (summed v y)
baseline_near some more never most near = record { large = none_summed never near.large; small = plus_summed some more most near.small }

-- ---- the budget

by_ticks : (p q w d : ℕ) → p * w * d * q ≤ p * (q * d * w)
by_ticks p q w d = omega arith

module _ {ts : List ℕ} {vs : List ℤ} (c : Criterion) {l : List ℕ} (up_some : 1 ≤ c.up.q) (down_some : 1 ≤ c.down.q) (t : Trace ts vs) (kept : KeptList (length ts - 1) l)
    (within : AllValid (valid ts vs c) l) where
  means_at : (a n : ℕ) → Window ts a n → Near c.down c.up (mean_at (line_at ts vs l) a n) (mean_at (trace_at ts vs) a n)
  means_at a n w = mean_near c.down c.up (line_at ts vs l) (trace_at ts vs) a n down_some up_some w.some (λ k u v. line_near c t kept within k 1 (window_on w k u v))

  means_over : (a b d : ℕ) → OnTrace ts a d → OnTrace ts b d → a < b → Near c.down c.up (mean_over ts vs l a b d) (mean_over ts vs (all_of ts) a b d)
  means_over a b d oa ob ab =
      near_wider (mul-pos (mul-pos down_some oa.positive) (omega arith)) (mul-pos (mul-pos up_some oa.positive) (omega arith))
      (by_ticks c.down.p c.down.q (b - a) d) (by_ticks c.up.p c.up.q (b - a) d)
      (near_multiplied d (b - a) (omega arith) (area_near c up_some down_some t kept within a b d oa ob (omega arith)))

  module _ (peak_high : peak vs l ≤ℤ peak vs (all_of ts)) (peak_near : ((peak vs (all_of ts) -ℤ peak vs l) *ℤ pos c.up.q) ≤ℤ pos c.up.p)
      (trough_low : trough vs (all_of ts) ≤ℤ trough vs l) (trough_near : ((trough vs l -ℤ trough vs (all_of ts)) *ℤ pos c.down.q) ≤ℤ pos c.down.p) where
    baseline : {x y : Fraction} → Near c.down c.up x y → BaselineBudget ts vs c l x y
    baseline h = record {
      over_mean = baseline_near up_some down_some (order_excess peak_high) ((excess_whole _ _).0 peak_near) (near_opposite h);
      under_mean = rw (add_comm (c.up.p * c.down.q) (c.down.p * c.up.q), mul_comm c.up.q c.down.q)
          (baseline_near down_some up_some (excess_opposite (order_excess trough_low)) (excess_opposite ((excess_whole (trough vs l) (trough vs (all_of ts))).0 trough_near)) h);
    }

    pub window_budget : WindowBudget ts vs c l
    window_budget = record {
      mean_at_near = means_at;
      area = area_near c up_some down_some t kept within;
      mean_over_near = means_over;
      baseline_at = λ a n w. baseline (means_at a n w);
      baseline_over = λ a b d oa ob ab. baseline (means_over a b d oa ob ab);
    }

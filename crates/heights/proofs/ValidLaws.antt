-- A kept list whose lines are at most D above the trace's own and at most U below them at each sample's tick, and that obeys the gap limit, is within U
-- above and D below: the other way round from NearLaws.
-- Assumes nothing.
use mathlib.Core.Path.{◌≡◌}
use mathlib.Core.Bool.{true}
use mathlib.Core.List.{List, [], ◌∷◌}
use Prim.Native.Nat.{ℕ, ◌+◌, ◌-◌, ◌*◌, ◌≤◌, ◌<◌}
use native.Mathlib.Omega.{arith}
use lib.IntN.{ℤ}
use lib.ListN.{length}
use borrow.Author.Tests.{le-leb, lt-leb}
use Rattle.kept.specs.Kept.{LinksFrom, final, KeptList, AllValid}
use Rattle.kept.proofs.KeptLaws.{rise_le}
use Rattle.trace.specs.declared.Criterion.{Criterion}
use Rattle.trace.specs.Trace.{tick, value, Rising, Trace}
use Rattle.trace.specs.Link.{Within, obeys, valid}
use Rattle.trace.proofs.Ticks.{later}
use Rattle.trace.proofs.Line.{Above, Below}
use Rattle.trace.proofs.Deviation.{line}
use Rattle.trace.proofs.Offsets.{offset_of_diff, high, low}
use Rattle.trace.proofs.Holes.{true_obeys}
use Rattle.trace.proofs.Validity.{valid_true}
use Rattle.heights.specs.Heights.{Fraction, link_at, line_from, line_at, all_of, trace_at, Near, Equals}
use Rattle.heights.proofs.Entries.{every_kept, every_entry}
use Rattle.heights.proofs.FractionLaws.{Over, excess_over, equals_excess, none_left, none_right}
use Rattle.heights.proofs.LineLaws.{link_num, link_den}
use Rattle.heights.proofs.ExtremeLaws.{line_through}

-- ---- at one sample

-- a line of length t from level a to level b, beside a sample at level c, both over a base that cancels
module _ (a b c u s base p q : ℕ) {t : ℕ} (et : t ≡ u + s) where
  line_above : Over (c * q) (base * q) 1 (line a b u s * q) (base * t * q) t p → Above a b c u s p q
  line_above h = record { le = omega (arith, rw et at h) }

  line_below : Over (line a b u s * q) (base * t * q) t (c * q) (base * q) 1 p → Below a b c u s p q
  line_below h = record { le = omega (arith, rw et at h) }

module _ {ts : List ℕ} (rising : Rising ts) (vs : List ℤ) (c : Criterion) {i j k : ℕ} (ik : i < k) (kj : k < j) (inside : j < length ts) where
  near_within : {y : Fraction} → Near c.down c.up (link_at ts vs i j (tick ts k) 1) y → Equals y (value vs k) → Within ts vs c i j k
  near_within {y} near is =
      let ti : tick ts i < tick ts k = later rising k ik (omega arith) in
      let tj : tick ts k < tick ts j = later rising j kj inside in
      let from : 1 * tick ts i ≤ tick ts k = omega arith in
      let to : tick ts k ≤ 1 * tick ts j = omega arith in
      let r : tick ts k - 1 * tick ts i ≡ tick ts k - tick ts i = omega arith in
      let s : 1 * tick ts j - tick ts k ≡ tick ts j - tick ts k = omega arith in
      let den = rw (r, s) at (link_den ts vs i j (tick ts k) 1 from to) in
      let num = rw (r, s) at (link_num ts vs i j (tick ts k) 1 from to (offset_of_diff vs i) (offset_of_diff vs j)) in
      record {
        up = (high rising vs i j k c.up.p c.up.q (omega arith) (omega arith) inside).1
            (line_above _ _ _ _ _ _ c.up.p c.up.q den (excess_over (offset_of_diff vs k) num (none_left (equals_excess is).0 near.small)));
        down = (low rising vs i j k c.down.p c.down.q (omega arith) (omega arith) inside).1
            (line_below _ _ _ _ _ _ c.down.p c.down.q den (excess_over num (offset_of_diff vs k) (none_right near.large (equals_excess is).1)));
      }

-- ---- the whole list

module _ {ts : List ℕ} (rising : Rising ts) (vs : List ℤ) (c : Criterion) where
  -- at the ticks between two samples the line is that of their link, and after them that of the rest
  from_valid : (s : List ℕ) (i : ℕ) → LinksFrom ◌<◌ i s → LinksFrom (λ i j. obeys ts c.gap i j ≡ true) i s → final i s < length ts
      → ((k : ℕ) → i < k → k < final i s → (y : Fraction) × Near c.down c.up (line_from ts vs i s (tick ts k) 1) y × Equals y (value vs k)) → LinksFrom (λ i j. valid ts vs c i j ≡ true) i s
  unfolding line_from
  from_valid [] i r o inside near = tt
  from_valid (j ∷ s) i r o inside near =
      let j-inside : j ≤ final j s = omega (arith, rise_le j s r.1) in
      let tj : (k : ℕ) → k < j → tick ts k < tick ts j = λ k u. later rising j u (omega arith) in
      let jt : (k : ℕ) → j < k → k < final j s → tick ts j < tick ts k = λ k l u. later rising k l (omega arith) in (
        valid_true ts vs c i j (record {
          within = record {
            between = λ k l u. let n = near k l (omega arith) in near_within rising vs c l u (omega arith) (rw (le-leb (tick ts k) (1 * tick ts j) (omega (arith, tj k u))) at n.1) n.2;
          };
          obeys = true_obeys ts c.gap i j o.0;
        }),
        from_valid s j r.1 o.1 inside (λ k l u. let n = near k (omega (arith, r.0)) u in (n.0, rw (lt-leb (tick ts k) (1 * tick ts j) (omega (arith, jt k l u))) at n.1, n.2)),
      )

pub near_valid : {ts : List ℕ} {vs : List ℤ} (c : Criterion) (l : List ℕ) → Trace ts vs → KeptList (length ts - 1) l → AllValid (obeys ts c.gap) l
    → ((k : ℕ) → k ≤ length ts - 1 → Near c.down c.up (line_at ts vs l (tick ts k) 1) (trace_at ts vs (tick ts k) 1)) → AllValid (valid ts vs c) l
near_valid c [] t k o near = tt
near_valid {ts} {vs} c (i ∷ s) t k o near =
    let last = length ts - 1 in
    from_valid t.rising vs c s i k.rises o (omega (arith, k.spans.1, t.some))
    (λ m l u. (trace_at ts vs (tick ts m) 1, near m (omega (arith, k.spans.1)), line_through t (all_of ts) (every_kept last) m (every_entry last m (omega (arith, k.spans.1)))))

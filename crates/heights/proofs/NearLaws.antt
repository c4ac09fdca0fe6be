-- A kept list within U above and D below has its lines at most D above the trace's own and at most U below them, at every tick between the first and
-- the last. Inside a link both are straight from each sample to the next, so their difference there is a mean of those at two samples, which are
-- deviations of the link.
-- Assumes nothing.
use mathlib.Core.Path.{◌≡◌, refl, ◌∙◌, ap, subst}
use mathlib.Core.Bool.{true}
use mathlib.Core.Logic.{⊎_elim}
use mathlib.Core.List.{List}
use Prim.Native.Nat.{ℕ, suc, ◌+◌, ◌-◌, ◌*◌, ◌≤◌, ◌<◌, zero-le}
use native.Mathlib.Nat.{mul-le-mul_right, mul-le-mul_left, mul-sub, eq-or-lt_of_le}
use native.Mathlib.Omega.{arith}
use native.Mathlib.Decide.{dec_le}
use lib.IntN.{ℤ}
use lib.ListN.{length}
use Rattle.kept.specs.Kept.{KeptList, AllValid}
use Rattle.kept.proofs.KeptLaws.{each_zip, kept_links, kept_one}
use Rattle.ratio.specs.declared.Ratio.{Ratio}
use Rattle.trace.specs.declared.Criterion.{Criterion}
use Rattle.trace.specs.Trace.{tick, Rising, Trace}
use Rattle.trace.specs.Link.{AllWithin, valid}
use Rattle.trace.proofs.Line.{Above, Below}
use Rattle.trace.proofs.Ticks.{not_earlier}
use Rattle.trace.proofs.Difference.{Diff}
use Rattle.trace.proofs.Deviation.{line}
use Rattle.trace.proofs.Offsets.{offset_base, offset_of, offset_of_diff, High, Low}
use Rattle.trace.proofs.Validity.{true_valid}
use Rattle.trace.proofs.Half.{within_high, within_low}
use Rattle.heights.specs.Heights.{Fraction, link_at, line_from, line_at, samples_after, every_sample, trace_at, OnTrace, Excess, Near}
use Rattle.heights.proofs.Entries.{every_kept, every_links}
use Rattle.heights.proofs.FractionLaws.{over_excess, near_refl}
use Rattle.heights.proofs.LineLaws.{Located, kept_located, link_den, link_num, link_positive}

-- ---- over levels

-- A line of length t has the heights f, g, h (times t) at three places y and z ticks apart. Samples at levels c and e stand at the outer two:
-- at the middle one their mean is as near the line as they are.
module _ (c e f g h t y z p q : ℕ) {r : ℕ} (er : r ≡ y + z) (straight : g * (y + z) ≡ f * z + h * y) where
  mean_above : c * t * q ≤ f * q + p * t → e * t * q ≤ h * q + p * t → line c e y z * t * q ≤ g * r * q + p * (r * t)
  mean_above k l = rw er (omega (arith, ap (λ (n : ℕ). n * q) straight, mul-le-mul_right z k, mul-le-mul_right y l))

  mean_below : f * q ≤ c * t * q + p * t → h * q ≤ e * t * q + p * t → g * r * q ≤ line c e y z * t * q + p * (t * r)
  mean_below k l = rw er (omega (arith, ap (λ (n : ℕ). n * q) straight, mul-le-mul_right z k, mul-le-mul_right y l))

-- a line's heights at three places lie on a line
pub straight_line : (a b x y z w : ℕ) {u s v r : ℕ} → u ≡ x + y → s ≡ z + w → v ≡ y + z + w → r ≡ x + y + z
    → line a b u s * (y + z) ≡ line a b x v * z + line a b r w * y
straight_line a b x y z w eu es ev er = rw (eu, es, ev, er) (omega arith)

-- a length in two parts, however it is parted
across : (r s t u : ℕ) → r ≤ s → s ≤ t → r ≤ u → u ≤ t → (s - r) + (t - s) ≡ (u - r) + (t - u)
across r s t u rs st ru ut = omega arith

-- the bounds at a sample, with ticks counted in parts 1/d
module _ (a b c u s p q d : ℕ) {x r t : ℕ} (eu : d * u ≡ x) (es : d * s ≡ r) (et : t ≡ x + r) where
  parts_above : Above a b c u s p q → c * t * q ≤ line a b x r * q + p * t
  parts_above h = rw (et, ← eu, ← es) (omega (arith, mul-le-mul_right d h.le))

  parts_below : Below a b c u s p q → line a b x r * q ≤ c * t * q + p * t
  parts_below h = rw (et, ← eu, ← es) (omega (arith, mul-le-mul_right d h.le))

-- of two fractions over one base one is at most p/q above the other if its level is
excess_levels : {c : Ratio} {x y : Fraction} (base : ℕ) {m n : ℕ} → 1 ≤ x.den → 1 ≤ y.den → Diff x.num m (base * x.den) → Diff y.num n (base * y.den)
    → m * y.den * c.q ≤ n * x.den * c.q + c.p * (x.den * y.den) → Excess c x y
excess_levels base ex ey hx hy h = over_excess hx hy ex ey (omega arith)

-- ---- a valid link

module _ {ts : List ℕ} (rising : Rising ts) (vs : List ℤ) (c : Criterion) {i j : ℕ} (inside : j < length ts) (v : AllWithin ts vs c i j) where
  -- each sample of the link, its ends included, is at most U above it and at most D below it
  sample_high : (k : ℕ) → i ≤ k → k ≤ j → High ts vs i j c.up.p c.up.q k
  sample_high = within_high rising vs inside v

  sample_low : (k : ℕ) → i ≤ k → k ≤ j → Low ts vs i j c.down.p c.down.q k
  sample_low = within_low rising vs inside v

  -- so its line is at most D above that of two neighbours in it, between them, and at most U below it
  pub link_near : (a d k : ℕ) → 1 ≤ d → i ≤ k → suc k ≤ j → d * tick ts k ≤ a → a ≤ d * tick ts (suc k)
      → Near c.down c.up (link_at ts vs i j a d) (link_at ts vs k (suc k) a d)
  link_near a d k some ik kj from to =
      let ti : tick ts i ≤ tick ts k = not_earlier rising ik (omega arith) in
      let tj : tick ts (suc k) ≤ tick ts j = not_earlier rising kj inside in
      let tk : tick ts k < tick ts (suc k) = rising.rises k (omega arith) in
      let di : d * tick ts i ≤ d * tick ts k = mul-le-mul_left d ti in
      let dj : d * tick ts (suc k) ≤ d * tick ts j = mul-le-mul_left d tj in
      let length-is : (n : ℕ) → d * tick ts i ≤ n → n ≤ d * tick ts j → (link_at ts vs i j a d).den ≡ (n - d * tick ts i) + (d * tick ts j - n)
      = λ n l u. link_den ts vs i j a d (omega arith) (omega arith) ∙ across (d * tick ts i) a (d * tick ts j) n (omega arith) (omega arith) l u in
      let step_is = link_den ts vs k (suc k) a d from to in
      let on_line = straight_line (offset_of vs i) (offset_of vs j) (d * tick ts k - d * tick ts i) (a - d * tick ts k) (d * tick ts (suc k) - a) (d * tick ts j - d * tick ts (suc k))
      {u = a - d * tick ts i} {s = d * tick ts j - a} {v = d * tick ts j - d * tick ts k} {r = d * tick ts (suc k) - d * tick ts i}
      (omega arith) (omega arith) (omega arith) (omega arith) in
      let link = link_num ts vs i j a d (omega arith) (omega arith) (offset_of_diff vs i) (offset_of_diff vs j) in
      let step = link_num ts vs k (suc k) a d from to (offset_of_diff vs k) (offset_of_diff vs (suc k)) in
      let link-some = link_positive ts vs i j a d some (omega arith) in
      let step-some = link_positive ts vs k (suc k) a d some tk in
      record {
        large = excess_levels (offset_base vs) link-some step-some link step
            (mean_below (offset_of vs k) (offset_of vs (suc k)) _ _ _ _ _ _ c.down.p c.down.q step_is on_line
            (parts_below _ _ _ _ _ c.down.p c.down.q d (mul-sub d _ _) (mul-sub d _ _) (length-is _ di (omega arith)) (sample_low k ik (omega arith)))
            (parts_below _ _ _ _ _ c.down.p c.down.q d (mul-sub d _ _) (mul-sub d _ _) (length-is _ (omega arith) dj) (sample_low (suc k) (omega arith) kj)));
        small = excess_levels (offset_base vs) step-some link-some step link
            (mean_above (offset_of vs k) (offset_of vs (suc k)) _ _ _ _ _ _ c.up.p c.up.q step_is on_line
            (parts_above _ _ _ _ _ c.up.p c.up.q d (mul-sub d _ _) (mul-sub d _ _) (length-is _ di (omega arith)) (sample_high k ik (omega arith)))
            (parts_above _ _ _ _ _ c.up.p c.up.q d (mul-sub d _ _) (mul-sub d _ _) (length-is _ (omega arith) dj) (sample_high (suc k) (omega arith) kj)));
      }

-- ---- the whole list

-- a link that starts before the tick starts before one that ends at or after it
starts_before : {ts : List ℕ} → Rising ts → (a d i n : ℕ) → i < length ts → 0 < n → (0 < i → d * tick ts i < a) → a ≤ d * tick ts n → i < n
starts_before {ts} rising a d i n inside some first to = elim (dec_le n i) [
  | yes h ↦ absurd (omega (arith, first (omega arith), mul-le-mul_left d (not_earlier rising h inside)))
  | no h ↦ omega arith
]

one_near : (ts : List ℕ) (vs : List ℤ) (c : Criterion) (a d : ℕ) (l : List ℕ) → KeptList 0 l → Near c.down c.up (line_at ts vs l a d) (line_at ts vs (every_sample 0) a d)
unfolding line_from samples_after
one_near ts vs c a d l k = rw (kept_one l k) (near_refl c.down c.up _ (omega arith))

module _ {ts : List ℕ} (rising : Rising ts) (vs : List ℤ) (c : Criterion) (last a d : ℕ) (size : suc last ≡ length ts) (on : OnTrace ts a d) where
  -- a link of the list, and a step of the trace, that decide at one tick
  located_near : {x y : Fraction} → Located ts vs (λ i j. (i < j) × (j ≤ last) × (valid ts vs c i j ≡ true)) a d x → Located ts vs (λ i j. (j ≡ suc i) × (j ≤ last)) a d y → Near c.down c.up x y
  located_near x y =
      let e : y.j ≡ suc y.i = y.link.0 in
      let to : a ≤ d * tick ts (suc y.i) = subst (λ (n : ℕ). a ≤ d * tick ts n) e y.to in
      rw (x.is, y.is, e)
      (link_near rising vs c {i = x.i} {j = x.j} (omega (arith, x.link.1)) (true_valid ts vs c x.i x.j x.link.2).within a d y.i on.positive
      (omega (arith, starts_before rising a d x.i (suc y.i) (omega (arith, x.link.0, x.link.1)) (omega arith) x.first to))
      (starts_before rising a d y.i x.j (omega (arith, y.link)) (omega (arith, x.link.0)) y.first x.to)
      y.from to)

  kept_near : (l : List ℕ) → KeptList last l → AllValid (valid ts vs c) l → Near c.down c.up (line_at ts vs l a d) (line_at ts vs (every_sample last) a d)
  kept_near l k v =
      let to : a ≤ d * tick ts last = subst (λ (n : ℕ). a ≤ d * tick ts n) (omega arith) on.to in
      ⊎_elim (λ z. subst (λ (n : ℕ). KeptList n l → Near c.down c.up (line_at ts vs l a d) (line_at ts vs (every_sample n) a d)) z (one_near ts vs c a d l) k)
      (λ some. located_near
      (kept_located ts vs _ a d l some k (each_zip (λ i j r w. (r.0, r.1, w)) l (kept_links last l k) v) on.from to)
      (kept_located ts vs _ a d (every_sample last) some (every_kept last) (every_links _ last (λ k h. (refl, h))) on.from to))
      (eq-or-lt_of_le (zero-le {n = last}))

pub line_near : {ts : List ℕ} {vs : List ℤ} (c : Criterion) {l : List ℕ} → Trace ts vs → KeptList (length ts - 1) l → AllValid (valid ts vs c) l
    → (a d : ℕ) → OnTrace ts a d → Near c.down c.up (line_at ts vs l a d) (trace_at ts vs a d)
line_near {ts} {vs} c {l} t k v a d on = kept_near t.rising vs c (length ts - 1) a d (omega (arith, t.some)) on l k v

-- The closed cone: where one sample asks for a direction that another does not allow, no later link from the start is valid.
-- Assumes nothing.
use mathlib.Core.Path.{◌≡◌, refl, ap}
use mathlib.Core.Bool.{true, false, not}
use mathlib.Core.List.{List}
use Prim.Native.Nat.{ℕ, ◌+◌, ◌*◌, ◌≤◌, ◌<◌}
use native.Mathlib.Nat.{mul-le-mul_right, le_of_mul-le-mul_right}
use native.Mathlib.Omega.{arith}
use lib.IntN.{ℤ}
use lib.ListN.{length}
use borrow.Author.Tests.{le-leb}
use Rattle.lists.proofs.Tests.{is_false, true_false, and_true}
use Rattle.ratio.specs.Order.{over}
use Rattle.trace.specs.declared.Criterion.{Criterion}
use Rattle.trace.specs.declared.Edge.{Edge}
use Rattle.trace.specs.declared.Aim.{Aim}
use Rattle.trace.specs.declared.Across.{Across}
use Rattle.trace.specs.declared.Cone.{Cone}
use Rattle.trace.specs.Trace.{tick, Trace}
use Rattle.trace.specs.Link.{Linked, Bounded, AllWithin, valid, parted}
use Rattle.trace.proofs.Line.{Above, Below}
use Rattle.trace.specs.Edge.{middle, EdgeTo, AimTo, no_steeper, lowered, raised}
use Rattle.trace.specs.Cone.{Takes, closed_by, AcrossOf, AcrossTilt}
use Rattle.trace.proofs.Ticks.{later, not_earlier}
use Rattle.trace.proofs.Difference.{twice}
use Rattle.trace.proofs.Deviation.{below_form}
use Rattle.trace.proofs.Level.{level_diff}
use Rattle.trace.proofs.Offsets.{offset_of, offset_of_diff, High, Low}
use Rattle.trace.proofs.Validity.{true_valid, within_wider}
use Rattle.trace.proofs.Half.{within_high, within_low}
use Rattle.trace.proofs.EdgeLaws.{tilts}

-- A line of t ticks, s and r of them after the first and the second sample, passes the first at most p below it and the second at most o above:
-- the first one's lower bound on the slope is at most the second one's upper bound. Levels are times q.
crossed : (a b c d p o u w s r t : ℕ) → t ≡ u + s → t ≡ w + r → 0 < t → c * t ≤ a * s + b * u + p * t → a * r + b * w ≤ d * t + o * t
    → c * w + a * u ≤ d * u + a * w + o * u + p * w
crossed a b c d p o u w s r t es er some h k = le_of_mul-le-mul_right {k = t}
    (omega (arith, mul-le-mul_right w h, mul-le-mul_right u k, ap (λ (x : ℕ). a * w * x) es, ap (λ (x : ℕ). a * u * x) er)) some

-- the same of a sample that lies at most p/q above the line and of one that lies at most o/q below it
bounds : {a b c d u w s r p o q : ℕ} → u + s ≡ w + r → 0 < u + s → Above a b c u s p q → Below a b d w r o q
    → q * c * w + q * a * u ≤ q * d * u + q * a * w + o * u + p * w
bounds {a} {b} {c} {d} {u} {w} {s} {r} {p} {o} {q} whole some h k = omega (
  arith,
  crossed (a * q) (b * q) (c * q) (d * q) p o u w s r (u + s) refl whole some h.le (omega (arith, (below_form a b d w r o q (u + s) whole).1 k)),
)

-- so the edge to the first, lowered by p, is no steeper than the edge to the second, raised by o
compared : (a c d p o q u w r s x : ℕ) → x + p ≡ r → r + q * a ≡ middle + q * c → s + q * a ≡ middle + q * d
    → q * c * w + q * a * u ≤ q * d * u + q * a * w + o * u + p * w → x * w + middle * u ≤ (s + o) * u + middle * w
compared a c d p o q u w r s x ex er es h = omega (arith, ap (λ (n : ℕ). n * w) ex, ap (λ (n : ℕ). n * w) er, ap (λ (n : ℕ). n * u) es)

-- an edge over heights
offset_rise : {ts : List ℕ} {vs : List ℤ} {q i k : ℕ} {e : Edge} → EdgeTo ts vs q i k e → e.rise + q * offset_of vs i ≡ middle + q * offset_of vs k
offset_rise {vs} {q} {i} {k} h = omega (
  arith,
  h.rise,
  ap (λ (n : ℕ). q * n) (twice (level_diff (record { is = refl; range = h.from })) (offset_of_diff vs i)),
  ap (λ (n : ℕ). q * n) (twice (level_diff (record { is = refl; range = h.to })) (offset_of_diff vs k)),
)

-- a link to e that passes l within p above and m within o below leaves a direction between the two, at one scale
module _ {ts : List ℕ} {vs : List ℤ} {q start l m e : ℕ} {f g : Edge} (t : Trace ts vs) (inside : e < length ts) (sl : start ≤ l) (le : l < e) (sm : start ≤ m) (me : m < e)
    (hf : EdgeTo ts vs q start l f) (hg : EdgeTo ts vs q start m g) where
  left_open : {p o : ℕ} → p ≤ f.rise → High ts vs start e p q l → Low ts vs start e o q m → no_steeper (lowered f p) (raised g o) ≡ true
  left_open {p} {o} fits h k =
      let t₁ : tick ts start ≤ tick ts l = not_earlier t.rising sl (omega arith) in
      let t₂ : tick ts l < tick ts e = later t.rising e le inside in
      let t₃ : tick ts start ≤ tick ts m = not_earlier t.rising sm (omega arith) in
      let t₄ : tick ts m < tick ts e = later t.rising e me inside in
      le-leb _ _ (compared (offset_of vs start) (offset_of vs l) (offset_of vs m) p o q _ _ _ _ _ (omega arith) (offset_rise hf) (offset_rise hg)
      (rw (hf.run, hg.run) (bounds (omega arith) (omega arith) h k)))

module _ {ts : List ℕ} {vs : List ℤ} {c : Criterion} {start j : ℕ} {cone : Cone} {to : Aim} {x : Across} (link : Linked ts vs start j) (b : Bounded c) (takes : Takes ts vs c start j cone)
    (hj : AimTo ts vs c start j to) (a : AcrossOf c x) where
  -- the edges to a sample of the trace can be lowered and raised by either part
  pub across_tilts : AcrossTilt to x
  across_tilts =
      let t = link.trace in
      let l : start ≤ j = omega (arith, link.forward) in
      record { up = tilts hj.up t l link.inside b.up.q_bound a.down_bound; down = tilts hj.down t l link.inside b.down.q_bound a.up_bound }

  module _ (e : ℕ) (je : j < e) (inside : e < length ts) (v : valid ts vs c start e ≡ true) where
    here : AllWithin ts vs c start e
    here = (true_valid ts vs c start e v).within

    -- and so within each part at the scale of the other
    rounded : AllWithin ts vs (parted c.gap (over x.up c.down.q) (over x.down c.up.q)) start e
    rounded = within_wider (record { up_some = b.up.positive; down_some = b.down.positive; up = a.up; down = a.down }) here

    not_closed : closed_by cone to x ≡ false
    not_closed =
        let t = link.trace in
        let sj : start ≤ j = omega (arith, link.forward) in
        let lt : takes.lower < e = omega (arith, takes.lower_to) in
        let ut : takes.upper < e = omega (arith, takes.upper_to) in
        let low = tilts takes.low_edge t takes.lower_from (omega (arith, inside)) b.up.q_bound b.up.p_bound in
        rw (takes.low_is, takes.high_is) (ap not (and_true
        (left_open t inside sj je takes.upper_from ut hj.down takes.high_edge across_tilts.down.low
        (within_high t.rising vs inside rounded j sj (omega arith)) (within_low t.rising vs inside here takes.upper takes.upper_from (omega arith)))
        (left_open t inside takes.lower_from lt sj je takes.low_edge hj.up low.low
        (within_high t.rising vs inside here takes.lower takes.lower_from (omega arith)) (within_low t.rising vs inside rounded j sj (omega arith)))))

  -- no link to a later sample is valid
  pub closed_invalid : closed_by cone to x ≡ true → (e : ℕ) → j < e → e < length ts → valid ts vs c start e ≡ false
  closed_invalid h e je inside = is_false _ (λ v. true_false h (not_closed e je inside v))

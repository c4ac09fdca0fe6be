-- Areas under the lines of a list: a link's area is parted at any tick, and so a kept list within U above and D below has, over any stretch of ticks,
-- an area at most D times its ticks above the trace's own and at most U times its ticks below it: from each sample to the next both lines are straight,
-- and near at both ends.
-- Assumes nothing.
use mathlib.Core.Path.{◌≡◌, refl, ap}
use mathlib.Core.Bool.{true}
use mathlib.Core.List.{List, [], ◌∷◌}
use Prim.Native.Nat.{ℕ, zero, suc, ◌+◌, ◌-◌, ◌*◌, ◌≤◌, ◌<◌}
use native.Mathlib.Nat.{zero-add, mul-add, mul-pos, mul-le-mul_left}
use native.Mathlib.Omega.{arith}
use native.Mathlib.Decide.{dec_le}
use lib.IntN.{ℤ, pos}
use lib.ListN.{length}
use Rattle.kept.specs.Kept.{LinksFrom, final, KeptList, AllValid}
use Rattle.kept.proofs.KeptLaws.{rise_le}
use Rattle.ratio.specs.Order.{over}
use Rattle.trace.specs.declared.Criterion.{Criterion}
use Rattle.trace.specs.Trace.{tick, Rising, Trace}
use Rattle.trace.specs.Link.{AllWithin, valid}
use Rattle.trace.proofs.Ticks.{later, not_earlier}
use Rattle.trace.proofs.Validity.{true_valid}
use Rattle.trace.proofs.Difference.{plus, times, parts, natural, alike}
use Rattle.trace.proofs.Offsets.{offset_of, offset_of_diff}
use Rattle.heights.specs.Heights.{Fraction, link_at, samples_after, all_of, OnTrace, Near}
use Rattle.heights.specs.Windows.{nothing, summed, multiplied, multiple, clipped, area_under, area_from, area_of}
use Rattle.heights.proofs.FractionLaws.{near_refl, near_summed, near_multiplied, near_wider, near_left, near_sym, Same, near_same, same_sum, same_none, summed_comm, summed_assoc, summed_swap}
use Rattle.heights.proofs.LineLaws.{link_num}
use Rattle.heights.proofs.NearLaws.{straight_line, link_near}

-- ---- clipping

module _ (from to : ℕ) where
  clipped_order : {a b : ℕ} → a ≤ b → clipped from to a ≤ clipped from to b
  unfolding clipped
  clipped_order h = omega arith

  clipped_inside : (a : ℕ) → from ≤ to → (from ≤ clipped from to a) × (clipped from to a ≤ to)
  unfolding clipped
  clipped_inside a h = omega arith

  clipped_whole : (a : ℕ) → from ≤ a → a ≤ to → clipped from to a ≡ a
  unfolding clipped
  clipped_whole a h k = omega arith

-- a stretch in two parts: before and after the tick where they meet
module _ (from m to a : ℕ) (lower : from ≤ m) (upper : m ≤ to) where
  clipped_before : a ≤ m → (clipped from m a ≡ clipped from to a) × (clipped m to a ≡ m)
  unfolding clipped
  clipped_before h = omega arith

  clipped_after : m ≤ a → (clipped from m a ≡ m) × (clipped m to a ≡ clipped from to a)
  unfolding clipped
  clipped_after h = omega arith

  clipped_sum : clipped from m a + clipped m to a ≡ clipped from to a + m
  unfolding clipped
  clipped_sum = omega arith

-- ---- the area under a link

-- a line has the heights g, h, k at three places y and z apart: the two trapezoids are the whole one
trapezoids : (g h k e f y z w : ℕ) → w ≡ y + z → h * (y + z) ≡ g * z + k * y
    → (g * e + k * e) * w + ((f * e + f * e) * y + (f * e + f * e) * z) ≡ ((g * e + h * e) * y + (h * e + k * e) * z) + (f * e + f * e) * w
trapezoids g h k e f y z w ew straight = rw ew (omega (arith, ap (λ (n : ℕ). n * e) straight))

module _ (ts : List ℕ) (vs : List ℤ) (i j d : ℕ) (some : 1 ≤ d) (rises : tick ts i < tick ts j) where
  under_positive : (a b : ℕ) → 1 ≤ (area_under ts vs i j a b d).den
  unfolding area_under multiplied summed link_at
  under_positive a b = mul-pos (mul-pos (mul-pos some (omega arith)) (mul-pos some (omega arith))) (omega arith)

  under_none : (a : ℕ) → (area_under ts vs i j a a d).num ≡ pos 0
  unfolding area_under multiplied
  under_none a =
      let none : a - a ≡ 0 = omega arith in
      rw none (alike (times (parts (summed (link_at ts vs i j a d) (link_at ts vs i j a d)).num).2 0) (natural 0) (omega arith))

  -- parted at a tick
  under_parts : (a m b : ℕ) → d * tick ts i ≤ a → a ≤ m → m ≤ b → b ≤ d * tick ts j
      → Same (area_under ts vs i j a b d) (summed (area_under ts vs i j a m d) (area_under ts vs i j m b d))
  unfolding area_under multiplied summed link_at
  under_parts a m b from am mb to =
      let e = d * (tick ts j - tick ts i) in
      let g = link_num ts vs i j a d from (omega arith) (offset_of_diff vs i) (offset_of_diff vs j) in
      let h = link_num ts vs i j m d (omega arith) (omega arith) (offset_of_diff vs i) (offset_of_diff vs j) in
      let k = link_num ts vs i j b d (omega arith) to (offset_of_diff vs i) (offset_of_diff vs j) in
      let adds = alike (times (plus (times g e) (times k e)) (b - a)) (plus (times (plus (times g e) (times h e)) (m - a)) (times (plus (times h e) (times k e)) (b - m)))
      (trapezoids _ _ _ _ _ _ _ _ (omega arith)
      (straight_line (offset_of vs i) (offset_of vs j) (a - d * tick ts i) (m - a) (b - m) (d * tick ts j - b)
      {u = m - d * tick ts i} {s = d * tick ts j - m} {v = d * tick ts j - a} {r = b - d * tick ts i} (omega arith) (omega arith) (omega arith) (omega arith))) in
      rw adds (same_sum (area_under ts vs i j a m d).num (area_under ts vs i j m b d).num _ (under_positive a b))

  -- a stretch of the link, clipped to two parts of it
  clipped_parts : (from m to a b : ℕ) → d * tick ts i ≤ from → from ≤ m → m ≤ to → to ≤ d * tick ts j → a ≤ b
      → Same (area_under ts vs i j (clipped from to a) (clipped from to b) d)
      (summed (area_under ts vs i j (clipped from m a) (clipped from m b) d) (area_under ts vs i j (clipped m to a) (clipped m to b) d))
  clipped_parts from m to a b start fm mt end ab =
      let la = clipped_before from m to a fm mt in
      let ra = clipped_after from m to a fm mt in
      let lb = clipped_before from m to b fm mt in
      let rb = clipped_after from m to b fm mt in
      elim (dec_le b m) [
        | yes h ↦ rw ((la (omega arith)).0, (la (omega arith)).1, (lb h).0, (lb h).1, summed_comm (area_under ts vs i j (clipped from to a) (clipped from to b) d) (area_under ts vs i j m m d))
            (same_none _ _ (under_positive m m) (under_positive (clipped from to a) (clipped from to b)) (under_none m))
        | no h ↦ elim (dec_le a m) [
          | yes g ↦ let ia = clipped_inside from m a fm in
              let ib = clipped_inside m to b mt in
              rw ((la g).0, (la g).1, (rb (omega arith)).0, (rb (omega arith)).1)
              (under_parts (clipped from to a) m (clipped from to b) (omega (arith, la g)) (omega (arith, la g)) (omega (arith, rb (omega arith))) (omega (arith, rb (omega arith))))
          | no g ↦ rw ((ra (omega arith)).0, (ra (omega arith)).1, (rb (omega arith)).0, (rb (omega arith)).1)
              (same_none _ _ (under_positive m m) (under_positive (clipped from to a) (clipped from to b)) (under_none m))
        ]
      ]

-- ---- the area under a list

module _ {ts : List ℕ} (rising : Rising ts) (vs : List ℤ) (a m b d : ℕ) (some : 1 ≤ d) (am : a ≤ m) (mb : m ≤ b) where
  from_parts : (s : List ℕ) (i : ℕ) → LinksFrom ◌<◌ i s → final i s < length ts
      → Same (area_from ts vs i s a b d) (summed (area_from ts vs i s a m d) (area_from ts vs i s m b d))
  unfolding area_from
  from_parts [] i r inside = same_none nothing nothing (omega arith) (omega arith) refl
  from_parts (j ∷ s) i r inside =
      let rises = later rising j r.0 (omega (arith, rise_le j s r.1)) in
      let from = d * tick ts i in
      let to = d * tick ts j in
      let upward : from ≤ to = mul-le-mul_left d (omega arith) in
      rw summed_swap (near_summed
      (under_parts ts vs i j d some rises (clipped from to a) (clipped from to m) (clipped from to b) (clipped_inside from to a upward).0 (clipped_order from to am) (clipped_order from to mb) (clipped_inside from to b upward).1)
      (from_parts s j r.1 inside))

-- the area of a stretch is the sum of those of its parts
pub area_parts : {ts : List ℕ} {vs : List ℤ} {l : List ℕ} → Trace ts vs → KeptList (length ts - 1) l → (a m b d : ℕ) → 1 ≤ d → a ≤ m → m ≤ b
    → Same (area_of ts vs l a b d) (summed (area_of ts vs l a m d) (area_of ts vs l m b d))
area_parts {l = []} t k a m b d some am mb = absurd k.spans
area_parts {vs = vs} {l = i ∷ s} t k a m b d some am mb = from_parts t.rising vs a m b d some am mb s i k.rises (omega (arith, k.spans.1, t.some))

-- ---- a valid link beside the steps of the trace

-- the ticks of a stretch that lie between samples k and l, and the area under the link i to j over these
abbrev ticks_between : List ℕ → ℕ → ℕ → ℕ → ℕ → ℕ → ℕ
ticks_between ts a b d k l = clipped (d * tick ts k) (d * tick ts l) b - clipped (d * tick ts k) (d * tick ts l) a

abbrev area_between : List ℕ → List ℤ → ℕ → ℕ → ℕ → ℕ → ℕ → ℕ → ℕ → Fraction
area_between ts vs a b d i j k l = area_under ts vs i j (clipped (d * tick ts k) (d * tick ts l) a) (clipped (d * tick ts k) (d * tick ts l) b) d

none_more : (p t r : ℕ) → p * (t - t) + r ≡ r
none_more p t r = let none : t - t ≡ 0 = omega arith in rw none (omega arith)

product_parts : (p u v r : ℕ) → p * (u + v) + r ≡ p * u + (p * v + r)
product_parts p u v r = omega arith

halved : (p w q d : ℕ) → (p + p) * w * (q * d) ≤ p * w * (q * (2 * d))
halved p w q d = omega arith

module _ {ts : List ℕ} (rising : Rising ts) (vs : List ℤ) (c : Criterion) (up_some : 1 ≤ c.up.q) (down_some : 1 ≤ c.down.q) (a b d : ℕ) (some : 1 ≤ d) (ab : a ≤ b) where
  in_order : {k l : ℕ} → k ≤ l → l < length ts → d * tick ts k ≤ d * tick ts l
  in_order kl inside = mul-le-mul_left d (not_earlier rising kl inside)

  ticks_parts : (k l m : ℕ) → k ≤ l → l ≤ m → m < length ts → ticks_between ts a b d k m ≡ ticks_between ts a b d k l + ticks_between ts a b d l m
  ticks_parts k l m kl lm inside =
      let u = in_order kl (omega arith) in
      let v = in_order lm inside in
      omega (arith, clipped_sum _ _ _ a u v, clipped_sum _ _ _ b u v, clipped_order (d * tick ts k) (d * tick ts l) ab, clipped_order (d * tick ts l) (d * tick ts m) ab)

  module _ {i j : ℕ} (forward : i < j) (inside : j < length ts) (v : AllWithin ts vs c i j) where
    step_near : (k : ℕ) → i ≤ k → suc k ≤ j → Near (multiple c.down (ticks_between ts a b d k (suc k)) d) (multiple c.up (ticks_between ts a b d k (suc k)) d)
        (area_between ts vs a b d i j k (suc k)) (area_between ts vs a b d k (suc k) k (suc k))
    unfolding area_under
    step_near k ik kj =
        let rises = in_order {k = k} {l = suc k} (omega arith) (omega arith) in
        let at : (n : ℕ) → Near c.down c.up (link_at ts vs i j (clipped (d * tick ts k) (d * tick ts (suc k)) n) d) (link_at ts vs k (suc k) (clipped (d * tick ts k) (d * tick ts (suc k)) n) d)
        = λ n. link_near rising vs c inside v _ d k some ik kj (clipped_inside _ _ n rises).0 (clipped_inside _ _ n rises).1 in
        near_wider (mul-pos down_some (omega arith)) (mul-pos up_some (omega arith)) (halved c.down.p _ c.down.q d) (halved c.up.p _ c.up.q d)
        (near_multiplied (ticks_between ts a b d k (suc k)) (2 * d) (omega arith) (near_summed (at a) (at b)))

    -- the link from sample k on, and what follows it, beside the steps from k on
    steps_near : (n r s : ℕ) (rest : Fraction) → Near (over r (c.down.q * d)) (over s (c.up.q * d)) rest (area_from ts vs j (samples_after j n) a b d)
        → (m k : ℕ) → k + m ≡ j → i ≤ k
        → Near (over (c.down.p * ticks_between ts a b d k j + r) (c.down.q * d)) (over (c.up.p * ticks_between ts a b d k j + s) (c.up.q * d))
        (summed (area_between ts vs a b d i j k j) rest) (area_from ts vs k (samples_after k (m + n)) a b d)
    unfolding area_from samples_after
    steps_near n r s rest h zero k e ik =
        let ek : k ≡ j = omega arith in
        let t = d * tick ts j in
        let ea : clipped t t a ≡ t = omega (arith, clipped_inside t t a (omega arith)) in
        let eb : clipped t t b ≡ t = omega (arith, clipped_inside t t b (omega arith)) in
        rw (ek, zero-add n, ea, eb, none_more c.down.p t r, none_more c.up.p t s)
        (near_same (near_sym (same_none _ rest (under_positive ts vs i j d some (later rising j forward inside) t t) h.large.left (under_none ts vs i j d some (later rising j forward inside) t))) h)
    steps_near n r s rest h (suc m) k e ik =
        let es : suc m + n ≡ suc (m + n) = omega arith in
        let ep : (p r : ℕ) → p * ticks_between ts a b d k j + r ≡ p * ticks_between ts a b d k (suc k) + (p * ticks_between ts a b d (suc k) j + r)
        = λ p r. rw (ticks_parts k (suc k) j (omega arith) (omega arith) inside) (product_parts p _ _ r) in
        rw (es, ep c.down.p r, ep c.up.p s)
        (near_same (near_left rest h.large.left (clipped_parts ts vs i j d some (later rising j forward inside) _ (d * tick ts (suc k)) _ a b (in_order ik (omega arith)) (in_order (omega arith) (omega arith)) (in_order (omega arith) inside) (omega arith) ab))
        (rw summed_assoc (near_summed (step_near k ik (omega arith)) (steps_near n r s rest h m (suc k) (omega arith) (omega arith)))))

  -- ---- a list beside the steps of the trace

  from_near : (s : List ℕ) (i : ℕ) → LinksFrom ◌<◌ i s → LinksFrom (λ i j. valid ts vs c i j ≡ true) i s → final i s < length ts → (n : ℕ) → i + n ≡ final i s
      → Near (multiple c.down (ticks_between ts a b d i (final i s)) d) (multiple c.up (ticks_between ts a b d i (final i s)) d)
      (area_from ts vs i s a b d) (area_from ts vs i (samples_after i n) a b d)
  unfolding area_from samples_after
  from_near [] i r v inside n e =
      let en : n ≡ 0 = omega arith in
      rw en (near_refl _ _ _ (omega arith))
  from_near (j ∷ s) i r v inside n e =
      let js = rise_le j s r.1 in
      let en : n ≡ (j - i) + (final j s - j) = omega arith in
      let ep : (p : ℕ) → p * ticks_between ts a b d i (final j s) ≡ p * ticks_between ts a b d i j + p * ticks_between ts a b d j (final j s)
      = λ p. rw (ticks_parts i j (final j s) (omega (arith, r.0)) (omega arith) inside) (mul-add p _ _) in
      rw (en, ep c.down.p, ep c.up.p)
      (steps_near {i = i} {j = j} r.0 (omega arith) (true_valid ts vs c i j v.0).within (final j s - j) _ _ _ (from_near s j r.1 v.1 inside (final j s - j) (omega arith)) (j - i) i (omega (arith, r.0)) (omega arith))

-- the areas of a kept list within U above and D below are at most D times the ticks too large and at most U times the ticks too small
pub area_near : {ts : List ℕ} {vs : List ℤ} (c : Criterion) {l : List ℕ} → 1 ≤ c.up.q → 1 ≤ c.down.q → Trace ts vs → KeptList (length ts - 1) l → AllValid (valid ts vs c) l
    → (a b d : ℕ) → OnTrace ts a d → OnTrace ts b d → a ≤ b
    → Near (multiple c.down (b - a) d) (multiple c.up (b - a) d) (area_of ts vs l a b d) (area_of ts vs (all_of ts) a b d)
area_near c {l = []} up_some down_some t k v a b d oa ob ab = absurd k.spans
area_near {ts} {vs} c {l = i ∷ s} up_some down_some t k v a b d oa ob ab =
    let wa = clipped_whole _ _ a oa.from oa.to in
    let wb = clipped_whole _ _ b ob.from ob.to in
    rw k.spans.0
    (rw (k.spans.1, k.spans.0, wa, wb) at
    (from_near t.rising vs c up_some down_some a b d oa.positive ab s i k.rises v (omega (arith, k.spans.1, t.some)) (length ts - 1) (omega (arith, k.spans))))

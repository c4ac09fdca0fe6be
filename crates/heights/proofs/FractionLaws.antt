-- Fractions of which one is at most p/q above another: their sums, their multiples, and what lies between. Each law is shown of one side, over
-- differences of naturals (trace: proofs/Difference), and holds of both.
-- Assumes nothing.
use mathlib.Core.Path.{◌≡◌, refl, sym}
use mathlib.Core.Logic.{◌↔◌}
use Prim.Native.Nat.{ℕ, ◌+◌, ◌*◌, ◌≤◌, ◌<◌}
use native.Mathlib.Nat.{zero-add, add-zero, add_comm, mul_comm, mul_assoc, mul-le-mul_right, le_of_mul-le-mul_right, mul-pos}
use native.Mathlib.Omega.{arith}
use lib.IntN.{ℤ, pos, ◌+ℤ◌, ◌-ℤ◌, ◌*ℤ◌, +ℤ_comm}
use lib.Signed.{◌≤ℤ◌}
use Rattle.ratio.specs.declared.Ratio.{Ratio}
use Rattle.ratio.specs.Order.{over, plus as total, AtMost}
use Rattle.trace.proofs.Difference.{Diff, negated, plus, times, less, parts, same, natural, alike, at_most, size_at_most, wider}
use Rattle.heights.specs.Heights.{Fraction, Excess, Near, Apart, Equals, Between}
use Rattle.heights.specs.Windows.{whole, summed, multiplied, opposite, multiple}
use Rattle.heights.proofs.Order.{order}

-- ---- over levels

-- (a - b)/e is at most p above (m - n)/f
abbrev pub Over : ℕ → ℕ → ℕ → ℕ → ℕ → ℕ → ℕ → Type 0
Over a b e m n f p = a * f + n * e ≤ b * f + m * e + p * (e * f)

-- with (r - s)/g added to either
over_left : (a b e m n f r s g p : ℕ) → Over a b e m n f p → Over (a * g + r * e) (b * g + s * e) (e * g) (m * g + r * f) (n * g + s * f) (f * g) p
over_left a b e m n f r s g p k = omega (arith, mul-le-mul_right (g * g) k)

over_trans : (a b e m n f r s g o p : ℕ) → 0 < f → Over a b e m n f o → Over m n f r s g p → Over a b e r s g (o + p)
over_trans a b e m n f r s g o p some k l = le_of_mul-le-mul_right {k = f} (omega (arith, mul-le-mul_right g k, mul-le-mul_right e l)) some

over_multiplied : (a b e m n f p u v : ℕ) → Over a b e m n f p → Over (a * u * v) (b * u * v) (e * v) (m * u * v) (n * u * v) (f * v) (p * u)
over_multiplied a b e m n f p u v k = omega (arith, mul-le-mul_right (u * (v * v)) k)

-- numerators times q
sum_by : (a g r e q : ℕ) → (a * g + r * e) * q ≡ a * q * g + r * q * e
sum_by a g r e q = omega arith

product_by : (a u q v : ℕ) → a * u * (q * v) ≡ a * q * u * v
product_by a u q v = omega arith

-- ---- sums

pub summed_comm : (x y : Fraction) → summed x y ≡ summed y x
unfolding summed
summed_comm x y = rw (+ℤ_comm (x.num *ℤ pos y.den) (y.num *ℤ pos x.den), mul_comm x.den y.den)

pub summed_assoc : (x y z : Fraction) → summed (summed x y) z ≡ summed x (summed y z)
unfolding summed
summed_assoc x y z =
    let dx = (parts x.num).2 in
    let dy = (parts y.num).2 in
    let dz = (parts z.num).2 in
    let num = alike (plus (times (plus (times dx y.den) (times dy x.den)) z.den) (times dz (x.den * y.den)))
    (plus (times dx (y.den * z.den)) (times (plus (times dy z.den) (times dz y.den)) x.den)) (omega arith) in
    rw (num, mul_assoc x.den y.den z.den)

pub summed_swap : (w x y z : Fraction) → summed (summed w x) (summed y z) ≡ summed (summed w y) (summed x z)
summed_swap w x y z = rw (summed_assoc w x (summed y z), ← (summed_assoc x y z), summed_comm x y, summed_assoc y x z, ← (summed_assoc w y (summed x z)))

pub equals_summed : {x y : Fraction} {v w : ℤ} → Equals x v → Equals y w → Equals (summed x y) (v +ℤ w)
unfolding summed
equals_summed {x} {y} {v} {w} h k =
    let dv = (parts v).2 in
    let dw = (parts w).2 in
    record {
      positive = mul-pos h.positive k.positive;
      is = rw (h.is, k.is) (alike (plus (times (times dv x.den) y.den) (times (times dw y.den) x.den)) (times (plus dv dw) (x.den * y.den)) (omega arith));
    }

-- ---- at most p/q above

module _ {c : Ratio} {x y : Fraction} {a b m n : ℕ} (dx : Diff x.num a b) (dy : Diff y.num m n) where
  pub excess_over : Excess c x y → Over (a * c.q) (b * c.q) x.den (m * c.q) (n * c.q) y.den c.p
  excess_over h = omega (arith, (at_most (times (less (times dx y.den) (times dy x.den)) c.q) (c.p * (x.den * y.den))).0 h.above)

  pub over_excess : 1 ≤ x.den → 1 ≤ y.den → Over (a * c.q) (b * c.q) x.den (m * c.q) (n * c.q) y.den c.p → Excess c x y
  over_excess ex ey h = record {
    left = ex;
    right = ey;
    above = (at_most (times (less (times dx y.den) (times dy x.den)) c.q) (c.p * (x.den * y.den))).1 (omega arith);
  }

excess_wider : {c d : Ratio} {x y : Fraction} → 1 ≤ c.q → AtMost c d → Excess c x y → Excess d x y
excess_wider {c} {d} {x} {y} some e h = record {
  left = h.left;
  right = h.right;
  above = wider (x.num *ℤ pos y.den -ℤ y.num *ℤ pos x.den) c.q (c.p * (x.den * y.den)) d.q (d.p * (x.den * y.den)) some
      (omega (arith, mul-le-mul_right (x.den * y.den) e)) h.above;
}

excess_multiplied : {c : Ratio} {x y : Fraction} (m n : ℕ) → 1 ≤ n → Excess c x y → Excess (multiple c m n) (multiplied x m n) (multiplied y m n)
unfolding multiplied
excess_multiplied {c} {x} {y} m n some h =
    let dx = (parts x.num).2 in
    let dy = (parts y.num).2 in
    over_excess (times dx m) (times dy m) (mul-pos h.left some) (mul-pos h.right some)
    (rw (product_by (parts x.num).0 m c.q n, product_by (parts x.num).1 m c.q n, product_by (parts y.num).0 m c.q n, product_by (parts y.num).1 m c.q n)
    (over_multiplied _ _ _ _ _ _ c.p m n (excess_over dx dy h)))

excess_left : {c : Ratio} {x y : Fraction} (z : Fraction) → 1 ≤ z.den → Excess c x y → Excess c (summed x z) (summed y z)
unfolding summed
excess_left {c} {x} {y} z some h =
    let dx = parts x.num in
    let dy = parts y.num in
    let dz = parts z.num in
    over_excess (plus (times dx.2 z.den) (times dz.2 x.den)) (plus (times dy.2 z.den) (times dz.2 y.den)) (mul-pos h.left some) (mul-pos h.right some)
    (rw (sum_by dx.0 z.den dz.0 x.den c.q, sum_by dx.1 z.den dz.1 x.den c.q, sum_by dy.0 z.den dz.0 y.den c.q, sum_by dy.1 z.den dz.1 y.den c.q)
    (over_left _ _ _ _ _ _ _ _ _ c.p (excess_over dx.2 dy.2 h)))

excess_right : {c : Ratio} {x y : Fraction} (z : Fraction) → 1 ≤ z.den → Excess c x y → Excess c (summed z x) (summed z y)
excess_right {x = x} {y} z some h = rw (summed_comm z x, summed_comm z y) (excess_left z some h)

-- over one denominator
module _ {o p q : ℕ} where
  excess_trans : {x y z : Fraction} → Excess (over o q) x y → Excess (over p q) y z → Excess (over (o + p) q) x z
  excess_trans {x} {y} {z} h k =
      let dx = (parts x.num).2 in
      let dy = (parts y.num).2 in
      let dz = (parts z.num).2 in
      over_excess dx dz h.left k.right (over_trans _ _ _ _ _ _ _ _ _ o p h.right (excess_over dx dy h) (excess_over dy dz k))

  excess_summed : {x y z w : Fraction} → Excess (over o q) x y → Excess (over p q) z w → Excess (over (o + p) q) (summed x z) (summed y w)
  excess_summed {y = y} {z} h k = excess_trans (excess_left z k.left h) (excess_right y h.right k)

-- over any two
module _ {a b : Ratio} (some : 1 ≤ a.q) (more : 1 ≤ b.q) where
  plus_trans : {x y z : Fraction} → Excess a x y → Excess b y z → Excess (total a b) x z
  plus_trans h k = excess_trans {o = a.p * b.q} {p = b.p * a.q} {q = a.q * b.q} (excess_wider some (omega arith) h) (excess_wider more (omega arith) k)

  pub plus_summed : {x y z w : Fraction} → Excess a x y → Excess b z w → Excess (total a b) (summed x z) (summed y w)
  plus_summed {y = y} {z} h k = plus_trans (excess_left z k.left h) (excess_right y h.right k)

-- 2p/q is p/q + p/q
pub twice : (r : Ratio) {x y : Fraction} → 1 ≤ r.q → Excess (total r r) x y → Excess (multiple r 2 1) x y
twice r some h = excess_wider (mul-pos some some) (omega arith) h

pub excess_opposite : {c : Ratio} {x y : Fraction} → Excess c y x → Excess c (opposite x) (opposite y)
excess_opposite {x = x} {y} h =
    let dx = (parts x.num).2 in
    let dy = (parts y.num).2 in
    over_excess (negated dx) (negated dy) h.right h.left (omega (arith, excess_over dy dx h))

pub excess_whole : {c : Ratio} (v w : ℤ) → ((v -ℤ w) *ℤ pos c.q) ≤ℤ pos c.p ↔ Excess c (whole v) (whole w)
excess_whole {c} v w =
    let dv = (parts v).2 in
    let dw = (parts w).2 in
    let e = at_most (times (less dv dw) c.q) c.p in
    (λ h. over_excess dv dw (omega arith) (omega arith) (omega (arith, e.0 h)), λ h. e.1 (omega (arith, excess_over dv dw h)))

-- ---- not above: at most 0 above

abbrev pub none : Ratio
none = over 0 1

module _ {c : Ratio} {x y z : Fraction} where
  pub none_left : Excess none x y → Excess c y z → Excess c x z
  none_left h k = rw (zero-add c.p) at (excess_trans {o = 0} {p = c.p} {q = c.q} (excess_wider (omega arith) (omega arith) h) k)

  pub none_right : Excess c x y → Excess none y z → Excess c x z
  none_right h k = rw (add-zero c.p) at (excess_trans {o = c.p} {p = 0} {q = c.q} h (excess_wider (omega arith) (omega arith) k))

-- a sum of which one part is not too large
pub none_summed : {c : Ratio} {x y z w : Fraction} → Excess none x y → Excess c z w → Excess c (summed x z) (summed y w)
none_summed {y = y} {z} h k = none_left (excess_left z k.left h) (excess_right y h.right k)

excess_equal : {c : Ratio} {x y : Fraction} → 1 ≤ x.den → 1 ≤ y.den → x.num *ℤ pos y.den ≡ y.num *ℤ pos x.den → Excess c x y
excess_equal {c} {x} {y} ex ey e =
    let d = (parts (y.num *ℤ pos x.den)).2 in
    record { left = ex; right = ey; above = rw e ((at_most (times (same (less d d) 0 0 (omega arith)) c.q) _).1 (omega arith)) }

pub order_excess : {v w : ℤ} → v ≤ℤ w → Excess none (whole v) (whole w)
order_excess {v} {w} h =
    let dv = (parts v).2 in
    let dw = (parts w).2 in
    over_excess dv dw (omega arith) (omega arith) (omega (arith, (order dv dw).0 h))

pub equals_excess : {x : Fraction} {v : ℤ} → Equals x v → Excess none (whole v) x × Excess none x (whole v)
equals_excess {x} {v} h =
    let dv = (parts v).2 in
    let is : x.num *ℤ pos 1 ≡ v *ℤ pos x.den = rw h.is (alike (times (times dv x.den) 1) (times dv x.den) (omega arith)) in
    (excess_equal (omega arith) h.positive (sym is), excess_equal h.positive (omega arith) is)

pub between_excess : {low high : ℤ} {x : Fraction} → Between low high x → Excess none (whole low) x × Excess none x (whole high)
between_excess {low} {high} {x} h =
    let dl = (parts low).2 in
    let dh = (parts high).2 in
    let dx = (parts x.num).2 in (
      over_excess dl dx (omega arith) h.positive (omega (arith, (order (times dl x.den) dx).0 h.from)),
      over_excess dx dh h.positive (omega arith) (omega (arith, (order dx (times dh x.den)).0 h.to)),
    )

-- ---- near: each side by itself

near_equal : {a b : Ratio} {x y : Fraction} → 1 ≤ x.den → 1 ≤ y.den → x.num *ℤ pos y.den ≡ y.num *ℤ pos x.den → Near a b x y
near_equal ex ey e = record { large = excess_equal ex ey e; small = excess_equal ey ex (sym e) }

pub near_refl : (a b : Ratio) (x : Fraction) → 1 ≤ x.den → Near a b x x
near_refl a b x e = near_equal e e refl

pub near_sym : {a b : Ratio} {x y : Fraction} → Near a b x y → Near b a y x
near_sym h = record { large = h.small; small = h.large }

pub near_opposite : {a b : Ratio} {x y : Fraction} → Near a b x y → Near b a (opposite x) (opposite y)
near_opposite h = record { large = excess_opposite h.small; small = excess_opposite h.large }

pub near_wider : {a b c d : Ratio} {x y : Fraction} → 1 ≤ a.q → 1 ≤ b.q → AtMost a c → AtMost b d → Near a b x y → Near c d x y
near_wider some more e f h = record { large = excess_wider some e h.large; small = excess_wider more f h.small }

pub near_multiplied : {a b : Ratio} {x y : Fraction} (m n : ℕ) → 1 ≤ n → Near a b x y → Near (multiple a m n) (multiple b m n) (multiplied x m n) (multiplied y m n)
near_multiplied m n some h = record { large = excess_multiplied m n some h.large; small = excess_multiplied m n some h.small }

module _ {o p q r s t : ℕ} where
  pub near_summed : {x y z w : Fraction} → Near (over o q) (over r t) x y → Near (over p q) (over s t) z w → Near (over (o + p) q) (over (r + s) t) (summed x z) (summed y w)
  near_summed h k = record { large = excess_summed h.large k.large; small = excess_summed h.small k.small }

pub near_left : {a b : Ratio} {x y : Fraction} (z : Fraction) → 1 ≤ z.den → Near a b x y → Near a b (summed x z) (summed y z)
near_left z some h = record { large = excess_left z some h.large; small = excess_left z some h.small }

-- x stands for y and y for z: each side adds up
module _ {a b c d : Ratio} (ha : 1 ≤ a.q) (hb : 1 ≤ b.q) (hc : 1 ≤ c.q) (hd : 1 ≤ d.q) where
  pub near_trans : {x y z : Fraction} → Near a b x y → Near c d y z → Near (total c a) (total d b) x z
  near_trans h k = record {
    large = rw (mul_comm c.q a.q, add_comm (c.p * a.q) (a.p * c.q)) (plus_trans ha hc h.large k.large);
    small = plus_trans hd hb k.small h.small;
  }

-- p/q on either side is a distance of at most p/q
pub near_apart : {r : Ratio} {x y : Fraction} → Near r r x y ↔ Apart r x y
near_apart {r} {x} {y} =
    let dx = (parts x.num).2 in
    let dy = (parts y.num).2 in
    let e = size_at_most (less (times dx y.den) (times dy x.den)) r.q (r.p * (x.den * y.den)) in (
      λ h. record {
        left = h.large.left;
        right = h.large.right;
        apart = e.1 (omega (arith, excess_over dx dy h.large), omega (arith, excess_over dy dx h.small));
      },
      λ h. record {
        large = over_excess dx dy h.left h.right (omega (arith, (e.0 h.apart).0));
        small = over_excess dy dx h.right h.left (omega (arith, (e.0 h.apart).1));
      },
    )

-- ---- the same fraction: near at 0

abbrev pub Same : Fraction → Fraction → Type 0
Same = Near none none

pub near_same : {a b : Ratio} {x y z : Fraction} → Same x y → Near a b y z → Near a b x z
near_same h k = record { large = none_left h.large k.large; small = none_right k.small h.small }

pub same_sum : (m n : ℤ) (e : ℕ) → 1 ≤ e → Same (record { num = m +ℤ n; den = e }) (summed (record { num = m; den = e }) (record { num = n; den = e }))
unfolding summed
same_sum m n e some =
    let dm = (parts m).2 in
    let dn = (parts n).2 in
    near_equal some (mul-pos some some) (alike (times (plus dm dn) (e * e)) (times (plus (times dm e) (times dn e)) e) (omega arith))

-- nothing added
pub same_none : (x y : Fraction) → 1 ≤ x.den → 1 ≤ y.den → x.num ≡ pos 0 → Same y (summed x y)
unfolding summed
same_none x y ex ey zero =
    let dy = (parts y.num).2 in
    near_equal ey (mul-pos ex ey) (rw zero (alike (times dy (x.den * y.den)) (times (plus (times (natural 0) y.den) (times dy x.den)) y.den) (omega arith)))

-- What a tolerance means is allowed and in lowest terms, part by part. Assumes nothing.
use Rattle.std.proofs.Common.{◌≡◌, ℕ, ◌*◌, ◌/◌, ◌<◌, ◌≤◌, Bool, true, false, ◌&&◌, T, leb, sym, subst, le_trans, mul-le-mul_right, mul-le-mul, mul-pos, div-le_self, le_of_mul-le-mul_right, arith, lit<, lit≤, leb→le, Some}
use lib.Ieee.Fits.{and_l, and_r}
use lib.Ieee.Positive.{num, den, den_pos}
use Rattle.ratio.specs.Gcd.{gcd, lowest}
use Rattle.ratio.proofs.Laws.{lowest_same, lowest_pos, lowest_equal, lowest_coprime}
use Rattle.tolerance.specs.declared.Parts.{Parts}
use Rattle.tolerance.specs.declared.Tolerance.{Tolerance}
use Rattle.tolerance.specs.declared.Tolerance.TheVariants.{Ratio, Counts, Noise, Parts as Each}
use Rattle.tolerance.specs.Meaning.{meaning, alike, held, held_each, allowed_ratio, Held, HeldParts, in_steps}
use Rattle.tolerance.proofs.Values.{product, in_steps_lem}

lowest_held : (a b : ℕ) → 0 < b → b ≤ 1048575 → a ≤ 65535 * b → Held (lowest a b)
lowest_held a b B Q P =
    let r = lowest a b in
    record {
      positive = lowest_pos a b B;
      q_bound = le_trans (div-le_self b (gcd a b)) Q;
      p_bound = le_of_mul-le-mul_right (omega (arith, lowest_equal a b, mul-le-mul_right r.q P)) B;
      coprime = lowest_coprime a b B;
    }

-- ---- a fraction that is allowed as a ratio

module _ (p q : ℕ) (t : T (allowed_ratio p q)) where
  positive : 0 < q
  positive = leb→le 1 q (and_l (leb 1 q) (leb q 1048575) (and_l (leb 1 q && leb q 1048575) (leb p (65535 * q)) t))

  allowed_held : Held (lowest p q)
  allowed_held =
      let f = and_l (leb 1 q && leb q 1048575) (leb p (65535 * q)) t in
      lowest_held p q positive (leb→le q 1048575 (and_r (leb 1 q) (leb q 1048575) f)) (leb→le p (65535 * q) (and_r (leb 1 q && leb q 1048575) (leb p (65535 * q)) t))

pub allowed_pos : (p q : ℕ) → allowed_ratio p q ≡ true → 0 < q
allowed_pos p q e = positive p q (subst T (sym e) tt)

-- ---- what a tolerance means

picks : (b : Bool) (a e : ℕ) (x : Parts) → (T b → Held (lowest a e)) → held b a e ≡ Some x → HeldParts x
picks true a e x h q = let s : alike (lowest a e) ≡ x = cc in subst HeldParts s (record { up = h tt; down = h tt })
picks false a e x h q = let z : ◌≡◌ {A = ℕ} 0 1 = cc in absurd (omega arith)

picks_each : (b : Bool) (y x : Parts) → (T b → Held (lowest y.up.p y.up.q) × Held (lowest y.down.p y.down.q)) → held_each b y ≡ Some x → HeldParts x
picks_each true y x h q =
    let s : record { up = lowest y.up.p y.up.q; down = lowest y.down.p y.down.q } ≡ x = cc in
    subst HeldParts s (record { up = (h tt).0; down = (h tt).1 })
picks_each false y x h q = let z : ◌≡◌ {A = ℕ} 0 1 = cc in absurd (omega arith)

-- from any fraction c / d that it equals
same_held : (a b c d : ℕ) → 0 < b → 0 < d → c * b ≡ a * d → d ≤ 1048575 → c ≤ 65535 * d → Held (lowest a b)
same_held a b c d B D e Q P = subst Held (lowest_same c d a b D B e) (lowest_held c d D Q P)

pub exact_held : (t : Tolerance) (x : Parts) → meaning t ≡ Some x → HeldParts x
exact_held (Ratio p q) r e = picks (allowed_ratio p q) p q r (allowed_held p q) e
exact_held (Counts x) r e =
    picks (in_steps 64 65535 x) (num x) (den x) r (λ t.
    let i = in_steps_lem x 64 65535 t in
    same_held (num x) (den x) (64 * num x / den x) 64 (den_pos x) (lit< tt) (sym i.0.1) (lit≤ tt) i.1) e
exact_held (Noise n) r e =
    let x = n.noise in
    let y = n.multiple in
    picks (in_steps 64 1023 x && in_steps 8 63 y) (num x * num y) (den x * den y) r (λ t.
    let i = in_steps_lem x 64 1023 (and_l (in_steps 64 1023 x) (in_steps 8 63 y) t) in
    let j = in_steps_lem y 8 63 (and_r (in_steps 64 1023 x) (in_steps 8 63 y) t) in
    let a = 64 * num x / den x in
    let b = 8 * num y / den y in
    same_held (num x * num y) (den x * den y) (a * b) 512 (mul-pos (den_pos x) (den_pos y)) (lit< tt)
    (sym (product (num x) (den x) (num y) (den y) a 64 b 8 (a * b) 512 (lit< tt) (lit< tt) i.0.1 j.0.1 (omega arith))) (lit≤ tt) (omega (arith, mul-le-mul i.1 j.1))) e
exact_held (Each y) x e =
    let A = allowed_ratio y.up.p y.up.q in
    let B = allowed_ratio y.down.p y.down.q in
    picks_each (A && B) y x (λ t. (allowed_held y.up.p y.up.q (and_l A B t), allowed_held y.down.p y.down.q (and_r A B t))) e

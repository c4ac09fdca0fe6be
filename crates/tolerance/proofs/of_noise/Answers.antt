-- `tolerance::of_noise` meets its contract. The noise is a / 64 and the multiple b / 8, so their product is a b / 512, which is a float, and 512 times it is a b. Assumes nothing.
use Rattle.std.proofs.Common.{◌≡◌, ℕ, ◌*◌, ◌≤◌, sym, refl, ap, ◌∙◌, mul-le-mul, mul-pos, arith, lit<, lit≤, Some}
use lib.Ieee.{Float, binary64, mul, of_bits}
use lib.Ieee.Positive.{num, den, den_pos}
use Rattle.ratio.specs.Gcd.{lowest}
use Rattle.ratio.proofs.Laws.{lowest_same}
use Rattle.tolerance.specs.Meaning.{alike}
use Rattle.tolerance.proofs.Values.{Is, product, mul_is, above, below, whole_part, read_whole}
use Rattle.tolerance.proofs.of_noise.Goals as goal

-- 512.0, by its bits as MIR has it
abbrev scale : Float
scale = of_bits binary64 4647714815446351872

module _ (x y : Float) (a b : ℕ) (hx : Is x a 64) (lx : a ≤ 1023 * 64) (hy : Is y b 8) (ly : b ≤ 63 * 8) where
  few : a * b ≤ 1023 * 64 * (63 * 8)
  few = mul-le-mul lx ly

  -- the one product loses nothing
  times : Is (mul binary64 x y) (a * b) 512
  times = mul_is x y a 64 b 8 (a * b) 9 (lit< tt) (lit< tt) hx hy (omega arith) (omega (arith, few)) (lit≤ tt)

  -- nor does the number of 512ths
  number : Is (mul binary64 (mul binary64 x y) scale) (a * b) 1
  unfolding of_bits
  number = mul_is (mul binary64 x y) scale (a * b) 512 512 1 (a * b) 0 (lit< tt) (lit< tt) times (tt, refl) (omega arith) (omega (arith, few)) (lit≤ tt)

  same : a * b * (den x * den y) ≡ num x * num y * 512
  same = sym (product (num x) (den x) (num y) (den y) a 64 b 8 (a * b) 512 (lit< tt) (lit< tt) hx.1 hy.1 (omega arith))

pub take_steps-requires-clause-by_index : goal.take_steps-requires-clause-by_index
take_steps-requires-clause-by_index c = (6, refl, lit≤ tt)

pub take_steps-requires-2-clause-by_index : goal.take_steps-requires-2-clause-by_index
take_steps-requires-2-clause-by_index c = (3, refl, lit≤ tt)

pub truncating_f64_to_u64-n-requires : goal.truncating_f64_to_u64-n-requires
truncating_f64_to_u64-n-requires c =
    let x = c.args.r.noise in
    let y = c.args.r.multiple in
    let hx = read_whole x 64 1023 _ (sym c.in_ok-take_steps.ensures) in
    let hy = read_whole y 8 63 _ (sym c.in_ok-take_steps-2.ensures) in
    let is = number x y _ _ hx.1 hx.2 hy.1 hy.2 in
    record { lower_bound = above _ _ is; upper_bound = below _ _ (omega (arith, few x y _ _ hx.1 hx.2 hy.1 hy.2)) is }

pub returns : goal.returns
returns c =
    let x = c.args.r.noise in
    let y = c.args.r.multiple in
    let hx = read_whole x 64 1023 _ (sym c.in_ok-take_steps.ensures) in
    let hy = read_whole y 8 63 _ (sym c.in_ok-take_steps-2.ensures) in
    let e = c.truncating_f64_to_u64-n.ensures ∙ whole_part _ _ (omega (arith, few x y _ _ hx.1 hx.2 hy.1 hy.2)) (number x y _ _ hx.1 hx.2 hy.1 hy.2) in
    simp (hx.0, hy.0)
    (ap Some (c.alike.ensures ∙ ap alike (c.reduce.ensures ∙ ap (λ (z : ℕ). lowest z 512) e ∙ lowest_same _ 512 (num x * num y) (den x * den y) (lit< tt) (mul-pos (den_pos x) (den_pos y)) (same x y _ _ hx.1 hx.2 hy.1 hy.2))))

-- `tolerance::take_steps` meets its contract. Where x is n / k, the product with k is n, its whole part is n, and n / k is x again. The other way, what equals n / k is n / k.
-- Assumes nothing.
use Rattle.std.proofs.Common.{◌≡◌, ℕ, true, false, ◌*◌, ◌^◌, ◌<◌, ◌≤◌, T, pos, sym, ◌∙◌, subst, mul-le-mul, arith, le→leb, pow_pos, pow_mono}
use lib.Ieee.{Float, fin, binary64, mul, div, of_int, in_float, of_bits, neg, eq, lt, to_unsigned}
use Rattle.tolerance.proofs.Values.{Is, of_int_lem, mul_is, div_is, eq_is, is_eq, above, below, whole_part, steps_whole, steps_other}
use Rattle.tolerance.proofs.take_steps.Goals.{else-y-via-then-y+else-y-2, else-y-via-else-y, else-n-most-via-then-n-most+else-n-scale, else-n-most-via-else-n-most}
use Rattle.tolerance.proofs.take_steps.Goals as goal

abbrev float : ℕ → Float
float n = of_int binary64 (pos n)

module _ (k most : ℕ) (two : (j : ℕ) × (k ≡ 2 ^ j) × (j ≤ 9)) (bound : most ≤ 65535) where
  k_pos : 0 < k
  k_pos = rw two.1 (pow_pos two.0)

  k_le : k ≤ 512
  k_le = rw two.1 (pow_mono {i = two.0} {j = 9} two.2)

  most_le : most * k ≤ 65535 * 512
  most_le = mul-le-mul bound k_le

  small : (n : ℕ) → n ≤ most * k → n < 2 ^ 53
  small n l = omega (arith, most_le)

  scaled : (x : Float) (n : ℕ) → Is x n k → n ≤ most * k → Is (mul binary64 x (float k)) n 1
  scaled x n h l = mul_is x (float k) n k k 1 n 0 k_pos (omega arith) h (of_int_lem k (omega (arith, k_le))) (omega arith) (small n l) (omega arith)

  back : (n : ℕ) → n ≤ most * k → Is (div binary64 (float n) (float k)) n k
  back n l =
      subst (λ (z : ℕ). Is (div binary64 (float n) (float k)) n z) (sym two.1)
      (div_is (float n) (float k) n 1 k 1 n two.0 (omega arith) k_pos (omega arith) (of_int_lem n (small n l)) (of_int_lem k (omega (arith, k_le))) (rw two.1 (omega arith)) (small n l) (omega (arith, two.2)))

  -- an x of n steps passes the tests of its product with k, whose whole part is n, and n / k is x
  below_one : (x : Float) (n : ℕ) → Is x n k → n ≤ most * k → T (lt (fin true 1 (pos 0)) (mul binary64 x (float k)))
  below_one x n h l = above _ n (scaled x n h l)

  in_words : (x : Float) (n : ℕ) → Is x n k → n ≤ most * k → T (lt (mul binary64 x (float k)) (fin false 1 (pos 64)))
  in_words x n h l = below _ n (omega (arith, most_le)) (scaled x n h l)

  part : (x : Float) (n : ℕ) → Is x n k → n ≤ most * k → to_unsigned 64 (mul binary64 x (float k)) ≡ n
  part x n h l = whole_part (mul binary64 x (float k)) n (omega (arith, most_le)) (scaled x n h l)

  again : (x : Float) (n : ℕ) → Is x n k → n ≤ most * k → T (eq (div binary64 (float n) (float k)) x)
  again x n h l = is_eq (div binary64 (float n) (float k)) x n k k_pos (back n l) h

in_float_lem : (n : ℕ) → n ≤ 2 ^ 53 → T (in_float binary64 (pos n))
unfolding in_float
in_float_lem n h = le→leb n (2 ^ 53) h

pub int_to_float-scale : goal.int_to_float-scale
int_to_float-scale c =
    in_float_lem c.args.k (omega (arith, k_le c.args.k c.args.most c.requires.by_index c.requires.most_bound))

pub truncating_f64_to_u64-n-requires : goal.truncating_f64_to_u64-n-requires
unfolding of_bits neg
truncating_f64_to_u64-n-requires c = record { lower_bound = subst T (sym c.if-y.true) tt; upper_bound = subst T (sym c.if-y-2.true) tt }

pub overflow_mul-most : goal.overflow_mul-most
overflow_mul-most c =
    record { fits = omega (arith, most_le c.args.k c.args.most c.requires.by_index c.requires.most_bound) }

pub int_to_float-n : goal.int_to_float-n
int_to_float-n c =
    in_float_lem c.truncating_f64_to_u64-n.result (omega (arith, most_le c.args.k c.args.most c.requires.by_index c.requires.most_bound))

pub returns-then-n-scale : goal.returns-then-n-scale
returns-then-n-scale c =
    let k = c.args.k in
    let most = c.args.most in
    let n = c.truncating_f64_to_u64-n.result in
    let l : n ≤ most * k = c.if-n-most.true in
    let h = eq_is (div binary64 (float n) (float k)) c.args.x n k (back k most c.requires.by_index c.requires.most_bound n l) (subst T (sym c.if-n-scale.true) tt) in
    sym (steps_whole c.args.x k most n (k_pos k most c.requires.by_index c.requires.most_bound) h l)

pub returns-else-n-most : goal.returns-else-n-most
returns-else-n-most c =
    let x = c.args.x in
    let k = c.args.k in
    let most = c.args.most in
    let r = c.requires in
    let e = c.truncating_f64_to_u64-n.ensures in
    sym (steps_other x k most (λ n h l. elim c.else-n-most.branch [
      | else-n-most-via-then-n-most+else-n-scale w ↦
          subst T w.if-n-scale.false (rw (e, part k most r.by_index r.most_bound x n h l) (again k most r.by_index r.most_bound x n h l))
      | else-n-most-via-else-n-most w ↦ omega (arith, w.if-n-most.false, e ∙ part k most r.by_index r.most_bound x n h l)
    ]))

pub returns-else-y : goal.returns-else-y
unfolding of_bits neg
returns-else-y c =
    let x = c.args.x in
    let k = c.args.k in
    let most = c.args.most in
    let r = c.requires in
    sym (steps_other x k most (λ n h l. elim c.else-y.branch [
      | else-y-via-then-y+else-y-2 w ↦ subst T w.if-y-2.false (in_words k most r.by_index r.most_bound x n h l)
      | else-y-via-else-y w ↦ subst T w.if-y.false (below_one k most r.by_index r.most_bound x n h l)
    ]))

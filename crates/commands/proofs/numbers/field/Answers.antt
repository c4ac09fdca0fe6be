-- `commands::numbers::field` meets its contract. The loop's invariant: the number so far, gone on with the bytes left, is the field's; and it is below 256 for each byte read.
-- Assumes nothing.
use Rattle.std.proofs.Common.{◌≡◌, ◌+◌, ◌-◌, ◌*◌, ◌^◌, ◌≤◌, ◌<◌, ℕ, List, length, take, drop, drop_of_length-le, get_or, arith, sym, ◌∙◌}
use Rattle.std.proofs.Math.Nat.{pow-le-pow_right}
use Rattle.std.proofs.lemmas.List.{length-take, length-drop}
use lib.Seq.{drop-cons}
use native.Mathlib.Numerals.{add-one}
use native.Mathlib.Nat.{pow-suc}
use Rattle.format.specs.Number.{number_from}
use Rattle.commands.proofs.numbers.field.Goals as goal

part_length : (s : List ℕ) (i k : ℕ) → i + k ≤ length s → length (take (i + k - i) (drop i s)) ≡ k
part_length s i k h = simp (length-take, length-drop) (omega arith)

goes_on : (xs : List ℕ) (n j : ℕ) → j < length xs → number_from (n * 256 + get_or xs j 0) (drop (j + 1) xs) ≡ number_from n (drop j xs)
unfolding number_from
goes_on xs n j h = rw (add-one, drop-cons xs j 0)

ends : (xs : List ℕ) (n j : ℕ) → length xs ≤ j → number_from n (drop j xs) ≡ n
unfolding number_from
ends xs n j h = rw drop_of_length-le

-- before the last of five bytes the number has at most four
small : (n j k : ℕ) → n < 256 ^ j → j < k → k ≤ 5 → n < 256 ^ 4
small n j k below more few = omega (arith, pow-le-pow_right {n = 256} (omega arith) {i = j} {j = 4} (omega arith))

pub overflow_mul-n : goal.overflow_mul-n
overflow_mul-n c =
    omega (arith, part_length c.args.s.now c.args.i c.args.k, small c.loop-byte.n c.loop-byte.byte-index c.args.k c.loop-byte.invariant.below (omega (arith, part_length c.args.s.now c.args.i c.args.k)) (omega arith))

pub overflow_add-n : goal.overflow_add-n
overflow_add-n c =
    omega (arith, small c.loop-byte.n c.loop-byte.byte-index c.args.k c.loop-byte.invariant.below (omega (arith, part_length c.args.s.now c.args.i c.args.k)) (omega arith))

pub loop-byte-preserved : goal.loop-byte-preserved
loop-byte-preserved c = record {
  number = rw c.from.ensures (goes_on _ _ _ c.loop-byte-test.true) ∙ c.loop-byte.invariant.number;
  below = rw (add-one, pow-suc) (omega arith);
}

pub returns : goal.returns
returns c =
    let n : length (take (c.args.i + c.args.k - c.args.i) (drop c.args.i c.args.s.now)) ≡ c.args.k = part_length c.args.s.now c.args.i c.args.k (omega arith) in
    let e : c.loop-byte.byte-index ≡ c.args.k = omega arith in
    (sym (ends _ _ _ c.loop-byte-test.false) ∙ c.loop-byte.invariant.number, rw e at c.loop-byte.invariant.below)

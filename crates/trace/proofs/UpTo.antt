-- The trace up to sample m: its links are valid exactly if they are in the whole trace, and have the same errors.
-- Assumes nothing.
use mathlib.Core.Path.{◌≡◌, ap}
use mathlib.Core.Bool.{not}
use mathlib.Core.List.{List}
use Prim.Native.Nat.{ℕ, suc, ◌-◌, ◌≤◌, ◌<◌}
use native.Mathlib.Omega.{arith}
use lib.IntN.{ℤ, pos, nat_abs}
use lib.ListN.{take}
use lib.Seq.{get_or-take}
use Rattle.trace.specs.declared.Criterion.{Criterion}
use Rattle.trace.specs.Trace.{tick, value}
use Rattle.trace.specs.Link.{deviation, above, below, within, all_within, hole, obeys, valid, farthest, link_error}
use Rattle.trace.proofs.Between.{all_from_same}
use Rattle.trace.proofs.Errors.{greatest_same}

module _ (ts : List ℕ) (vs : List ℤ) (m : ℕ) where
  tick_same : (k : ℕ) → k ≤ m → tick (take (suc m) ts) k ≡ tick ts k
  tick_same k h = get_or-take (suc m) ts k 0 (omega arith)

  value_same : (k : ℕ) → k ≤ m → value (take (suc m) vs) k ≡ value vs k
  value_same k h = get_or-take (suc m) vs k (pos 0) (omega arith)

  deviation_same : (i j k : ℕ) → i ≤ m → j ≤ m → k ≤ m → deviation (take (suc m) ts) (take (suc m) vs) i j k ≡ deviation ts vs i j k
  unfolding deviation
  deviation_same i j k hi hj hk = rw (tick_same i hi, tick_same j hj, tick_same k hk, value_same i hi, value_same j hj, value_same k hk)

  pub error_up_to : (i j : ℕ) → i < j → j ≤ m → link_error (take (suc m) ts) (take (suc m) vs) i j ≡ link_error ts vs i j
  unfolding link_error farthest
  error_up_to i j lt le = rw (
    tick_same i (omega arith),
    tick_same j le,
    greatest_same (λ k. nat_abs (deviation (take (suc m) ts) (take (suc m) vs) i j k)) (λ k. nat_abs (deviation ts vs i j k)) (j - suc i) (suc i) (λ k l u. ap nat_abs (deviation_same i j k (omega arith) le (omega arith))),
  )

module _ (ts : List ℕ) (vs : List ℤ) (c : Criterion) (m : ℕ) where
  within_same : (i j k : ℕ) → i ≤ m → j ≤ m → k ≤ m → within (take (suc m) ts) (take (suc m) vs) c i j k ≡ within ts vs c i j k
  unfolding within above below
  within_same i j k hi hj hk = rw (tick_same ts vs m i hi, tick_same ts vs m j hj, deviation_same ts vs m i j k hi hj hk)

  hole_same : (k : ℕ) → suc k ≤ m → hole (take (suc m) ts) c.gap k ≡ hole ts c.gap k
  unfolding hole
  hole_same k h = rw (tick_same ts vs m (suc k) h, tick_same ts vs m k (omega arith))

  obeys_same : (i j : ℕ) → i < j → j ≤ m → obeys (take (suc m) ts) c.gap i j ≡ obeys ts c.gap i j
  unfolding obeys
  obeys_same i j lt le = rw (all_from_same (λ k. not (hole (take (suc m) ts) c.gap k)) (λ k. not (hole ts c.gap k)) (j - i) i (λ x l u. ap not (hole_same x (omega arith))))

  pub valid_up_to : (i j : ℕ) → i < j → j ≤ m → valid (take (suc m) ts) (take (suc m) vs) c i j ≡ valid ts vs c i j
  unfolding valid all_within
  valid_up_to i j lt le =
      rw (obeys_same i j lt le, all_from_same (within (take (suc m) ts) (take (suc m) vs) c i j) (within ts vs c i j) (j - suc i) (suc i) (λ x l u. within_same i j x (omega arith) le (omega arith)))

-- The order of integers, by differences of naturals (trace: proofs/Difference).
-- Assumes nothing.
use mathlib.Core.Path.{◌≡◌}
use mathlib.Core.Bool.{false}
use mathlib.Core.Logic.{◌↔◌}
use Prim.Native.Nat.{ℕ, ◌+◌, ◌≤◌}
use native.Mathlib.Omega.{arith}
use native.Mathlib.Decide.{dec_le}
use lib.Dec.{leb→le, le→leb}
use lib.IntN.{ℤ}
use lib.Signed.{◌≤ℤ◌, le_z}
use Rattle.lists.proofs.Tests.{by_test, is_true, true_is, true_false}
use Rattle.trace.proofs.Difference.{Diff, ordered, parts}
use Rattle.heights.specs.Heights.{higher, lower}

pub order : {x y : ℤ} {a b c d : ℕ} → Diff x a b → Diff y c d → x ≤ℤ y ↔ a + d ≤ c + b
order {a = a} {b} {c} {d} h k = (λ l. leb→le (a + d) (c + b) (rw (ordered h k) at l.le), λ l. record { le = rw (ordered h k) (le→leb (a + d) (c + b) l) })

pub order_refl : (x : ℤ) → x ≤ℤ x
order_refl x = let d = (parts x).2 in (order d d).1 (omega arith)

pub order_trans : (x y z : ℤ) → x ≤ℤ y → y ≤ℤ z → x ≤ℤ z
order_trans x y z h k =
    let dx = (parts x).2 in
    let dy = (parts y).2 in
    let dz = (parts z).2 in
    (order dx dz).1 (omega (arith, (order dx dy).0 h, (order dy dz).0 k))

-- of two values one is the higher and the other the lower
pub either_order : (x y : ℤ) → le_z x y ≡ false → y ≤ℤ x
either_order x y e =
    let dx = (parts x).2 in
    let dy = (parts y).2 in
    elim (dec_le ((parts y).0 + (parts x).1) ((parts x).0 + (parts y).1)) [
      | yes h ↦ (order dy dx).1 h
      | no h ↦ true_false (true_is _ ((order dx dy).1 (omega arith)).le) e
    ]

module _ (x y : ℤ) where
  pub higher_left : x ≤ℤ higher x y
  higher_left = by_test (le_z x y) (λ e. rw e (record { le = is_true e })) (λ e. rw e (order_refl x))

  pub higher_right : y ≤ℤ higher x y
  higher_right = by_test (le_z x y) (λ e. rw e (order_refl y)) (λ e. rw e (either_order x y e))

  pub lower_left : lower x y ≤ℤ x
  lower_left = by_test (le_z x y) (λ e. rw e (order_refl x)) (λ e. rw e (either_order x y e))

  pub lower_right : lower x y ≤ℤ y
  lower_right = by_test (le_z x y) (λ e. rw e (record { le = is_true e })) (λ e. rw e (order_refl y))

pub higher_one : (P : ℤ → Type 0) (x y : ℤ) → P x → P y → P (higher x y)
higher_one P x y h k = by_test (le_z x y) (λ e. rw e k) (λ e. rw e h)

pub lower_one : (P : ℤ → Type 0) (x y : ℤ) → P x → P y → P (lower x y)
lower_one P x y h k = by_test (le_z x y) (λ e. rw e h) (λ e. rw e k)

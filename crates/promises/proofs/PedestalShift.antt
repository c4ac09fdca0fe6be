-- A constant added to every value of two runs changes no verdict on a channel.
--   moved_shift, noisy_shift   the two tests
-- Each integer is taken as a difference of two naturals. Assumes nothing.
use mathlib.Core.Path.{◌≡◌, sym, ◌∙◌, ap, subst}
use mathlib.Core.List.{List, [], ◌∷◌}
use Prim.Native.Nat.{ℕ, suc, ◌+◌, ◌*◌}
use native.Mathlib.Omega.{arith}
use lib.IntN.{ℤ, pos, negsuc, ◌+ℤ◌, nat_abs}
use lib.ListN.{length, length-map}
use Rattle.ratio.specs.declared.Ratio.{Ratio}
use Rattle.trace.proofs.Difference.{Diff, same, plus, less, alike}
use Rattle.verdicts.specs.Sums.{total, spread, moved, noisy}
use Rattle.verdicts.proofs.SumLaws.{size_squares, root_total, spread_natural}
use Rattle.promises.specs.Pedestals.{added_to}

-- an integer is its upper part minus its lower part
abbrev up : ℤ → ℕ
up (pos n) = n
up (negsuc n) = 0

abbrev down : ℤ → ℕ
down (pos n) = 0
down (negsuc n) = suc n

parted : (x : ℤ) → Diff x (up x) (down x)
parted (pos n) = omega arith
parted (negsuc n) = omega arith

-- (a - b)² + 2 a b = a² + b²
square_parts : {x : ℤ} {a b : ℕ} → Diff x a b → nat_abs x * nat_abs x + 2 * (a * b) ≡ a * a + b * b
square_parts {x = pos n} {a} {b} h = subst (λ (z : ℕ). n * n + 2 * (z * b) ≡ z * z + b * b) h.diff (omega arith)
square_parts {x = negsuc n} {a} {b} h = subst (λ (z : ℕ). suc n * suc n + 2 * (a * z) ≡ a * a + z * z) h.diff (omega arith)

ups : List ℤ → ℕ
ups [] = 0
ups (v ∷ vs) = up v + ups vs

downs : List ℤ → ℕ
downs [] = 0
downs (v ∷ vs) = down v + downs vs

total_parts : (vs : List ℤ) → Diff (total vs) (ups vs) (downs vs)
unfolding ups downs
total_parts [] = omega arith
total_parts (v ∷ vs) = plus (parted v) (total_parts vs)

module _ (d : ℤ) where
  total_raised : (vs : List ℤ) → Diff (total (added_to d vs)) (ups vs + length vs * up d) (downs vs + length vs * down d)
  unfolding ups downs
  total_raised [] = omega arith
  total_raised (v ∷ vs) = same (plus (plus (parted v) (parted d)) (total_raised vs)) _ _ (omega arith)

  one_raised : (v : ℤ) → nat_abs (v +ℤ d) * nat_abs (v +ℤ d) + 2 * (up v * down d + down v * up d) ≡ nat_abs v * nat_abs v + nat_abs d * nat_abs d + 2 * (up v * up d + down v * down d)
  one_raised v = omega (arith, square_parts (plus (parted v) (parted d)), square_parts (parted v), square_parts (parted d))

  squares_raised : (vs : List ℤ) → size_squares (added_to d vs) + 2 * (ups vs * down d + downs vs * up d) ≡ size_squares vs + length vs * (nat_abs d * nat_abs d) + 2 * (ups vs * up d + downs vs * down d)
  unfolding size_squares ups downs
  squares_raised [] = omega arith
  squares_raised (v ∷ vs) = omega (arith, one_raised v, squares_raised vs)

  -- n Q' - S'² = n Q - S², with each square moved to the other side
  spreads : (vs : List ℤ) → length vs * size_squares (added_to d vs) + nat_abs (total vs) * nat_abs (total vs) ≡ length vs * size_squares vs + nat_abs (total (added_to d vs)) * nat_abs (total (added_to d vs))
  spreads vs =
      balance (size_squares (added_to d vs)) (size_squares vs) (nat_abs d * nat_abs d) (nat_abs (total vs) * nat_abs (total vs)) (nat_abs (total (added_to d vs)) * nat_abs (total (added_to d vs))) (length vs) (ups vs) (downs vs) (up d) (down d) (squares_raised vs) (square_parts (parted d)) (square_parts (total_parts vs)) (square_parts (total_raised vs))
    where
      balance : (q' q e s s' n u w g f : ℕ)
          → q' + 2 * (u * f + w * g) ≡ q + n * e + 2 * (u * g + w * f)
          → e + 2 * (g * f) ≡ g * g + f * f
          → s + 2 * (u * w) ≡ u * u + w * w
          → s' + 2 * ((u + n * g) * (w + n * f)) ≡ (u + n * g) * (u + n * g) + (w + n * f) * (w + n * f)
          → n * q' + s ≡ n * q + s'
      balance q' q e s s' n u w g f a b c h = omega (arith, ap (λ (z : ℕ). n * z) a, ap (λ (z : ℕ). n * n * z) b, c, h)

  spread_shift : (vs : List ℤ) → spread (added_to d vs) ≡ spread vs
  spread_shift vs =
      spread_natural (added_to d vs) ∙ ap pos (rw (length-map vs (λ v. v +ℤ d)) (omega (arith, spreads vs, root_total vs))) ∙ sym (spread_natural vs)

  pub noisy_shift : (k : ℕ) (vs ws : List ℤ) → noisy k (added_to d vs) (added_to d ws) ≡ noisy k vs ws
  unfolding noisy
  noisy_shift k vs ws = rw (spread_shift vs, spread_shift ws)

  pub moved_shift : (r : Ratio) (vs ws : List ℤ) → length ws ≡ length vs → moved r (added_to d vs) (added_to d ws) ≡ moved r vs ws
  unfolding moved
  moved_shift r vs ws e =
      let f = rw e at (total_raised ws) in
      let same-change = alike (less (total_raised vs) f) (less (total_parts vs) (total_parts ws)) (omega arith) in
      rw (length-map vs (λ v. v +ℤ d), same-change)

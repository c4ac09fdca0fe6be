-- Laws of the sums of values: sizes without signs, that n Q - S² is not negative, a run compared with itself, the sums of a list from its
-- front, and the two tests from the sums as they are computed.
-- Assumes nothing.
use mathlib.Core.Path.{◌≡◌, refl, ◌∙◌, ap, subst}
use mathlib.Core.Bool.{Bool, false}
use mathlib.Core.List.{List, [], ◌∷◌}
use Prim.Native.Nat.{ℕ, ◌+◌, ◌-◌, ◌*◌, ◌/◌, ◌%◌, ◌≤◌, ◌<◌}
use native.Mathlib.Nat.{mul-le-mul, mul-le-mul_right, div-add-mod'}
use native.Mathlib.Omega.{arith}
use lib.Dec.{ltb}
use lib.IntN.{ℤ, pos, negsuc, ◌+ℤ◌, ◌-ℤ◌, ◌*ℤ◌, nat_abs, +ℤ_invr, pos-+ℤ-pos, pos-*ℤ-pos, negsuc-*ℤ-negsuc}
use lib.ListN.{length, drop, get_or, drop_of_length-le}
use lib.Signed.{nat_abs-le}
use borrow.Author.Tests.{ltb-true, ltb-false, le-ltb}
use mir.Syntax.{w16}
use Rattle.std.specs.Prelude.{FitsSigned}
use Rattle.std.proofs.lemmas.Int.{ints}
use Rattle.std.proofs.lemmas.List.{drop_more}
use Rattle.lists.proofs.Tests.{by_test}
use Rattle.ratio.specs.declared.Ratio.{Ratio}
use Rattle.verdicts.specs.declared.sums.Sums.{Sums}
use Rattle.verdicts.specs.Sums.{total, squares, spread, moved, noisy, Summed, spread_in, Judged}

-- ---- sizes

pub squared : (x : ℤ) → x *ℤ x ≡ pos (nat_abs x * nat_abs x)
squared (pos m) = pos-*ℤ-pos m m
squared (negsuc m) = negsuc-*ℤ-negsuc m m

-- ---- n Q is at least S²

-- the sum of the sizes, and of their squares
sizes : List ℤ → ℕ
sizes [] = 0
sizes (v ∷ vs) = nat_abs v + sizes vs

unfoldable pub size_squares : List ℤ → ℕ
size_squares [] = 0
size_squares (v ∷ vs) = nat_abs v * nat_abs v + size_squares vs

abs_total : (vs : List ℤ) → nat_abs (total vs) ≤ sizes vs
unfolding sizes
abs_total [] = omega arith
abs_total (v ∷ vs) = omega (arith, ints, abs_total vs)

squares_sizes : (vs : List ℤ) → squares vs ≡ pos (size_squares vs)
unfolding size_squares
squares_sizes [] = refl
squares_sizes (v ∷ vs) = rw (squared v, squares_sizes vs) (pos-+ℤ-pos (nat_abs v * nat_abs v) (size_squares vs))

from : (x d : ℕ) → 2 * (x * (x + d)) ≤ x * x + (x + d) * (x + d)
from x d = omega arith

between : (x y : ℕ) → 2 * (x * y) ≤ x * x + y * y
between x y = by_test (ltb x y)
    (λ t. let lt = ltb-true x y t in subst (λ (z : ℕ). 2 * (x * z) ≤ x * x + z * z) {x = x + (y - x)} (omega arith) (from x (y - x)))
    (λ t. let le = ltb-false x y t in subst (λ (z : ℕ). 2 * (z * y) ≤ z * z + y * y) {x = y + (x - y)} (omega arith) (omega (arith, from y (x - y))))

with_one : (x : ℕ) (vs : List ℤ) → 2 * (x * sizes vs) ≤ length vs * (x * x) + size_squares vs
unfolding sizes size_squares
with_one x [] = omega arith
with_one x (v ∷ vs) = omega (arith, with_one x vs, between x (nat_abs v))

root : (vs : List ℤ) → sizes vs * sizes vs ≤ length vs * size_squares vs
unfolding sizes size_squares
root [] = omega arith
root (v ∷ vs) = omega (arith, root vs, with_one (nat_abs v) vs)

pub root_total : (vs : List ℤ) → nat_abs (total vs) * nat_abs (total vs) ≤ length vs * size_squares vs
root_total vs = omega (arith, mul-le-mul (abs_total vs) (abs_total vs), root vs)

pub spread_natural : (vs : List ℤ) → spread vs ≡ pos (length vs * size_squares vs - nat_abs (total vs) * nat_abs (total vs))
unfolding spread
spread_natural vs =
    let r = root_total vs in
    rw (squares_sizes vs, squared (total vs), pos-*ℤ-pos (length vs) (size_squares vs)) (omega (arith, ints))

-- ---- a run compared with itself

pub moved_itself : (r : Ratio) (vs : List ℤ) → moved r vs vs ≡ false
unfolding moved
moved_itself r vs = rw (+ℤ_invr (total vs)) (le-ltb (r.p * length vs) (0 * r.q) (omega arith))

pub noisy_itself : (k : ℕ) (vs : List ℤ) → 1 ≤ k → noisy k vs vs ≡ false
unfolding noisy
noisy_itself k vs some =
    let x = length vs * size_squares vs - nat_abs (total vs) * nat_abs (total vs) in
    rw (spread_natural vs) (le-ltb (k * k * x) x (omega (arith, mul-le-mul_right x (mul-le-mul some some))))

-- ---- the sums of the values before i, with the squares in two halves of 16 bits, each added up by itself
pub record Halved (vs : List ℤ) (s : ℤ) (low high i : ℕ) : Type 0 where
  pub upto : i ≤ length vs
  pub sum : s +ℤ total (drop i vs) ≡ total vs
  pub squares : pos (low + 65536 * high) +ℤ squares (drop i vs) ≡ squares vs
  pub sum_bound : nat_abs s ≤ 32768 * i
  pub squares_bound : low + 65536 * high ≤ 1073741824 * i
  pub low_bound : low ≤ 65535 * i
  pub high_bound : high ≤ 16384 * i

module _ {vs : List ℤ} {s : ℤ} {low high i : ℕ} (h : Halved vs s low high i) (lt : i < length vs) where
  pub halved_more : {z : ℤ} {w : ℕ} → FitsSigned w16 (get_or vs i (pos 0)) → z ≡ s +ℤ get_or vs i (pos 0) → w ≡ nat_abs (get_or vs i (pos 0)) * nat_abs (get_or vs i (pos 0)) → w ≤ 1073741824
      → Halved vs z (low + w % 65536) (high + w / 65536) (i + 1)
  halved_more {z} {w} short e f le =
      let v = get_or vs i (pos 0) in
      let d = drop_more vs i (pos 0) lt in
      let t = ap total d in
      let q = ap squares d in
      let x = squared v in
      let m = div-add-mod' w 65536 in
      record {
        upto = omega arith;
        sum = omega (arith, ints);
        squares = omega (arith, ints);
        sum_bound = omega (arith, ints, nat_abs-le v short.sfits);
        squares_bound = omega arith;
        low_bound = omega arith;
        high_bound = omega arith;
      }

pub halved_root : {vs : List ℤ} {s : ℤ} {low high i : ℕ} → Halved vs s low high i → length vs ≤ i → nat_abs s * nat_abs s ≤ length vs * (low + 65536 * high)
halved_root {vs} {s} {low} {high} {i} h ge =
    let d = drop_of_length-le vs {i = i} ge in
    let t = ap total d in
    let q = ap squares d in
    let e : s ≡ total vs = omega (arith, ints) in
    let f : low + 65536 * high ≡ size_squares vs = omega (arith, ints, squares_sizes vs) in
    rw (e, f) (root_total vs)

-- ---- the tests, from the sums
spread_is : {vs : List ℤ} {x : Sums} → Summed vs x → spread vs ≡ pos (spread_in x)
spread_is {vs} {x} h =
    let e : x.squares ≡ size_squares vs = cc (squares_sizes vs) in
    spread_natural vs ∙ rw (e, h.count, h.sum)

module _ {vs ws : List ℤ} {x y : Sums} (h : Summed vs x) (g : Summed ws y) (same : length ws ≡ length vs) where
  pub judged : {r : Ratio} {k : ℕ} {m s : Bool} → m ≡ ltb (r.p * x.count) (nat_abs (x.sum -ℤ y.sum) * r.q) → s ≡ ltb (k * k * spread_in y) (spread_in x) → Judged vs ws r k (record { moved = m; noisy = s })
  unfolding moved noisy
  judged {r} {k} e f = record { moved = e ∙ rw (h.count, h.sum, g.sum); noisy = f ∙ rw (spread_is h, spread_is g) }

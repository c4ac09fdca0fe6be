-- Sums of 16-bit values that are in range, as they are computed in 16 bits.
-- Assumes nothing.
use mathlib.Core.Path.{◌≡◌, ◌∙◌}
use mathlib.Core.Bool.{false}
use Prim.Native.Nat.{◌<◌}
use native.Mathlib.Omega.{arith}
use lib.IntN.{ℤ, pos, negsuc, ◌+ℤ◌}
use lib.Signed.{mag, lt_z}
use borrow.Author.Tests.{ltb-false}
use mir.Syntax.{w16}
use mir.Val.{SFits, to_z, of_z}
use mir.Facts.{to_z-of_z}
use Rattle.lists.proofs.Tests.{or_false}
use Rattle.summed.specs.Sum.{outside}

-- a sum in range has 16 bits
inside_short : (z : ℤ) → outside z ≡ false → mag z < 32768
inside_short (pos n) e = omega (arith, ltb-false 32767 n (or_false (lt_z (pos n) (negsuc 32767)) _ e).1)
inside_short (negsuc n) e = omega (arith, ltb-false 32767 n (or_false (lt_z (negsuc n) (negsuc 32767)) _ e).0)

module _ {v w : ℤ} (h : SFits w16 v) (k : SFits w16 w) (inside : outside (v +ℤ w) ≡ false) where
  short_of : to_z w16 (of_z w16 v) +ℤ to_z w16 (of_z w16 w) ≡ v +ℤ w
  short_of = rw (to_z-of_z h, to_z-of_z k)

  pub short_fits : SFits w16 (to_z w16 (of_z w16 v) +ℤ to_z w16 (of_z w16 w))
  short_fits = rw short_of (record { sfits = inside_short (v +ℤ w) inside })

  pub short_is : to_z w16 (of_z w16 (to_z w16 (of_z w16 v) +ℤ to_z w16 (of_z w16 w))) ≡ v +ℤ w
  short_is = to_z-of_z {w = w16} short_fits ∙ short_of

-- Which tolerances are allowed, and the two fractions in lowest terms that each means (document 01, "Tolerances"; document 02, "Above
-- and below"): the part for samples above the line, and the part for those below.
--   alike           one fraction for both parts
--   agree           the parts are equal, as numbers p and q: those of held parts are in lowest terms
--   not_negative    a float is a number, and not below zero
--   in_steps        a float is from 0 to most, and k times it is whole
--   allowed_ratio   a fraction is allowed as a ratio
--   held            a fraction in lowest terms for both parts where a tolerance is allowed, or that it is not
--   held_each       each part in lowest terms where both are allowed, or that they are not
--   meaning         the held parts of a tolerance, or that it is not allowed
--   Held            a ratio as a tolerance is held: allowed, and in lowest terms
--   HeldParts       both parts are
--   pick_steps      a number of steps where a float is in steps, or that it is not
--   steps_of        the whole number of steps of a float
-- A finite float x is the fraction num x / den x, with a sign. Laws are in Values, Meanings and Agreement. Assumes nothing.
use Rattle.std.specs.Prelude.{◌≡◌, ℕ, ◌*◌, ◌/◌, ◌%◌, ◌<◌, ◌≤◌, Bool, true, false, not, ◌&&◌, ◌||◌, ◌==◌, nat_le, Float, None, Option, Some}
use Rattle.std.specs.Float.{nan, inf, fin}
use Rattle.std.specs.Float.Ieee.Positive.{num, den}
use Rattle.ratio.specs.Gcd.{gcd, lowest}
use Rattle.ratio.specs.declared.Ratio as R
use Rattle.tolerance.specs.declared.Parts as P
use Rattle.tolerance.specs.declared.Tolerance.{Tolerance}
use Rattle.tolerance.specs.declared.Tolerance.TheVariants.{Ratio, Counts, Noise, Parts}

-- one tolerance means both parts
abbrev pub alike : R.Ratio → P.Parts
alike r = record { up = r; down = r }

unfoldable pub agree : P.Parts → Bool
agree x = x.up.p == x.down.p && x.up.q == x.down.q

-- a number, and not below zero: minus zero is zero
abbrev pub not_negative : Float → Bool
not_negative nan = false
not_negative (inf s) = false
not_negative (fin s m e) = not s || m == 0

-- x is from 0 to most, and k times x is whole
unfoldable pub in_steps : ℕ → ℕ → Float → Bool
in_steps k most x = not_negative x && nat_le (num x) (most * den x) && k * num x % den x == 0

-- p / q is allowed as a ratio
abbrev pub allowed_ratio : ℕ → ℕ → Bool
allowed_ratio p q = nat_le 1 q && nat_le q 1048575 && nat_le p (65535 * q)

-- a / b in lowest terms where the tolerance is allowed
abbrev pub held : Bool → ℕ → ℕ → Option P.Parts
held true a b = Some (alike (lowest a b))
held false a b = None

-- each part in lowest terms where both are allowed
abbrev pub held_each : Bool → P.Parts → Option P.Parts
held_each true x = Some (record { up = lowest x.up.p x.up.q; down = lowest x.down.p x.down.q })
held_each false x = None

-- what a tolerance means
abbrev pub meaning : Tolerance → Option P.Parts
meaning (Ratio p q) = held (allowed_ratio p q) p q
meaning (Counts x) = held (in_steps 64 65535 x) (num x) (den x)
meaning (Noise r) =
    held (in_steps 64 1023 r.noise && in_steps 8 63 r.multiple) (num r.noise * num r.multiple) (den r.noise * den r.multiple)
meaning (Parts x) = held_each (allowed_ratio x.up.p x.up.q && allowed_ratio x.down.p x.down.q) x

-- a fraction as a tolerance is held: allowed, and in lowest terms
pub record Held (r : R.Ratio) : Type 0 where
  pub positive : 0 < r.q
  pub q_bound : r.q ≤ 1048575
  pub p_bound : r.p ≤ 65535 * r.q
  pub coprime : gcd r.p r.q ≡ 1

pub record HeldParts (x : P.Parts) : Type 0 where
  pub up : Held x.up
  pub down : Held x.down

-- the whole number k x, where x is from 0 to most and k x is whole
abbrev pub pick_steps : Bool → ℕ → Option ℕ
pick_steps true n = Some n
pick_steps false n = None

abbrev pub steps_of : Float → ℕ → ℕ → Option ℕ
steps_of x k most = pick_steps (in_steps k most x) (k * num x / den x)

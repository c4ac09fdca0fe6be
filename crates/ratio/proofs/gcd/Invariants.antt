-- `ratio::gcd` meets its contract: at each turn the greatest common divisor of a and b is that of those passed, and b falls. Assumes nothing.
use mathlib.Core.Path.{◌≡◌}
use Rattle.ratio.specs.Gcd.{gcd}
use Rattle.ratio.proofs.gcd.Given as goal

abbrev pub invariant-loop-b : goal.invariant-loop-b
invariant-loop-b l = gcd l.a l.b ≡ gcd l.fn.a l.fn.b

abbrev pub decreases-loop-b : goal.decreases-loop-b
decreases-loop-b l = l.b

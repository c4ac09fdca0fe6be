-- `pedestals::checks::hold_one` meets its contract. Assumes nothing.
use native.Mathlib.Omega.{arith}
use mathlib.Core.Path.{refl}
use Rattle.pedestals.proofs.checks.hold_one.Goals as goal

pub returns : goal.returns
returns c = (grind arith, grind arith, (c.in_ok-x.ensures.held c.in_ok-x.x refl).up)

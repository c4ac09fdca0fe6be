-- `ratio::gcd` meets its contract: at each turn the greatest common divisor of a and b is that of those passed, and b falls. Assumes nothing.
use Rattle.std.proofs.Common.{sym, ◌∙◌, arith}
use Rattle.ratio.proofs.Laws.{gcd_zero, gcd_step}
use Rattle.ratio.proofs.gcd.Goals as goal

pub loop-b-preserved : goal.loop-b-preserved
loop-b-preserved c = sym (gcd_step _ _ (omega arith)) ∙ c.loop-b.invariant

pub returns : goal.returns
returns c = let e = c.loop-b.invariant in rw (c.loop-b-test.false, gcd_zero) at e

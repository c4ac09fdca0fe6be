-- `trace::cones::in_parts_of` meets its contract. Assumes nothing.
use Rattle.std.proofs.Common.{arith}
use Rattle.std.proofs.Math.Nat.{mul-le-mul_right}
use Rattle.trace.proofs.Products.{rounded_up}
use Rattle.trace.proofs.cones.in_parts_of.Goals as goal

pub returns : goal.returns
returns c =
    let b = c.requires.0 in
    rw c.div_ceil.ensures (rounded_up _ _ b.positive (omega (arith, mul-le-mul_right c.args.q b.p_bound)))

-- `turns::bounds::lowers` meets its contract. Assumes nothing.
use Prim.Native.Nat.{◌*◌}
use native.Mathlib.Omega.{arith}
use mir.Syntax.{w64}
use mir.ValLaws.{to_z_pos, to_z-of_z}
use Rattle.turns.proofs.SampleLaws.{product_bound, lowers_is}
use Rattle.turns.proofs.bounds.lowers.Goals as goal

pub returns : goal.returns
returns c =
    let a = c.args in
    let x = c.margin in
    rw (to_z_pos w64 (a.p * a.high.run) (omega (arith, product_bound c.requires.0 c.requires.1)), to_z-of_z w64 x.result (record { sfits = x.type_inv }), x.ensures)
    (lowers_is a.high a.to a.p)

-- `codes::value` meets its contract. Assumes nothing.
use Prim.Native.Nat.{◌<◌}
use native.Mathlib.Omega.{arith}
use Rattle.codes.proofs.CodeLaws.{code_shift, code_small}
use Rattle.std.proofs.lemmas.Int.{ints}
use Rattle.codes.proofs.value.Goals as goal

pub returns : goal.returns
returns c =
    let byte : c.from-code.result < 256 = omega arith in
    let worked_out = code_shift c.from-code.result byte in
    let small = code_small c.from-code.result byte in
    rw (← c.from-code.ensures) (rw worked_out (grind (arith, ints)))

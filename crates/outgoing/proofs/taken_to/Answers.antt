-- `outgoing::taken_to` meets its contract. The loop's invariant: every sample before k has been taken in. Assumes nothing.
use mathlib.Core.Path.{◌≡◌}
use native.Mathlib.Omega.{arith}
use Rattle.outgoing.proofs.taken_to.Goals as goal

pub returns : goal.returns
returns c =
    let e : c.loop-k.k ≡ c.args.b = omega (arith, c.loop-k.auto.k-end c.requires.1) in
    rw e at c.loop-k.invariant

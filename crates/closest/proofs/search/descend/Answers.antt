-- `closest::search::descend` meets its contract: the loop has an error that is reached, and goes on at a lesser one. Assumes nothing.
use native.Mathlib.Omega.{arith}
use Rattle.closest.proofs.ClosestLaws.{ended_zero, ended_below, goes_down}
use Rattle.closest.proofs.search.descend.Goals as goal

pub returns-in-None : goal.returns-in-None
returns-in-None c =
    let r = c.loop-near.invariant.1 in
    record { is = ended_below c.requires.0 r c.before-in-loop-near.ensures c.in-None.ensures; allowed = r.allowed }

pub loop-near-smaller : goal.loop-near-smaller
loop-near-smaller c =
    let f = c.in-Some.ensures in
    goes_down c.loop-near.invariant.1.allowed c.before-in-loop-near.ensures f.1 f.0.allowed c.halve-near.ensures

pub returns : goal.returns
returns c =
    let r = c.loop-near.invariant.1 in
    record { is = ended_zero c.requires.0 r (omega (arith, c.loop-near-test.false)); allowed = r.allowed }

-- `ratio::farey::neighbours` meets its contract: the loop has a bracket of p/q, and each step adds to its denominators. Assumes nothing.
use Rattle.ratio.proofs.FareyLaws.{surrounds}
use Rattle.ratio.proofs.farey.neighbours.Goals as goal

pub returns : goal.returns
returns c = surrounds c.loop-w.invariant c.loop-w-test.false

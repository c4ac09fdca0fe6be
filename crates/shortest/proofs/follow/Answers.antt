-- `shortest::follow` meets its contract: each turn writes one stop more, and the stops from i on complete the list. Assumes nothing.
use mathlib.Core.Path.{refl}
use native.Mathlib.Omega.{arith}
use lib.ListN.{length-set}
use Rattle.kept.proofs.Filling.{filling_none, filling_more, filling_ends}
use Rattle.shortest.proofs.follow.Goals as goal

pub loop-i-init : goal.loop-i-init
loop-i-init c = filling_none _ _ c.args.out.now refl c.requires.1

pub loop-i-smaller : goal.loop-i-smaller
loop-i-smaller c = omega (arith, c.requires.0.onward _ c.loop-i-test.true, c.from-i.ensures)

pub loop-i-preserved : goal.loop-i-preserved
loop-i-preserved c = rw c.from-i.ensures (filling_more c.loop-i.invariant c.requires.0.onward c.loop-i-test.true refl)

pub shape_of-out : goal.shape_of-out
shape_of-out c = omega (arith, length-set c.args.out.now 0 0)

pub returns : goal.returns
returns c = filling_ends c.loop-i.invariant c.args.out.now refl c.loop-i-test.false

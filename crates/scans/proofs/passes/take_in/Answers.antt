-- `scans::passes::take_in` meets its contract: each turn leaves the other tolerances alone. Assumes nothing.
use mathlib.Core.Path.{refl}
use Rattle.scans.proofs.PassLaws.{taking_more}
use Rattle.scans.proofs.passes.take_in.Goals as goal

pub loop-walk-preserved : goal.loop-walk-preserved
loop-walk-preserved c = taking_more c.loop-walk.invariant c.loop-walk.auto.walks c.loop-walk-test.true c.turn.ensures refl

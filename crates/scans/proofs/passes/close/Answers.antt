-- `scans::passes::close` meets its contract. Assumes nothing.
use mathlib.Core.Path.{refl}
use Rattle.scans.proofs.PassLaws.{close_next, close_done}
use Rattle.scans.proofs.passes.close.Goals as goal

pub loop-a-preserved : goal.loop-a-preserved
loop-a-preserved c = close_next c.requires c.loop-a.invariant c.loop-a-test.true refl

pub returns : goal.returns
returns c = close_done c.requires c.loop-a.invariant c.loop-a-test.false c.loop-a.auto.a-end

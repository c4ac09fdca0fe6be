-- `ratio::Bracket::step` meets its contract: whichever side moves stays on its side of p/q. Assumes nothing.
use Rattle.ratio.proofs.FareyLaws.{left_fits, left_step, right_fits, right_step}
use Rattle.ratio.proofs.Bracket.step.Goals as goal

pub moved-requires : goal.moved-requires
moved-requires c = left_fits c.requires c.turns-k.ensures

pub moved-requires-else-above-under : goal.moved-requires-else-above-under
moved-requires-else-above-under c = right_fits c.requires c.turns-k-else-above-under.ensures

pub returns-then-above-under : goal.returns-then-above-under
returns-then-above-under c = rw c.moved.ensures (left_step c.requires c.turns-k.ensures c.if-above-under.true)

pub returns-else-above-under : goal.returns-else-above-under
returns-else-above-under c = rw c.moved-else-above-under.ensures (right_step c.requires c.turns-k-else-above-under.ensures c.if-above-under.false)

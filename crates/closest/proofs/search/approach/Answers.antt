-- `closest::search::approach` meets its contract: the loop has an interval below `from`. Assumes nothing.
use Rattle.closest.proofs.ClosestLaws.{narrowed_more}
use Rattle.closest.proofs.search.approach.Goals as goal

pub loop-preserved : goal.loop-preserved
loop-preserved c = narrowed_more c.loop.invariant c.halve-near.ensures

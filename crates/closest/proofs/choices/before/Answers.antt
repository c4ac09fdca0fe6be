-- `closest::choices::before` meets its contract: it is the left neighbour. Assumes nothing.
use Rattle.closest.proofs.ClosestLaws.{allowed_searched, left_before}
use Rattle.closest.proofs.choices.before.Goals as goal

pub returns : goal.returns
returns c = let pre = c.requires in left_before c.neighbours-n.ensures (allowed_searched pre.0 pre.1)

-- `closest::choices::middle` meets its contract. Assumes nothing.
use Rattle.trace.proofs.Errors.{allowed_small}
use Rattle.closest.proofs.ClosestLaws.{middle_searched, left_candidate, right_candidate}
use Rattle.closest.proofs.choices.middle.Goals as goal

pub neighbours-n-requires : goal.neighbours-n-requires
neighbours-n-requires c =
    let pre = c.requires in
    middle_searched pre.0 pre.1 pre.2 c.cross.ensures.0 c.cross-2.ensures.0 c.common-q.ensures.0

pub pick-requires : goal.pick-requires
pick-requires c =
    let pre = c.requires in
    let s = middle_searched pre.0 pre.1 pre.2 c.cross.ensures.0 c.cross-2.ensures.0 c.common-q.ensures.0 in
    let n = c.neighbours-n.ensures in
    (allowed_small pre.0, left_candidate n s, right_candidate n s)

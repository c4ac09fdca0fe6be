-- `outgoing::links_past` meets its contract. Assumes nothing.
use Rattle.outgoing.proofs.OutgoingLaws.{first_tilt, taken_first}
use Rattle.outgoing.proofs.links_past.Goals as goal

pub cone_of-requires : goal.cone_of-requires
cone_of-requires c =
    let pre = c.requires in
    first_tilt pre.0 pre.1 pre.2 c.start_at-from.ensures c.aim_at-to.ensures

pub returns : goal.returns
returns c =
    let pre = c.requires in
    taken_first pre.0 pre.1 pre.2 c.start_at-from.ensures c.aim_at-to.ensures c.cone_of.ensures.0 c.cone_of.ensures.1 pre.3

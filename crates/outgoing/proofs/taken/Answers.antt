-- `outgoing::taken` meets its contract. Assumes nothing.
use Rattle.outgoing.proofs.OutgoingLaws.{next_tilt, next_taken}
use Rattle.outgoing.proofs.taken.Goals as goal

pub extended-cone-requires : goal.extended-cone-requires
extended-cone-requires c =
    let pre = c.requires in
    (pre.taken.fits, next_tilt pre c.aim_at-to.ensures)

pub returns : goal.returns
returns c = next_taken c.requires c.aim_at-to.ensures c.extended-cone.ensures.0 c.extended-cone.ensures.1

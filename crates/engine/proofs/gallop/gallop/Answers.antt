-- `engine::gallop::gallop` meets its contract. Assumes nothing.
use Rattle.engine.proofs.ReduceLaws.{gallop_kept}
use Rattle.engine.proofs.gallop.gallop.Goals as goal

pub gallop-requires : goal.gallop-requires
gallop-requires c =
    let r = c.in_ok-c.ensures in
    (r.ready.trace, r.ready.bounded, r.room_is)

pub returns : goal.returns
returns c = gallop_kept c.in_ok-c.ensures c.gallop.ensures.wrote c.gallop.ensures.probes

-- `engine::walk::walk` meets its contract. Assumes nothing.
use Rattle.engine.proofs.ReduceLaws.{walk_kept}
use Rattle.engine.proofs.walk.walk.Goals as goal

pub walk-requires : goal.walk-requires
walk-requires c =
    let r = c.in_ok-c.ensures in
    (r.ready.trace, r.ready.bounded, r.room_is)

pub returns : goal.returns
returns c = walk_kept c.in_ok-c.ensures c.walk.ensures

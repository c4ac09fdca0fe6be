-- `engine::minimum::minimum` meets its contract. Assumes nothing.
use Rattle.engine.proofs.ReduceLaws.{minimum_kept}
use Rattle.engine.proofs.minimum.minimum.Goals as goal

pub minimum-requires : goal.minimum-requires
minimum-requires c =
    let r = c.in_ok-c.ensures in
    (r.ready.trace, r.ready.bounded, r.room_is)

pub returns : goal.returns
returns c = minimum_kept c.in_ok-c.ensures c.minimum.ensures

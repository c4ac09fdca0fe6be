-- `live::states::grow` meets its contract. Assumes nothing.
use native.Mathlib.Omega.{arith}
use Rattle.live.proofs.Full.{full}
use Rattle.live.proofs.LiveLaws.{ready_candidates, grown_all, grown_thinned}
use Rattle.live.proofs.states.grow.Goals as goal

pub returns-then-view : goal.returns-then-view
returns-then-view c = grown_all c.requires (full c.args.view c.well_formed.0) (omega (arith, c.if-view.true)) c.appended.ensures

pub cheapest_at-at-requires : goal.cheapest_at-at-requires
cheapest_at-at-requires c =
    (ready_candidates c.requires (full c.args.view c.well_formed.0), omega (arith, c.if-view.false))

pub returns-else-view : goal.returns-else-view
returns-else-view c =
    let at = c.cheapest_at-at.ensures in
    grown_thinned c.requires (full c.args.view c.well_formed.0) (omega (arith, c.if-view.false)) at.is at.inner c.shifted.ensures

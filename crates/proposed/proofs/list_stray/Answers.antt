-- `proposed::list_stray` meets its contract: the loop has the error of the links before k, and its sample. Assumes nothing.
use Rattle.trace.proofs.Errors.{allowed_small, lowest_allowed}
use Rattle.proposed.proofs.WorstLink.{worst_none_yet, worst_more, worst_all}
use Rattle.proposed.proofs.list_stray.Goals as goal

pub loop-k-init : goal.loop-k-init
loop-k-init c = worst_none_yet

pub worse-worst-requires : goal.worse-worst-requires
worse-worst-requires c = (allowed_small c.loop-k.invariant.allowed, allowed_small c.stray_at.ensures.allowed)

pub loop-k-preserved : goal.loop-k-preserved
loop-k-preserved c =
    let pre = c.requires in
    worst_more pre.0 pre.1 _ c.loop-k-test.true c.loop-k.invariant c.stray_at.ensures.is c.stray_at.ensures.allowed c.worse-worst.ensures

pub reduce-error-requires : goal.reduce-error-requires
reduce-error-requires c = c.loop-k.invariant.allowed.up.positive

pub returns : goal.returns
returns c =
    let w = c.loop-k.invariant in
    record { is = worst_all w c.loop-k-test.false c.reduce-error.ensures; allowed = rw c.reduce-error.ensures (lowest_allowed w.allowed) }

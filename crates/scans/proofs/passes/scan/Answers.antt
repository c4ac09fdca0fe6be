-- `scans::passes::scan` meets its contract. The loop's invariant: at each tolerance, what is held is walk's with the samples up to `at` taken in.
-- Assumes nothing.
use Rattle.scans.proofs.PassLaws.{scan_first, scan_order, scan_insides, sampling, scan_next, closing, scan_closed}
use Rattle.scans.proofs.passes.scan.Goals as goal

pub loop-at-init : goal.loop-at-init
loop-at-init c = scan_first c.requires c.begin.ensures c.sample_at-before.ensures

pub far_apart-far-requires : goal.far_apart-far-requires
far_apart-far-requires c = scan_order c.loop-at.invariant c.loop-at-test.true c.sample_at-here.ensures

pub take_in-requires : goal.take_in-requires
take_in-requires c = sampling c.loop-at.invariant c.loop-at-test.true c.sample_at-here.ensures c.far_apart-far.ensures

pub loop-at-preserved : goal.loop-at-preserved
loop-at-preserved c =
    let inv = c.loop-at.invariant in
    scan_next inv c.loop-at-test.true c.sample_at-here.ensures c.far_apart-far.ensures (c.take_in.ensures _ (scan_insides inv)) c.take_in.auto.walks c.take_in.auto.out

pub close-requires : goal.close-requires
close-requires c = closing c.loop-at.invariant c.loop-at-test.false

pub returns : goal.returns
returns c = scan_closed c.loop-at.invariant c.loop-at-test.false c.close.ensures

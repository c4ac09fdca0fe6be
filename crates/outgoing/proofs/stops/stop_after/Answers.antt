-- `outgoing::stops::stop_after` meets its contract. The loop's invariant: `at` is reached by valid links. Assumes nothing.
use mathlib.Core.Path.{◌≡◌}
use native.Mathlib.Omega.{arith}
use Rattle.outgoing.proofs.StopLaws.{walked_first, walked_next, walked_valid, walked_invalid, walked_last, walked_bounds}
use Rattle.outgoing.proofs.stops.stop_after.Goals as goal

pub loop-at-init : goal.loop-at-init
loop-at-init c = walked_first c.requires.2 c.links_past-links.ensures

pub reaches-requires : goal.reaches-requires
reaches-requires c =
    let pre = c.requires in
    walked_next c.loop-at.invariant pre.3 c.loop-at-test.true pre.0 pre.1

pub returns-then-not-reaches : goal.returns-then-not-reaches
returns-then-not-reaches c =
    let pre = c.requires in
    record {
      stop = walked_invalid c.loop-at.invariant pre.3 c.loop-at-test.true c.if-not-reaches.true c.reaches.ensures;
      bounds = walked_bounds c.loop-at.invariant pre.3;
    }

pub taken-links-requires : goal.taken-links-requires
taken-links-requires c =
    let pre = c.requires in
    walked_next c.loop-at.invariant pre.3 c.loop-at-test.true pre.0 pre.1

pub loop-at-preserved : goal.loop-at-preserved
loop-at-preserved c =
    walked_valid c.loop-at.invariant c.requires.3 c.loop-at-test.true c.if-not-reaches.false c.reaches.ensures c.taken-links.ensures

pub returns : goal.returns
returns c =
    let g = c.loop-at.invariant in
    let b = walked_bounds g c.requires.3 in
    let e : c.loop-at.at ≡ c.args.limit = omega arith in
    record { stop = rw e at (walked_last g c.requires.3 c.loop-at-test.false); bounds = (omega arith, omega arith, omega arith) }

-- `probing::bisect` meets its contract. The loop's invariant: the bisection from here on is the whole bisection. Assumes nothing.
use Rattle.kept.proofs.SearchLaws.{bisecting_ends}
use Rattle.probing.proofs.ProbingLaws.{narrowing_yes, narrowing_no}
use Rattle.probing.proofs.bisect.Goals as goal

pub loop-s-preserved-then-not-probe : goal.loop-s-preserved-then-not-probe
loop-s-preserved-then-not-probe c = narrowing_no c.loop-s.invariant c.loop-s-test.true c.probe.ensures c.if-not-probe.true

pub loop-s-preserved : goal.loop-s-preserved
loop-s-preserved c = narrowing_yes c.loop-s.invariant c.loop-s-test.true c.probe.ensures c.if-not-probe.false

pub returns : goal.returns
returns c = bisecting_ends c.loop-s.invariant.bisects c.loop-s-test.false

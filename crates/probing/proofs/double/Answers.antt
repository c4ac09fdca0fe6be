-- `probing::double` meets its contract. The loop's invariant: the doubling from here on is the whole doubling. Assumes nothing.
use Rattle.probing.proofs.ProbingLaws.{raising_none, raising_more, raising_ends}
use Rattle.probing.proofs.double.Goals as goal

pub loop-c-init : goal.loop-c-init
loop-c-init c = raising_none c.requires.2 c.links_past.ensures

pub loop-c-preserved : goal.loop-c-preserved
loop-c-preserved c = raising_more c.loop-c.invariant c.probe.ensures c.loop-c-test.true

pub returns : goal.returns
returns c =
    let e = raising_ends c.loop-c.invariant c.probe.ensures c.loop-c-test.false in
    record { yes = e.0; finds = e.1 }

-- `lists::some_where` meets its contract: while `some` is false the test holds for no number before k. Assumes nothing.
use Rattle.lists.proofs.FirstLaws.{passing_more, passed}
use Rattle.lists.proofs.some_where.Goals as goal

pub loop-k-preserved : goal.loop-k-preserved
loop-k-preserved g c t tells =
    let p = c.loop-k.invariant t tells in
    rw (tells _ _ p.from c.loop-k-test.true c.test-some.ensures) (passing_more p c.loop-k-test.true)

pub returns : goal.returns
returns g c t tells = passed (c.loop-k.invariant t tells) c.loop-k-test.false

-- `lists::first_where` meets its contract: the loop has found none before k. Assumes nothing.
use Rattle.std.proofs.Common.{◌≡◌, sym, ◌∙◌, arith}
use Rattle.lists.proofs.FirstLaws.{searching_more, searched_at, searched_none}
use Rattle.lists.proofs.first_where.Goals as goal

pub returns-then-test : goal.returns-then-test
returns-then-test g c t tells =
    let s = c.loop-k.invariant t tells in
    let e = tells _ _ s.from c.loop-k-test.true c.test.ensures in
    searched_at s c.loop-k-test.true (sym e ∙ c.if-test.true)

pub loop-k-preserved : goal.loop-k-preserved
loop-k-preserved g c t tells =
    let s = c.loop-k.invariant t tells in
    let e = tells _ _ s.from c.loop-k-test.true c.test.ensures in
    searching_more s c.loop-k-test.true (sym e ∙ c.if-test.false)

pub returns : goal.returns
returns g c t tells =
    let s = c.loop-k.invariant t tells in
    let e : c.args.b ≡ c.loop-k.k = omega (arith, s.to) in
    e ∙ searched_none s c.loop-k-test.false

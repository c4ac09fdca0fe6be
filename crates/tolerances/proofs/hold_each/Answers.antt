-- `tolerances::hold_each` meets its contract. Assumes nothing.
use Rattle.std.proofs.Common.{rules, sym, ◌∙◌}
use Rattle.tolerances.proofs.TolerancesLaws.{holding_more, holding_all, holding_bad}
use Rattle.tolerances.proofs.hold_each.Goals as goal

pub returns-in_err-x : goal.returns-in_err-x
returns-in_err-x c = search (rules, holding_bad)

pub loop-k-preserved : goal.loop-k-preserved
loop-k-preserved c = holding_more c.loop-k.invariant c.requires c.loop-k-test.true (sym c.meaning_of.ensures ∙ c.in_ok-x.ensures.ok_part)

pub returns : goal.returns
returns c = holding_all c.loop-k.invariant c.loop-k-test.false c.loop-k.auto.k-end

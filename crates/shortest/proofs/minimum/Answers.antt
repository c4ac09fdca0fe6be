-- `shortest::minimum` meets its contract: what `plan` fills in, `follow` writes. Assumes nothing.
use Rattle.trace.proofs.Validity.{steps_valid}
use Rattle.shortest.proofs.Tables.{planned_onward, planned_minimum}
use borrow.Author.Rules.{rules}
use Rattle.shortest.proofs.minimum.Goals as goal

pub follow-requires : goal.follow-requires
follow-requires c = (planned_onward _ _ (steps_valid _ _ _) c.plan.ensures, search rules)

pub returns : goal.returns
returns c =
    let p = c.plan in
    let f = c.follow.ensures in
    rw (← planned_minimum _ _ (steps_valid _ _ _) p.ensures) f

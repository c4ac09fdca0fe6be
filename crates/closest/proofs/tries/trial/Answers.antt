-- `closest::tries::trial` meets its contract: the part of the array that is lent is the minimum's list. Assumes nothing.
use Rattle.closest.proofs.ClosestLaws.{tried_kept, tried_fit}
use Rattle.closest.proofs.tries.trial.Goals as goal

pub list_error-requires : goal.list_error-requires
list_error-requires c =
    (c.requires.0.trace, tried_kept c.args.ticks.now c.args.values.now c.args.gap c.args.x c.minimum-kept.ensures)

pub returns : goal.returns
returns c =
    tried_fit _ _ _ _ c.minimum-kept.ensures c.requires.0.trace c.if-m-kept.false c.list_error.ensures.is c.list_error.ensures.allowed

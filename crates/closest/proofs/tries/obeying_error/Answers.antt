-- `closest::tries::obeying_error` meets its contract: the part of the array that is lent is the list. Assumes nothing.
use Rattle.closest.proofs.ClosestLaws.{wrote_kept, obeying_kept, obeying_reached}
use Rattle.closest.proofs.tries.obeying_error.Goals as goal

pub list_error-requires : goal.list_error-requires
list_error-requires c =
    (c.requires.trace, wrote_kept c.obeying-kept.ensures (obeying_kept _ _))

pub returns : goal.returns
returns c =
    obeying_reached c.requires c.obeying-kept.ensures c.list_error.ensures.is c.list_error.ensures.allowed

-- `outgoing::reaches` meets its contract. Assumes nothing.
use mathlib.Core.Path.{◌∙◌}
use Rattle.outgoing.proofs.OutgoingLaws.{next_slope, next_valid}
use Rattle.outgoing.proofs.reaches.Goals as goal

pub admits-requires : goal.admits-requires
admits-requires c =
    let pre = c.requires in
    (pre.taken.fits, next_slope pre c.aim_at.ensures)

pub returns : goal.returns
returns c = c.admits.ensures ∙ next_valid c.requires c.aim_at.ensures

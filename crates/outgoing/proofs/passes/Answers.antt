-- `outgoing::passes` meets its contract. Assumes nothing.
use mathlib.Core.Path.{sym, ◌∙◌}
use Rattle.outgoing.proofs.OutgoingLaws.{later_slope, later_invalid}
use Rattle.outgoing.proofs.passes.Goals as goal

pub admits-requires : goal.admits-requires
admits-requires c =
    let pre = c.requires in
    (pre.taken.fits, later_slope pre c.aim_at.ensures)

pub returns : goal.returns
returns c = λ r. later_invalid c.requires c.aim_at.ensures (sym c.admits.ensures ∙ r)

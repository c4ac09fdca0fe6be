-- `checking::checks::check_crate` meets its contract. Assumes nothing.
use mathlib.Core.Path.{sym, ◌∙◌}
use Rattle.channels.proofs.ChannelLaws.{crate_divided}
use Rattle.checking.proofs.checks.check_crate.Goals as goal

pub returns : goal.returns
returns c =
    let a = c.args in
    record { is = c.check.ensures; divided = λ e. crate_divided a.ticks.now a.values.now a.lengths.now (sym c.check.ensures ∙ e) }

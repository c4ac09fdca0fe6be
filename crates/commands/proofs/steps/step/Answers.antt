-- `commands::steps::step` meets its contract. Assumes nothing.
use Rattle.std.proofs.Common.{sym, ◌∙◌, rules}
use Rattle.format.proofs.NumberLaws.{bytes_fit}
use Rattle.commands.proofs.CommandsAt.{read_at}
use Rattle.commands.proofs.StepLaws.{short_sample, long_sample, other_sample, none_sample}
use Rattle.commands.proofs.steps.step.Goals as goal

pub short_obeys-requires : goal.short_obeys-requires
short_obeys-requires c =
    let w = (read_at (bytes_fit c.type_inv.bytes) c.args.c.at c.in-Short.ensures).operands in
    (search rules, w.0, w.1)

pub returns-then-not-short_obeys : goal.returns-then-not-short_obeys
returns-then-not-short_obeys c =
    rw (← c.in-Short.ensures, short_sample c.args.c c.in-Short.advance c.in-Short.change, sym c.short_obeys.ensures ∙ c.if-not-short_obeys.true)

pub returns-else-not-short_obeys : goal.returns-else-not-short_obeys
returns-else-not-short_obeys c =
    rw (← c.in-Short.ensures, short_sample c.args.c c.in-Short.advance c.in-Short.change, sym c.short_obeys.ensures ∙ c.if-not-short_obeys.false)

pub long_obeys-requires : goal.long_obeys-requires
long_obeys-requires c =
    let w = (read_at (bytes_fit c.type_inv.bytes) c.args.c.at c.in-Long.ensures).operands in
    (search rules, w.0, w.1)

pub returns-then-not-long_obeys : goal.returns-then-not-long_obeys
returns-then-not-long_obeys c =
    rw (← c.in-Long.ensures, long_sample c.args.c c.in-Long.advance c.in-Long.level, sym c.long_obeys.ensures ∙ c.if-not-long_obeys.true)

pub returns-else-not-long_obeys : goal.returns-else-not-long_obeys
returns-else-not-long_obeys c =
    rw (← c.in-Long.ensures, long_sample c.args.c c.in-Long.advance c.in-Long.level, sym c.long_obeys.ensures ∙ c.if-not-long_obeys.false)

pub returns-in_default : goal.returns-in_default
returns-in_default c =
    rw (← c.command_at.ensures) (sym (none_sample _ (other_sample c.args.c _ c.command_at.result c.in_default.not-Short c.in_default.not-Long)))

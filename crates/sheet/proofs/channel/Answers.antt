-- `sheet::channel` meets its contract. Assumes nothing.
use mathlib.Core.Path.{sym, ◌∙◌}
use native.Mathlib.Omega.{arith}
use Rattle.trace.proofs.TraceLaws.{rows_trace}
use Rattle.sheet.proofs.channel.Goals as goal

pub walked-requires : goal.walked-requires
walked-requires c =
    ((rows_trace 4096 c.args.ticks.now c.args.values.now (omega arith) (sym c.check.ensures ∙ c.in-Ok.is)).0, c.requires)

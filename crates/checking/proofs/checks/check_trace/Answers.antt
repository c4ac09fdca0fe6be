-- `checking::checks::check_trace` meets its contract. Assumes nothing.
use mathlib.Core.Path.{sym, ◌∙◌}
use native.Mathlib.Omega.{arith}
use Rattle.trace.proofs.TraceLaws.{rows_trace}
use Rattle.checking.proofs.checks.check_trace.Goals as goal

pub returns : goal.returns
returns c =
    let a = c.args in
    record { is = c.check.ensures; trace = λ e. (rows_trace 4096 a.ticks.now a.values.now (omega arith) (sym c.check.ensures ∙ e)).0 }

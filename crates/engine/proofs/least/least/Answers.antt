-- `engine::least::least` meets its contract. Assumes nothing.
use mathlib.Core.Path.{sym}
use lib.ListN.{length}
use Rattle.allowance.proofs.RowLaws.{least_task}
use Rattle.engine.proofs.LeastLaws.{least_kept}
use Rattle.engine.proofs.least.least.Goals as goal

pub least-requires : goal.least-requires
least-requires c =
    let a = c.args in
    least_task a.ticks.now a.values.now a.gap a.m (length a.out.now) (sym c.in_ok-check.ensures)

pub returns : goal.returns
returns c = least_kept (sym c.in_ok-check.ensures) c.least.ensures.error c.least.ensures.allowed c.least.ensures.list

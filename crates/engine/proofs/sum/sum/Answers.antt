-- `engine::sum::sum` meets its contract. Assumes nothing.
use mathlib.Core.Path.{sym}
use Rattle.summed.proofs.RowLaws.{rows_addable}
use Rattle.engine.proofs.SumLaws.{sum_outcome}
use Rattle.engine.proofs.sum.sum.Goals as goal

pub add-requires : goal.add-requires
add-requires c = (rows_addable _ _ _ _ _ _ _ _ (sym c.in_ok-check.ensures)).summable

pub join-requires : goal.join-requires
join-requires c = (rows_addable _ _ _ _ _ _ _ _ (sym c.in_ok-check.ensures)).joinable

pub returns : goal.returns
returns c = sum_outcome _ _ _ _ _ _ _ _ (sym c.in_ok-check.ensures) c.add.ensures c.join.ensures

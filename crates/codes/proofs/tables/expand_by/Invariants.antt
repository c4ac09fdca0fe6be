-- `codes::tables::expand_by` meets its contract. The loop's invariant: the values of the codes passed are written over the
-- list. Assumes nothing.
use Rattle.lists.proofs.PartLaws.{Writing}
use Rattle.codes.specs.RangeTable.{values_in}
use Rattle.codes.proofs.tables.expand_by.Given as goal

abbrev pub invariant-loop-i : goal.invariant-loop-i
invariant-loop-i l = Writing (values_in l.table l.codes) l.initial.out l.out l.i

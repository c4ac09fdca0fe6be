-- The conversion of several tolerances meets its contract. Assumes nothing.
use mathlib.Core.List.{map}
use Rattle.lists.proofs.PartLaws.{Writing}
use Rattle.border.specs.Border.{entry_of}
use Rattle.border.proofs.arguments.TolerancesTolerancesFromTolerances.from.Given as goal

abbrev pub invariant-loop-k : goal.invariant-loop-k
invariant-loop-k l = Writing (map entry_of l.form-items) l.initial.list l.list l.k

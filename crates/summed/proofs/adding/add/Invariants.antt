-- `summed::adding::add` meets its contract: the first k sums are written. Assumes nothing.
use Rattle.lists.proofs.PartLaws.{Writing}
use Rattle.summed.specs.Sum.{sums_of}
use Rattle.summed.proofs.adding.add.Given as goal

abbrev pub invariant-loop-k : goal.invariant-loop-k
invariant-loop-k l = Writing (sums_of l.values1 l.values2) l.initial.sums l.sums l.k

-- `proposed::list_stray` meets its contract: the loop has the error of the links before k, and its sample. Assumes nothing.
use Rattle.proposed.proofs.WorstLink.{Worst}
use Rattle.proposed.proofs.list_stray.Given as goal

abbrev pub invariant-loop-k : goal.invariant-loop-k
invariant-loop-k l = Worst l.ticks l.values l.list l.k l.worst

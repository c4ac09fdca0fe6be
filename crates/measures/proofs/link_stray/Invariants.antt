-- `measures::link_stray` meets its contract: the loop has the greatest deviation of the samples before k. Assumes nothing.
use Rattle.measures.proofs.MeasureLaws.{Straying}
use Rattle.measures.proofs.link_stray.Given as goal

abbrev pub invariant-loop-k : goal.invariant-loop-k
invariant-loop-k l = Straying l.ticks l.values l.i l.j l.k l.s

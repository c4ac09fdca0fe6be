-- `writer::samples_length` meets its contract: at each turn the bytes of the steps up to a kept sample are counted. Assumes nothing.
use Rattle.writer.proofs.WritingLaws.{Counted}
use Rattle.writer.proofs.samples_length.Given as goal

abbrev pub invariant-loop-i : goal.invariant-loop-i
invariant-loop-i l = Counted l.ticks l.values l.list l.s l.total l.i

-- `sheet::survey` meets its contract: the loop has the rows and the totals of the channels before i. Assumes nothing.
use Rattle.sheet.proofs.ReportLaws.{Surveying}
use Rattle.sheet.proofs.survey.Given as goal

abbrev pub invariant-loop-i : goal.invariant-loop-i
invariant-loop-i l = Surveying l.c l.ticks l.values l.lengths l.rows l.totals l.at l.i

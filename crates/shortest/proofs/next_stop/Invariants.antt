-- `shortest::next_stop` meets its contract: each turn scans one end more, and the scan is complete at the last sample and where the cone is closed. Assumes nothing.
use Rattle.shortest.proofs.ShortestLaws.{Scanning}
use Rattle.shortest.proofs.next_stop.Given as goal

abbrev pub invariant-loop-j : goal.invariant-loop-j
invariant-loop-j l = Scanning l.ticks l.values l.c l.i l.cone l.b l.j

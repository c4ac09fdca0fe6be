-- `scans::passes::scan` meets its contract. The loop's invariant: at each tolerance, what is held is walk's with the samples up to `at` taken in.
-- Assumes nothing.
use Rattle.scans.specs.Scan.{Scanning}
use Rattle.scans.proofs.passes.scan.Given as goal

abbrev pub invariant-loop-at : goal.invariant-loop-at
invariant-loop-at l = Scanning l.ticks l.values l.parts l.gap l.initial.out l.at l.before l.hole l.walks l.out

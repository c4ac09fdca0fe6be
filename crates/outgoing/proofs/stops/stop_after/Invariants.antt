-- `outgoing::stops::stop_after` meets its contract. The loop's invariant: `at` is reached by valid links. Assumes nothing.
use Rattle.outgoing.proofs.StopLaws.{WalkedTo}
use Rattle.outgoing.proofs.stops.stop_after.Given as goal

abbrev pub invariant-loop-at : goal.invariant-loop-at
invariant-loop-at l = WalkedTo l.ticks l.values l.c l.i l.at l.links

-- `outgoing::taken_to` meets its contract. The loop's invariant: every sample before k has been taken in. Assumes nothing.
use Rattle.outgoing.specs.Outgoing.{TakenIn}
use Rattle.outgoing.proofs.taken_to.Given as goal

abbrev pub invariant-loop-k : goal.invariant-loop-k
invariant-loop-k l = TakenIn l.ticks l.values l.c l.initial.links.from.sample l.k l.links

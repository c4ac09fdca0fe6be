-- `closest::search::descend` meets its contract: the loop has an error that is reached, and goes on at a lesser one. Assumes nothing.
use Rattle.trace.specs.Link.{criterion, Bounded}
use Rattle.closest.specs.Closest.{Reached}
use Rattle.closest.proofs.ClosestLaws.{parts}
use Rattle.closest.proofs.search.descend.Given as goal

abbrev pub invariant-loop-near : goal.invariant-loop-near
invariant-loop-near l = Bounded (criterion l.near.low) × Reached l.ticks l.values l.gap l.m l.near.high

abbrev pub decreases-loop-near : goal.decreases-loop-near
decreases-loop-near l = parts l.near.high

-- `live::candidates::cheapest_at` meets its contract. Assumes nothing.
use mathlib.Core.Path.{◌≡◌}
use Rattle.trace.specs.Link.{Bounded, criterion}
use Rattle.live.specs.Candidates.{with_last, deviation_at}
use Rattle.live.proofs.CandidateLaws.{best_of}
use Rattle.live.proofs.candidates.cheapest_at.Given as goal

abbrev pub invariant-loop-i : goal.invariant-loop-i
invariant-loop-i l = (l.best ≡ best_of (deviation_at l.ticks l.values (with_last l.ticks l.samples l.count)) l.i) × Bounded (criterion l.best.error)

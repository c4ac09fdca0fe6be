-- `greedy::verdict` meets its contract. The loop's invariant: no link before position k is at fault, and `limit` is where links from that position's sample
-- end, if it lies beyond. Assumes nothing.
use mathlib.Core.Path.{◌≡◌}
use Prim.Native.Nat.{◌<◌}
use Rattle.trace.specs.Link.{links_end}
use Rattle.proposed.specs.Proposed.{entry}
use Rattle.greedy.proofs.GreedyLaws.{Sound}
use Rattle.greedy.proofs.verdict.Given as goal

abbrev pub invariant-loop-k : goal.invariant-loop-k
invariant-loop-k l = Sound l.ticks l.values l.list l.c l.k × (entry l.list l.k < l.limit → l.limit ≡ links_end l.ticks l.c.gap (entry l.list l.k))

-- `trace::gaps::first_hole` meets its contract: the loop has found none in the passes before i. Assumes nothing.
use Rattle.std.proofs.Common.{◌+◌, ◌*◌}
use Rattle.lists.proofs.FirstLaws.{Searching}
use Rattle.trace.specs.Link.{hole}
use Rattle.trace.proofs.gaps.first_hole.Given as goal

abbrev pub invariant-loop-i : goal.invariant-loop-i
invariant-loop-i l = Searching (hole l.ticks l.fn.gap) l.a l.b (l.a + 64 * l.i)

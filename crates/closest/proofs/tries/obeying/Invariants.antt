-- `closest::tries::obeying` meets its contract: each turn writes one stop more, and the stops from i on complete the list. Assumes nothing.
use Prim.Native.Nat.{◌-◌}
use Rattle.kept.proofs.Filling.{Filling}
use Rattle.trace.specs.Link.{links_end}
use Rattle.closest.proofs.tries.obeying.Given as goal

abbrev pub invariant-loop-i : goal.invariant-loop-i
invariant-loop-i l = Filling (links_end l.ticks l.gap) l.last l.initial.out l.out l.count l.i

abbrev pub decreases-loop-i : goal.decreases-loop-i
decreases-loop-i l = l.last - l.i

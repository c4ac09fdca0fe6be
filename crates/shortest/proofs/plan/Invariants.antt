-- `shortest::plan` meets its contract: each turn fills one entry more of both tables. Assumes nothing.
use mathlib.Core.Path.{◌≡◌}
use Prim.Native.Nat.{◌-◌}
use lib.ListN.{length}
use Rattle.lists.specs.First.{first}
use Rattle.trace.specs.Link.{hole, valid}
use Rattle.shortest.proofs.Tables.{Tabling}
use Rattle.shortest.proofs.plan.Given as goal

abbrev pub invariant-loop-i : goal.invariant-loop-i
invariant-loop-i l =
    Tabling (valid l.ticks l.values l.c) (length l.ticks - 1) (length l.initial.links) (length l.initial.next) l.links l.next l.i × (l.run ≡ first (hole l.ticks l.c.gap) l.i (length l.ticks - 1))

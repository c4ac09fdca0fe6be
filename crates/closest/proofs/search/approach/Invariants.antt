-- `closest::search::approach` meets its contract: the loop has an interval below `from`. Assumes nothing.
use Rattle.closest.specs.Closest.{Narrowed}
use Rattle.closest.proofs.search.approach.Given as goal

abbrev pub invariant-loop : goal.invariant-loop
invariant-loop l = Narrowed l.ticks l.values l.gap l.m l.initial.near.high l.near

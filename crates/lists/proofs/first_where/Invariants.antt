-- `lists::first_where` meets its contract: the loop has found none before k. Assumes nothing.
use Rattle.std.proofs.Common.{Bool, ℕ}
use Rattle.lists.specs.Test.{Tells}
use Rattle.lists.proofs.FirstLaws.{Searching}
use Rattle.lists.proofs.first_where.Given as goal

abbrev pub invariant-loop-k : goal.invariant-loop-k
invariant-loop-k g l = (t : ℕ → Bool) → Tells t (goal.F-post g l.test) l.a l.b → Searching t l.a l.b l.k

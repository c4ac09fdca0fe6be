-- `lists::some_where` meets its contract: while `some` is false the test holds for no number before k. Assumes nothing.
use Rattle.std.proofs.Common.{Bool, ℕ}
use Rattle.lists.specs.Test.{Tells}
use Rattle.lists.proofs.FirstLaws.{Passing}
use Rattle.lists.proofs.some_where.Given as goal

abbrev pub invariant-loop-k : goal.invariant-loop-k
invariant-loop-k g l = (t : ℕ → Bool) → Tells t (goal.F-post g l.test) l.a l.b → Passing t l.a l.b l.some l.k

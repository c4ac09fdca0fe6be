-- `commands::passes::count_samples` meets its contract: at each turn the samples passed, with those to come, are the whole.
-- Assumes nothing.
use mathlib.Core.List.{List}
use Prim.Native.Nat.{ℕ, ◌-◌}
use lib.IntN.{ℤ}
use Rattle.commands.proofs.PassLaws.{Passed}
use Rattle.commands.proofs.passes.count_samples.Given as goal

abbrev pub invariant-loop-next : goal.invariant-loop-next
invariant-loop-next l = (w : List ℕ) × (v : List ℤ) × Passed l.bytes l.initial.c l.c w v

abbrev pub decreases-loop-next : goal.decreases-loop-next
decreases-loop-next l = 4097 - l.c.count

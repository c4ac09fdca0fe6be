-- `commands::passes::fill` meets its contract: at each turn the samples up to the cursor's are written over the lists, and with those to come
-- they are the whole. Assumes nothing.
use Rattle.std.proofs.Common.{◌≡◌, ◌-◌, ℕ, List, ℤ, set}
use Rattle.format.specs.Number.{value_of}
use Rattle.commands.proofs.PassLaws.{Copying}
use Rattle.commands.proofs.passes.fill.Given as goal

-- the samples passed are written, as ts and vs, and then the cursor's
abbrev pub invariant-loop-c : goal.invariant-loop-c
invariant-loop-c l =
    (ts : List ℕ) × (vs : List ℤ) × (w : List ℕ) × (v : List ℤ) × Copying l.bytes l.initial.c l.n l.fn.ticks l.fn.values ts vs l.c w v × (l.ticks ≡ set ts (l.c.count - 1) l.c.tick) × (l.values ≡ set vs (l.c.count - 1) (value_of l.c.level))

abbrev pub decreases-loop-c : goal.decreases-loop-c
decreases-loop-c l = 4097 - l.c.count

-- `writer::put_steps` meets its contract: at each turn the steps up to a kept sample, w, are written over the part. Assumes nothing.
use mathlib.Core.List.{List}
use Prim.Native.Nat.{ℕ}
use Rattle.writer.proofs.WritingLaws.{Counted, Putting}
use Rattle.writer.proofs.put_steps.Given as goal

abbrev pub invariant-loop-i : goal.invariant-loop-i
invariant-loop-i l = (w : List ℕ) × Putting l.ticks l.values l.list l.initial.part l.part l.s l.at l.i w × Counted l.ticks l.values l.list l.s l.at l.i

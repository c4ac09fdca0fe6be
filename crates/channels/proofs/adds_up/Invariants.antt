-- `channels::adds_up` meets its contract: what is left of n, and the lengths so far, add up to n. Assumes nothing.
use mathlib.Core.Path.{◌≡◌}
use Prim.Native.Nat.{◌+◌}
use Rattle.channels.specs.Channels.{place_of}
use Rattle.channels.proofs.adds_up.Given as goal

abbrev pub invariant-loop-next : goal.invariant-loop-next
invariant-loop-next l = l.left + place_of l.lengths l.next-index ≡ l.n

-- Laws of channels: row 11, parts and places.
-- Assumes nothing.
use Rattle.std.specs.Prelude.{Ok}
use mathlib.Core.Path.{◌≡◌, ap}
use mathlib.Core.List.{List, [], ◌∷◌}
use Prim.Native.Nat.{ℕ, zero, suc, ◌+◌, ◌-◌, ◌≤◌, ◌<◌}
use native.Mathlib.Omega.{arith}
use lib.IntN.{ℤ}
use Rattle.std.proofs.lemmas.Bool.Decides.{nat_tests}
use lib.ListN.{length, take, drop, get_or, length-drop}
use lib.Seq.{length-take-le}
use Rattle.channels.specs.Channels.{part, sum, place_of, of_channel, crate_row, Divided}

-- ---- row 11
pub crate_divided : (ts : List ℕ) (vs : List ℤ) (ls : List ℕ) → crate_row ts vs ls ≡ Ok tt → Divided ts vs ls
unfolding crate_row
crate_divided ts vs ls e = record { few = grind (arith, nat_tests); ticks = grind (arith, nat_tests); values = grind (arith, nat_tests) }

-- ---- parts and places

-- n entries from `at` on, as a slice from `at` to `at + n` has them
pub lent_part : {A : Type 0} (at n : ℕ) (l : List A) → take (at + n - at) (drop at l) ≡ part at n l
lent_part at n l = ap (λ (k : ℕ). take k (drop at l)) {x = at + n - at} {y = n} (omega arith)

-- a channel ends where the next begins
pub place_next : (ls : List ℕ) (i : ℕ) → i < length ls → place_of ls (suc i) ≡ place_of ls i + get_or ls i 0
place_next [] i h = absurd (omega arith)
place_next (n ∷ ls) zero h = omega arith
place_next (n ∷ ls) (suc i) h = omega (arith, place_next ls i (omega arith))

-- and lies in the lists
pub place_fits : (ls : List ℕ) (i : ℕ) → i < length ls → place_of ls i + get_or ls i 0 ≤ sum ls
place_fits [] i h = absurd (omega arith)
place_fits (n ∷ ls) zero h = omega arith
place_fits (n ∷ ls) (suc i) h = omega (arith, place_fits ls i (omega arith))

-- a channel has as many entries as its length says
pub channel_length : {A : Type 0} (ls : List ℕ) (i : ℕ) (l : List A) → i < length ls → sum ls ≡ length l → length (of_channel ls i l) ≡ get_or ls i 0
channel_length ls i l h e = length-take-le (get_or ls i 0) (drop (place_of ls i) l) (simp length-drop (omega (arith, place_fits ls i h)))

-- row 11 asks only how many values there are
pub crate_counts : (ts : List ℕ) (vs ws : List ℤ) (ls : List ℕ) → length ws ≡ length vs → crate_row ts ws ls ≡ crate_row ts vs ls
unfolding crate_row
crate_counts ts vs ws ls e = rw e

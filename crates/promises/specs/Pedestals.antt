-- What follows from a comparison of pedestals (document 02, "Morning pedestals").
--   Exactly              a list of numbers below m: exactly those that a test holds of, in rising order
--   added_to, shifted    values with a constant added to each; a run with such values
-- Assumes nothing.
use Rattle.std.specs.Prelude.{◌≡◌, Bool, true, ℕ, suc, ◌<◌, ℤ, ◌+ℤ◌, length, get_or}
use mathlib.Core.List.{List, map, Memᴰ}
use Rattle.pedestals.specs.Compare.{Run, run_of}

pub record Exactly (f : ℕ → Bool) (m : ℕ) (l : List ℕ) : Type 0 where
  pub only : (c : ℕ) → Memᴰ c l → (c < m) × (f c ≡ true)
  pub each : (c : ℕ) → c < m → f c ≡ true → Memᴰ c l
  pub rises : (i : ℕ) → suc i < length l → get_or l i 0 < get_or l (suc i) 0

abbrev pub added_to : ℤ → List ℤ → List ℤ
added_to d vs = map (λ (v : ℤ). v +ℤ d) vs

abbrev pub shifted : ℤ → Run → Run
shifted d a = run_of a.ticks (added_to d a.values) a.lengths

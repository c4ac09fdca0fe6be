-- The numbers that a test holds of.
--   listed f m     the numbers below m that f holds of, in rising order
-- Laws are in ListedLaws. Assumes nothing.
use Rattle.std.specs.Prelude.{Bool, cond, List, [], ◌∷◌, ◌++◌, ℕ, zero, suc}

abbrev pub listed : (ℕ → Bool) → ℕ → List ℕ
listed f zero = []
listed f (suc m) = listed f m ++ cond (f m) (m ∷ []) []

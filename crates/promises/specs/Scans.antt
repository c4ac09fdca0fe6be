-- What is said of scans beyond their contract.
--   samples_below   the samples of a list that lie before sample j
-- Assumes nothing.
use Rattle.std.specs.Prelude.{cond, List, [], ◌∷◌, ℕ, ltb}

unfoldable pub samples_below : ℕ → List ℕ → List ℕ
samples_below j [] = []
samples_below j (s ∷ l) = let more = samples_below j l in cond (ltb s j) (s ∷ more) more

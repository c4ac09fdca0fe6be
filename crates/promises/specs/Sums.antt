-- What a trace is added to, to be given back as it is (document 02, "Summed channels").
--   zeros    n values 0
--   ends     the list of both ends of n samples; of one sample the list 0
-- The theorems are in proofs/Sums. Assumes nothing.
use Rattle.std.specs.Prelude.{cond, List, [], ◌∷◌, ℕ, ◌-◌, leb, ℤ, pos, replicate}

abbrev pub zeros : ℕ → List ℤ
zeros n = replicate n (pos 0)

abbrev pub ends : ℕ → List ℕ
ends n = cond (leb n 1) (0 ∷ []) (0 ∷ (n - 1) ∷ [])

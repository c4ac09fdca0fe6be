-- What the contract of a scan speaks of (document 02, "Sixteen tolerances in one reading").
--   part          part a of an output whose parts are n long, from the crate `turns`
--   kept_before   the samples that walk has kept at sample j, which closes its list
-- Laws are in PassLaws (part), WalkedLaws and StreamLaws (kept_before). Assumes nothing.
use Rattle.std.specs.Prelude.{Bool, List, [], ℕ, zero, suc}
use Rattle.kept.specs.Walk.{walk_open}
pub use Rattle.turns.specs.Held.{part}

-- a sample is kept when the next is read, so at the first there is none
unfoldable pub kept_before : (ℕ → ℕ → Bool) → ℕ → List ℕ
kept_before ok zero = []
kept_before ok (suc j) = walk_open ok (suc j)

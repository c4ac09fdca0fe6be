-- The outcome of `hold` (document 01, "Tolerances" and row 4 of "When the engine declines"; document 02, "Above and below").
--   holding_of    what `hold` answers for a meaning
--   HoldOutcome   the contract
-- Assumes nothing.
use Rattle.std.specs.Prelude.{◌≡◌, Err, None, Ok, Option, Result, Some}
use Rattle.refusal.specs.Table.{NotAllowedTolerance}
use Rattle.tolerance.specs.declared.Tolerance.{Tolerance}
use Rattle.tolerance.specs.declared.Parts.{Parts}
use Rattle.tolerance.specs.Meaning.{meaning, HeldParts}
use Rattle.refusal.specs.declared.Refusal.{Refusal}

abbrev pub holding_of : Option Parts → Result Parts Refusal
holding_of (Some x) = Ok x
holding_of None = Err NotAllowedTolerance

pub record HoldOutcome (t : Tolerance) (r : Result Parts Refusal) : Type 0 where
  pub is : r ≡ holding_of (meaning t)
  -- each part that is held is an allowed tolerance in lowest terms
  pub held : (x : Parts) → r ≡ Ok x → HeldParts x

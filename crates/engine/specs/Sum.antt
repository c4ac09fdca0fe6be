-- The outcome of `sum` (document 02, "Summed channels").
--   Summed       what holds where two traces were added and their kept lists joined
--   SumOutcome   the contract: by cases on the answer
-- A refused call leaves both lent lists as they were. Otherwise the first entries of one are the sums and those of the other the joined list, and the
-- others stay. Assumes nothing.
use Rattle.std.specs.Prelude.{◌≡◌, List, ℕ, ◌-◌, ℤ, length, Err, Ok, Result}
use Rattle.lists.specs.Overwrite.{overwrite, Wrote}
use Rattle.kept.specs.Kept.{KeptList}
use Rattle.trace.specs.Trace.{Trace}
use Rattle.summed.specs.Sum.{sum_rows, sums_of, joined_of, JoinedWithin}
use Rattle.refusal.specs.declared.Refusal.{Refusal}

-- the joined list has n samples; the lent lists o for the sums and p for the joined list became o' and p'
pub record Summed (ts : List ℕ) (vs : List ℤ) (us : List ℕ) (ws : List ℤ) (l m : List ℕ) (o : List ℤ) (p : List ℕ) (n : ℕ) (o' : List ℤ) (p' : List ℕ) : Type 0 where
  pub rows : sum_rows ts vs us ws l m (length o) (length p) ≡ Ok tt
  pub sums : o' ≡ overwrite (sums_of vs ws) o
  pub joined : Wrote (joined_of (length ts) l m) p n p'
  -- the sums are a trace, and the joined list is a kept list of it
  pub trace : Trace ts (sums_of vs ws)
  pub kept : KeptList (length ts - 1) (joined_of (length ts) l m)
  -- within 2 (T1 + T2), if the lists are within T1 and T2, for all fractions and all gap limits
  pub within : JoinedWithin ts vs us ws l m

abbrev pub SumOutcome : List ℕ → List ℤ → List ℕ → List ℤ → List ℕ → List ℕ → List ℤ → List ℕ → Result ℕ Refusal → List ℤ → List ℕ → Type 0
SumOutcome ts vs us ws l m o p (Ok n) o' p' = Summed ts vs us ws l m o p n o' p'
SumOutcome ts vs us ws l m o p (Err x) o' p' = (sum_rows ts vs us ws l m (length o) (length p) ≡ Err x) × (o' ≡ o) × (p' ≡ p)

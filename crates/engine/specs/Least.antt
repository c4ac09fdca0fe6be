-- The outcome of least (document 01, "The four reductions"), with demand 3 for it.
--   ok_at          the link test of a trace at a tolerance p/q under a gap limit
--   LeastKept      what holds of a list kept, and of its error
--   LeastOutcome   the contract: by cases on the answer
-- A refused call leaves the lent list as it was. Otherwise its first entries are the list, and the others stay.
-- Assumes nothing.
use Rattle.std.specs.Prelude.{◌≡◌, Bool, List, ℕ, ◌-◌, ℤ, length, Err, Ok, Result}
use Rattle.lists.specs.Overwrite.{Wrote}
use Rattle.ratio.specs.declared.Ratio.{Ratio}
use Rattle.kept.specs.Least.{LeastError}
use Rattle.trace.specs.Link.{obeys, valid, link_error, limited, criterion, Bounded}
use Rattle.shortest.specs.Shortest.{minimum_list}
use Rattle.closest.specs.declared.Found.{Found}
use Rattle.closest.specs.Closest.{least_error}
use Rattle.allowance.specs.Rows.{least_rows}
use Rattle.refusal.specs.declared.Refusal.{Refusal}

-- a link is valid at the tolerance x under the gap limit g
abbrev pub ok_at : List ℕ → List ℤ → ℕ → Ratio → ℕ → ℕ → Bool
ok_at ts vs g x = valid ts vs (limited g x)

-- least answered f, and the lent list o became o'. Demand 3 is `list`: a kept list of at most m samples with the error returned, in lowest
-- terms; the minimum's at that error; and every kept list of this trace of at most m samples that obeys the gap limit has at least that error.
pub record LeastKept (ts : List ℕ) (vs : List ℤ) (g m : ℕ) (o : List ℕ) (f : Found) (o' : List ℕ) : Type 0 where
  pub rows : least_rows ts vs g m (length o) ≡ Ok tt
  pub error : f.error ≡ least_error ts vs g m
  pub allowed : Bounded (criterion f.error)
  pub wrote : Wrote (minimum_list ts vs (limited g f.error)) o f.kept o'
  pub list : LeastError (ok_at ts vs g) (obeys ts g) (link_error ts vs) (length ts - 1) m f.error (minimum_list ts vs (limited g f.error))

abbrev pub LeastOutcome : List ℕ → List ℤ → ℕ → ℕ → List ℕ → Result Found Refusal → List ℕ → Type 0
LeastOutcome ts vs g m o (Ok f) o' = LeastKept ts vs g m o f o'
LeastOutcome ts vs g m o (Err x) o' = (least_rows ts vs g m (length o) ≡ Err x) × (o' ≡ o)

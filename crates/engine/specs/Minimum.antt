-- The outcome of minimum (document 01, "The four reductions").
--   MinimumKept      what holds where minimum kept a list
--   MinimumOutcome   the contract: by cases on the answer
-- A refused call leaves the lent list as it was. Otherwise its first entries are the list, and the others stay.
-- Assumes nothing.
use Rattle.std.specs.Prelude.{◌≡◌, List, ℕ, ◌-◌, ℤ, length, Err, Ok, Result}
use Rattle.lists.specs.Overwrite.{Wrote}
use Rattle.kept.specs.Minimum.{Minimum}
use Rattle.limits.specs.declared.Limits.{Limits}
use Rattle.shortest.specs.Shortest.{minimum_list}
use Rattle.limits.specs.Prepare.{criterion_of, output_rows}
use Rattle.engine.specs.Reduce.{ok_of}
use Rattle.refusal.specs.declared.Refusal.{Refusal}

-- minimum kept n samples, and the lent list o became o': a kept list of valid links, none is shorter, and of those of its length the latest
pub record MinimumKept (ts : List ℕ) (vs : List ℤ) (t : Limits) (o : List ℕ) (n : ℕ) (o' : List ℕ) : Type 0 where
  pub rows : output_rows ts vs t (length o) ≡ Ok tt
  pub wrote : Wrote (minimum_list ts vs (criterion_of t)) o n o'
  pub list : Minimum (ok_of ts vs t) (length ts - 1) (minimum_list ts vs (criterion_of t))

abbrev pub MinimumOutcome : List ℕ → List ℤ → Limits → List ℕ → Result ℕ Refusal → List ℕ → Type 0
MinimumOutcome ts vs t o (Ok n) o' = MinimumKept ts vs t o n o'
MinimumOutcome ts vs t o (Err x) o' = (output_rows ts vs t (length o) ≡ Err x) × (o' ≡ o)

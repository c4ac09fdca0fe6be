-- The outcome of `judge` (document 01, "The four reductions" and "When the engine declines").
--   judge_rows     the first row that applies, in the order 1, 2, 3, 4, 15, 6
--   list_verdict   yes, or no at the first invalid link, with where it strays (document 02, "Where the line strays")
--   judge_of       what `judge` answers
--   JudgeOutcome   its contract
-- Assumes nothing.
use Rattle.std.specs.Prelude.{◌≡◌, ◌↔◌, cond, List, ℕ, suc, ◌-◌, leb, ℤ, length, Result, Ok}
use Rattle.refusal.specs.declared.Refusal.{Refusal}
use Rattle.refusal.specs.Table.{◌then_check◌, Checked}
use Rattle.kept.specs.Kept.{KeptList, AllValid}
use Rattle.limits.specs.declared.Limits.{Limits}
use Rattle.trace.specs.declared.Criterion.{Criterion}
use Rattle.measures.specs.declared.Measure.{Measure}
use Rattle.trace.specs.Link.{valid}
use Rattle.measures.specs.Measure.{Offends}
use Rattle.proposed.specs.Proposed.{entry, list_row, first_invalid, fault_at}
use Rattle.judging.specs.declared.Verdict.{Verdict}
use Rattle.judging.specs.declared.Verdict.TheVariants.{Yes, No}
use Rattle.limits.specs.Prepare.{common_rows, criterion_of}

unfoldable pub judge_rows : List ℕ → List ℤ → List ℕ → Limits → Checked
judge_rows ts vs l t = common_rows ts vs t then_check list_row (length ts) l

-- links are counted from 0
unfoldable pub list_verdict : List ℕ → List ℤ → List ℕ → Criterion → Verdict
list_verdict ts vs l c = let k = first_invalid ts vs c l in cond (leb (length l - 1) k) Yes (No k (fault_at ts vs c l k))

unfoldable pub judge_of : List ℕ → List ℤ → List ℕ → Limits → Result Verdict Refusal
judge_of ts vs l t = judge_rows ts vs l t then_check Ok (list_verdict ts vs l (criterion_of t))

-- A list that row 6 does not refuse is a kept list, and it is passed exactly if each of its links is valid (demand 2). A no names what makes
-- the link invalid.
pub record JudgeOutcome (ts : List ℕ) (vs : List ℤ) (l : List ℕ) (t : Limits) (r : Result Verdict Refusal) : Type 0 where
  pub is : r ≡ judge_of ts vs l t
  pub passed : r ≡ Ok Yes ↔ (judge_rows ts vs l t ≡ Ok tt) × KeptList (length ts - 1) l × AllValid (valid ts vs (criterion_of t)) l
  pub named : (k : ℕ) (m : Measure) → r ≡ Ok (No k m) → Offends ts vs (criterion_of t) (entry l k) (entry l (suc k)) m

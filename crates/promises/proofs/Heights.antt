-- The error budget (heights: specs/Budget) of every list that a call writes or passes, from the call's contract alone.
-- What a call wrote is read from its output: the first n entries, n being the number that it returned.
-- Assumes nothing.
use Rattle.std.specs.Prelude.{Ok}
use mathlib.Core.List.{List}
use Prim.Native.Nat.{ℕ}
use lib.IntN.{ℤ}
use lib.ListN.{take}
use Rattle.limits.specs.declared.Limits.{Limits}
use Rattle.ratio.specs.declared.Ratio.{Ratio}
use Rattle.trace.specs.Link.{parted, limited}
use Rattle.heights.specs.Budget.{StandsFor, ErrorBudget}
use Rattle.heights.proofs.BudgetLaws.{error_budget}
use Rattle.reduction.specs.declared.Galloped.{Galloped}
use Rattle.closest.specs.declared.Found.{Found}
use Rattle.summed.specs.Sum.{sums_of, parts_sum}
use Rattle.judging.specs.declared.Verdict.TheVariants.{Yes}
use Rattle.limits.specs.Prepare.{criterion_of}
use Rattle.engine.specs.Reduce.{WalkOutcome, GallopOutcome}
use Rattle.engine.specs.Minimum.{MinimumOutcome}
use Rattle.engine.specs.Least.{LeastOutcome}
use Rattle.engine.specs.Sum.{SumOutcome}
use Rattle.judging.specs.Judge.{JudgeOutcome}
use Rattle.greedy.specs.declared.GreedyVerdict.TheVariants.{Yes as Passed}
use Rattle.greedy.specs.Greedy.{JudgeGreedyOutcome}
use Rattle.promises.proofs.Standing.{walk_stands, gallop_stands, minimum_stands, judge_stands, greedy_stands, least_stands, sum_stands}

module _ (ts : List ℕ) (vs : List ℤ) (t : Limits) where
  pub walk_budget : {o o' : List ℕ} {n : ℕ} → WalkOutcome ts vs t o (Ok n) o' → ErrorBudget ts vs (criterion_of t) (take n o')
  walk_budget h = error_budget (walk_stands ts vs t h)

  pub gallop_budget : {o o' : List ℕ} {g : Galloped} → GallopOutcome ts vs t o (Ok g) o' → ErrorBudget ts vs (criterion_of t) (take g.kept o')
  gallop_budget h = error_budget (gallop_stands ts vs t h)

  pub minimum_budget : {o o' : List ℕ} {n : ℕ} → MinimumOutcome ts vs t o (Ok n) o' → ErrorBudget ts vs (criterion_of t) (take n o')
  minimum_budget h = error_budget (minimum_stands ts vs t h)

  -- a list from elsewhere that judge passes, by its first question or its second
  pub judge_budget : {l : List ℕ} → JudgeOutcome ts vs l t (Ok Yes) → ErrorBudget ts vs (criterion_of t) l
  judge_budget h = error_budget (judge_stands ts vs t h)

  pub greedy_budget : {l : List ℕ} → JudgeGreedyOutcome ts vs l t (Ok Passed) → ErrorBudget ts vs (criterion_of t) l
  greedy_budget h = error_budget (greedy_stands ts vs t h)

-- least's list, at the error that it returns
pub least_budget : (ts : List ℕ) (vs : List ℤ) (g m : ℕ) {o o' : List ℕ} {f : Found} → LeastOutcome ts vs g m o (Ok f) o' → ErrorBudget ts vs (limited g f.error) (take f.kept o')
least_budget ts vs g m h = error_budget (least_stands ts vs g m h)

-- the joined list of a sum, at 2 (T1 + T2)
pub sum_budget : {ts us : List ℕ} {vs ws : List ℤ} {l m : List ℕ} {o o' : List ℤ} {p p' : List ℕ} {n : ℕ} (u d v e : Ratio) (g : ℕ) → SumOutcome ts vs us ws l m o p (Ok n) o' p'
    → StandsFor ts vs (parted g u d) l → StandsFor us ws (parted g v e) m → ErrorBudget ts (sums_of vs ws) (limited g (parts_sum u d v e)) (take n p')
sum_budget u d v e g h x y = error_budget (sum_stands u d v e g h x y)

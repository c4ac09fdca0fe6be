-- What each call keeps, or judge passes, stands for its trace (heights: specs/Budget, `StandsFor`), from the call's contract alone: it is a kept
-- list of valid links. What a call wrote is read from its output: the first n entries, n being the number that it returned.
-- Assumes nothing.
use Rattle.std.specs.Prelude.{Ok}
use mathlib.Core.Path.{◌≡◌, refl}
use mathlib.Core.List.{List}
use Prim.Native.Nat.{ℕ, ◌-◌, ◌<◌}
use native.Mathlib.Nat.{mul-pos}
use lib.IntN.{ℤ}
use lib.ListN.{length, take}
use Rattle.lists.specs.Overwrite.{Wrote}
use Rattle.lists.proofs.OverwriteLaws.{wrote_read}
use Rattle.refusal.proofs.TableLaws.{then_fine}
use Rattle.kept.specs.Kept.{KeptList, AllValid}
use Rattle.limits.specs.declared.Limits.{Limits}
use Rattle.ratio.specs.declared.Ratio.{Ratio}
use Rattle.trace.specs.Link.{parted, limited}
use Rattle.heights.specs.Budget.{StandsFor}
use Rattle.reduction.specs.declared.Galloped.{Galloped}
use Rattle.closest.specs.declared.Found.{Found}
use Rattle.allowance.proofs.RowLaws.{least_task}
use Rattle.summed.specs.Sum.{sums_of, parts_sum, twice_sum}
use Rattle.summed.proofs.SumLaws.{joined_twice}
use Rattle.judging.specs.declared.Verdict.TheVariants.{Yes}
use Rattle.limits.specs.Prepare.{common_rows, criterion_of, output_rows}
use Rattle.engine.specs.Reduce.{ok_of, WalkOutcome, GallopOutcome}
use Rattle.engine.specs.Minimum.{MinimumOutcome}
use Rattle.engine.specs.Least.{LeastOutcome}
use Rattle.engine.specs.Sum.{SumOutcome}
use Rattle.judging.specs.Judge.{judge_rows, JudgeOutcome}
use Rattle.greedy.specs.declared.GreedyVerdict.TheVariants.{Yes as Passed}
use Rattle.greedy.specs.Greedy.{JudgeGreedyOutcome}
use Rattle.limits.proofs.PrepareLaws.{common_trace}
use Rattle.engine.proofs.WriteLaws.{common_held}

module _ (ts : List ℕ) (vs : List ℤ) (t : Limits) where
  passed_stands : {l : List ℕ} → common_rows ts vs t ≡ Ok tt → KeptList (length ts - 1) l → AllValid (ok_of ts vs t) l → StandsFor ts vs (criterion_of t) l
  passed_stands rows k v =
      let held = common_held ts vs t rows in
      record { trace = common_trace ts vs t rows; up_positive = held.up.positive; down_positive = held.down.positive; kept = k; within = v }

  written_stands : {l o o' : List ℕ} {n : ℕ} → output_rows ts vs t (length o) ≡ Ok tt → Wrote l o n o' → KeptList (length ts - 1) l → AllValid (ok_of ts vs t) l
      → StandsFor ts vs (criterion_of t) (take n o')
  unfolding output_rows
  written_stands e w k v = rw (wrote_read w) (passed_stands (then_fine (common_rows ts vs t) _ e).0 k v)

  pub walk_stands : {o o' : List ℕ} {n : ℕ} → WalkOutcome ts vs t o (Ok n) o' → StandsFor ts vs (criterion_of t) (take n o')
  walk_stands h = written_stands h.rows h.wrote h.list.kept h.list.within

  pub gallop_stands : {o o' : List ℕ} {g : Galloped} → GallopOutcome ts vs t o (Ok g) o' → StandsFor ts vs (criterion_of t) (take g.kept o')
  gallop_stands h = written_stands h.rows h.wrote h.list.kept h.list.within

  pub minimum_stands : {o o' : List ℕ} {n : ℕ} → MinimumOutcome ts vs t o (Ok n) o' → StandsFor ts vs (criterion_of t) (take n o')
  minimum_stands h = written_stands h.rows h.wrote h.list.kept h.list.valid

  pub judge_stands : {l : List ℕ} → JudgeOutcome ts vs l t (Ok Yes) → StandsFor ts vs (criterion_of t) l
  unfolding judge_rows
  judge_stands h = let passed = h.passed.0 refl in passed_stands (then_fine (common_rows ts vs t) _ passed.0).0 passed.1 passed.2

  pub greedy_stands : {l : List ℕ} → JudgeGreedyOutcome ts vs l t (Ok Passed) → StandsFor ts vs (criterion_of t) l
  unfolding judge_rows
  greedy_stands h = let passed = h.passed.0 refl in passed_stands (then_fine (common_rows ts vs t) _ passed.0).0 passed.1.kept passed.1.valid

-- least's list, at the error that it returns
pub least_stands : (ts : List ℕ) (vs : List ℤ) (g m : ℕ) {o o' : List ℕ} {f : Found} → LeastOutcome ts vs g m o (Ok f) o' → StandsFor ts vs (limited g f.error) (take f.kept o')
least_stands ts vs g m {o} h = rw (wrote_read h.wrote) (record {
  trace = (least_task ts vs g m (length o) h.rows).0.trace;
  up_positive = h.allowed.up.positive;
  down_positive = h.allowed.up.positive;
  kept = h.list.minimum.kept;
  within = h.list.minimum.valid;
})

-- the joined list for the summed trace, at U1 + D1 + U2 + D2
pub sum_stands : {ts us : List ℕ} {vs ws : List ℤ} {l m : List ℕ} {o o' : List ℤ} {p p' : List ℕ} {n : ℕ} (u d v e : Ratio) (g : ℕ) → SumOutcome ts vs us ws l m o p (Ok n) o' p'
    → StandsFor ts vs (parted g u d) l → StandsFor us ws (parted g v e) m → StandsFor ts (sums_of vs ws) (limited g (parts_sum u d v e)) (take n p')
sum_stands u d v e g h x y =
    let some : 0 < (parts_sum u d v e).q = mul-pos (mul-pos x.up_positive x.down_positive) (mul-pos y.up_positive y.down_positive) in
    rw (wrote_read h.joined) (record {
      trace = h.trace;
      up_positive = some;
      down_positive = some;
      kept = h.kept;
      within = h.within u d v e g x.within y.within;
    })

-- which is 2 (T1 + T2) where the parts agree
pub sum_stands_twice : {ts us : List ℕ} {vs ws : List ℤ} {l m : List ℕ} {o o' : List ℤ} {p p' : List ℕ} {n : ℕ} (a b : Ratio) (g : ℕ) → SumOutcome ts vs us ws l m o p (Ok n) o' p'
    → StandsFor ts vs (limited g a) l → StandsFor us ws (limited g b) m → StandsFor ts (sums_of vs ws) (limited g (twice_sum a b)) (take n p')
sum_stands_twice {ts} {us} {vs} {ws} {l} {m} a b g h x y =
    let some : 0 < (twice_sum a b).q = mul-pos x.up_positive y.up_positive in
    rw (wrote_read h.joined) (record {
      trace = h.trace;
      up_positive = some;
      down_positive = some;
      kept = h.kept;
      within = joined_twice ts us vs ws l m h.within a b g x.up_positive y.up_positive x.within y.within;
    })

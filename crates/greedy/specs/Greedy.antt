-- The outcome of `judge_greedy`, judge's second question (document 02, "Lists from other labs").
--   further              the sample after a link's end is reached from its start too: the stop is not maximal
--   Through              the links from a sample with those up to another taken in, where the link to that one is valid
--   Tests                what the test of a link says: whether it is valid and, if so, whether its stop is not maximal
--   faulty_at            a link at fault: it is invalid, or its stop is not maximal
--   first_faulty         the first one's position, the number of links where there is none
--   fault_at             which fault is named at a position
--   list_greedy          yes, or the first fault
--   judge_greedy_of      what `judge_greedy` answers
--   FirstAt              every link before a position is a greedy stop
--   LinkFault, StopFault what each fault says
--   JudgeGreedyOutcome   its contract
-- Its rows are those of `judge` (judging: specs/Judge, `judge_rows`). Laws are in GreedyLaws. Assumes nothing.
use Rattle.std.specs.Prelude.{◌≡◌, ◌↔◌, Bool, true, false, cond, ◌&&◌, ◌||◌, List, ℕ, suc, ◌+◌, ◌-◌, ◌<◌, leb, ltb, ℤ, length, Option, Some, None, Result, Ok}
use Rattle.lists.specs.First.{first}
use Rattle.kept.specs.Kept.{Greedy, GreedyStop}
use Rattle.limits.specs.declared.Limits.{Limits}
use Rattle.limits.specs.Prepare.{criterion_of}
use Rattle.trace.specs.declared.Criterion.{Criterion}
use Rattle.trace.specs.Link.{valid, NoLonger}
use Rattle.outgoing.specs.declared.Links.{Links}
use Rattle.outgoing.specs.Outgoing.{TakenIn}
use Rattle.proposed.specs.Proposed.{entry, invalid_at}
use Rattle.judging.specs.Judge.{judge_rows}
use Rattle.greedy.specs.declared.Tested.{Tested}
use Rattle.greedy.specs.declared.Tested.TheVariants.{Invalid, Maximal, Further}
use Rattle.greedy.specs.declared.GreedyVerdict.{GreedyVerdict}
use Rattle.greedy.specs.declared.GreedyVerdict.TheVariants.{Yes, Link, Stop}
use Rattle.refusal.specs.declared.Refusal.{Refusal}
use Rattle.refusal.specs.Table.{◌then_check◌}

-- the next sample is j + 1, not the next that is kept; the last sample has none
abbrev pub further : List ℕ → List ℤ → Criterion → ℕ → ℕ → Bool
further ts vs c i j = ltb j (length ts - 1) && valid ts vs c i (suc j)

abbrev pub Through : List ℕ → List ℤ → Criterion → ℕ → ℕ → Option Links → Type 0
Through ts vs c i j None = valid ts vs c i j ≡ false
Through ts vs c i j (Some l) = (valid ts vs c i j ≡ true) × TakenIn ts vs c i (j + 1) l

abbrev pub Tests : List ℕ → List ℤ → Criterion → ℕ → ℕ → Tested → Type 0
Tests ts vs c i j Invalid = valid ts vs c i j ≡ false
Tests ts vs c i j Maximal = (valid ts vs c i j ≡ true) × (further ts vs c i j ≡ false)
Tests ts vs c i j Further = (valid ts vs c i j ≡ true) × (further ts vs c i j ≡ true)

-- a stop has the position of the link that ends there
abbrev pub faulty_at : List ℕ → List ℤ → Criterion → List ℕ → ℕ → Bool
faulty_at ts vs c l k = invalid_at ts vs c l k || further ts vs c (entry l k) (entry l (suc k))

unfoldable pub first_faulty : List ℕ → List ℤ → Criterion → List ℕ → ℕ
first_faulty ts vs c l = first (faulty_at ts vs c l) 0 (length l - 1)

-- where both faults share a position the invalid link is named
abbrev pub fault_at : List ℕ → List ℤ → Criterion → List ℕ → ℕ → GreedyVerdict
fault_at ts vs c l k = cond (invalid_at ts vs c l k) (Link k) (Stop k)

-- links are counted from 0
unfoldable pub list_greedy : List ℕ → List ℤ → List ℕ → Criterion → GreedyVerdict
list_greedy ts vs l c = let k = first_faulty ts vs c l in cond (leb (length l - 1) k) Yes (fault_at ts vs c l k)

unfoldable pub judge_greedy_of : List ℕ → List ℤ → List ℕ → Limits → Result GreedyVerdict Refusal
judge_greedy_of ts vs l t = judge_rows ts vs l t then_check Ok (list_greedy ts vs l (criterion_of t))

-- k is the position of a link, and each link before it is valid and, unless it ends at the last sample, followed by an invalid one
pub record FirstAt (ts : List ℕ) (vs : List ℤ) (c : Criterion) (l : List ℕ) (k : ℕ) : Type 0 where
  pub position : k < length l - 1
  pub before : (m : ℕ) → m < k → GreedyStop (valid ts vs c) (length ts - 1) (entry l m) (entry l (suc m))

pub record LinkFault (ts : List ℕ) (vs : List ℤ) (c : Criterion) (l : List ℕ) (k : ℕ) : Type 0 where
  pub first : FirstAt ts vs c l k
  pub invalid : valid ts vs c (entry l k) (entry l (suc k)) ≡ false

pub record StopFault (ts : List ℕ) (vs : List ℤ) (c : Criterion) (l : List ℕ) (k : ℕ) : Type 0 where
  pub first : FirstAt ts vs c l k
  pub link_valid : valid ts vs c (entry l k) (entry l (suc k)) ≡ true
  pub not_last : entry l (suc k) < length ts - 1
  pub next_valid : valid ts vs c (entry l k) (suc (entry l (suc k))) ≡ true

-- A list is passed exactly if no row refuses it and it is greedy: a kept list of valid links with maximal stops, as walk's and gallop's are. Then the
-- size bound of demand 3 holds of it, under both parts and the gap limit, however it was made. A no names the first fault.
pub record JudgeGreedyOutcome (ts : List ℕ) (vs : List ℤ) (l : List ℕ) (t : Limits) (r : Result GreedyVerdict Refusal) : Type 0 where
  pub is : r ≡ judge_greedy_of ts vs l t
  pub passed : r ≡ Ok Yes ↔ (judge_rows ts vs l t ≡ Ok tt) × Greedy (valid ts vs (criterion_of t)) (length ts - 1) l
  pub size : r ≡ Ok Yes → NoLonger ts vs (criterion_of t) (length l)
  pub link : (k : ℕ) → r ≡ Ok (Link k) → LinkFault ts vs (criterion_of t) l k
  pub stop : (k : ℕ) → r ≡ Ok (Stop k) → StopFault ts vs (criterion_of t) l k

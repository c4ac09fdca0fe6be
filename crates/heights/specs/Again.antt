-- Reducing a reduced trace again: a list l of the trace at c, and a list h of the samples that l keeps, at e.
--   added          the criterion of the sums of two tolerances, part by part, under the larger of two gap limits
--   ReducedAgain   the samples that h keeps stand for the original trace at the sums, with the lines and heights that h has
-- The samples that l keeps are the trace `select 0 ts l`, `select (pos 0) vs l`. Those that h keeps of them are samples `select 0 l h` of the
-- original trace. Laws are in AgainLaws. Assumes nothing.
use Rattle.std.specs.Prelude.{◌≡◌, List, ℕ, max, ℤ, pos}
use Rattle.lists.specs.Select.{select}
use Rattle.ratio.specs.Order.{plus}
use Rattle.trace.specs.declared.Criterion.{Criterion}
use Rattle.trace.specs.Link.{parted}
use Rattle.heights.specs.Heights.{line_at, peak, trough, height}
use Rattle.heights.specs.Budget.{StandsFor, ErrorBudget}

-- the parts above add up, and the parts below
abbrev pub added : Criterion → Criterion → Criterion
added c e = parted (max c.gap e.gap) (plus c.up e.up) (plus c.down e.down)

pub record ReducedAgain (ts : List ℕ) (vs : List ℤ) (c e : Criterion) (l h : List ℕ) : Type 0 where
  pub stands : StandsFor ts vs (added c e) (select 0 l h)
  pub budget : ErrorBudget ts vs (added c e) (select 0 l h)
  -- what is read off h over the reduced trace is what the samples have in the original one
  pub lines : (a d : ℕ) → line_at (select 0 ts l) (select (pos 0) vs l) h a d ≡ line_at ts vs (select 0 l h) a d
  pub peaks : peak (select (pos 0) vs l) h ≡ peak vs (select 0 l h)
  pub troughs : trough (select (pos 0) vs l) h ≡ trough vs (select 0 l h)
  pub heights : height (select (pos 0) vs l) h ≡ height vs (select 0 l h)

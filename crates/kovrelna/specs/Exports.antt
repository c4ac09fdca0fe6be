-- What the exports of the C interface promise.
--   HoldExport, MeasureExport, JudgeExport, JudgeGreedyExport, WalkExport, ScanExport, GallopExport, MinimumExport, LeastExport, ViewBeginExport, ViewAddExport, SumExport, ExpandExport, ExpandWithExport, WriteExport, ReadExport, SameExport,
--   ReportExport, PedestalsExport   an export's answer is that of the public call, with its whole outcome
-- Assumes nothing.
use Rattle.std.specs.Prelude.{◌≡◌, List, ℕ, ℤ, Result}
use Rattle.live.specs.declared.View.{View}
use Rattle.live.specs.Live.{begun_of as begun_by, AddOutcome}
use Rattle.judging.specs.declared.Verdict as E
use Rattle.scans.specs.declared.Kept.{Kept}
use Rattle.checking.specs.Hold.{HoldOutcome}
use Rattle.judging.specs.Measure.{MeasureOutcome}
use Rattle.judging.specs.Judge.{JudgeOutcome}
use Rattle.greedy.specs.declared.GreedyVerdict.{GreedyVerdict}
use Rattle.greedy.specs.Greedy.{JudgeGreedyOutcome}
use Rattle.expanding.specs.Expand.{ExpandOutcome, ExpandWithOutcome}
use Rattle.engine.specs.Write.{WriteOutcome}
use Rattle.commands.specs.declared.Content as R
use Rattle.reader.specs.declared.Comparison.{Comparison}
use Rattle.reader.specs.Reading.{ReadOutcome, SameOutcome}
use Rattle.sheet.specs.declared.Summary.{Summary}
use Rattle.engine.specs.Reduce.{WalkOutcome, GallopOutcome}
use Rattle.engine.specs.Scan.{ScanOutcome}
use Rattle.engine.specs.Minimum.{MinimumOutcome}
use Rattle.engine.specs.Least.{LeastOutcome}
use Rattle.engine.specs.Sum.{SumOutcome}
use Rattle.reporting.specs.Report.{ReportOutcome}
use Rattle.pedestals.specs.Compare.{Run, CompareOutcome}
use Rattle.border.specs.declared.Tolerance.{Tolerance}
use Rattle.border.specs.declared.Limits.{Limits}
use Rattle.border.specs.declared.Tolerances.{Tolerances}
use Rattle.border.specs.declared.Held.{Held}
use Rattle.border.specs.declared.Measured.{Measured}
use Rattle.border.specs.declared.Judged.{Judged}
use Rattle.border.specs.declared.JudgedGreedy.{JudgedGreedy}
use Rattle.border.specs.declared.Verdict.{Verdict}
use Rattle.border.specs.declared.Answer.{Answer}
use Rattle.border.specs.declared.Begun.{Begun}
use Rattle.border.specs.declared.Scanned.{Scanned}
use Rattle.border.specs.declared.Closest.{Closest}
use Rattle.border.specs.declared.Content.{Content}
use Rattle.border.specs.declared.Galloped.{Galloped}
use Rattle.border.specs.declared.Report.{Report}
use Rattle.border.specs.declared.Compared.{Compared}
use Rattle.border.specs.Border.{tolerance_of, limits_of, tolerances_of, held_of, measured_of, judged_of, judged_greedy_of, kept_of, checked_of, begun_of, scanned_of, galloped_of, closest_of, read_of, compared_of, report_of, listed_of}
use Rattle.refusal.specs.Table.{Checked}
use Rattle.refusal.specs.declared.Refusal.{Refusal}
use Rattle.tolerance.specs.declared.Parts.{Parts}
use Rattle.measures.specs.declared.Measure.{Measure}
use Rattle.reduction.specs.declared.Galloped as G
use Rattle.closest.specs.declared.Found.{Found}
use Rattle.sheet.specs.declared.Totals.{Totals}
use Rattle.pedestals.specs.declared.Cause.{Cause}
use Rattle.listing.specs.declared.Counts.{Counts}

pub record HoldExport (t : Tolerance) (r : Held) : Type 0 where
  pub answer : Result Parts Refusal
  pub is : r ≡ held_of answer
  pub outcome : HoldOutcome (tolerance_of t) answer

pub record MeasureExport (ts : List ℕ) (vs : List ℤ) (i j : ℕ) (r : Measured) : Type 0 where
  pub answer : Result Measure Refusal
  pub is : r ≡ measured_of answer
  pub outcome : MeasureOutcome ts vs i j answer

pub record JudgeExport (ts : List ℕ) (vs : List ℤ) (l : List ℕ) (t : Limits) (r : Judged) : Type 0 where
  pub answer : Result E.Verdict Refusal
  pub is : r ≡ judged_of answer
  pub outcome : JudgeOutcome ts vs l (limits_of t) answer

pub record JudgeGreedyExport (ts : List ℕ) (vs : List ℤ) (l : List ℕ) (t : Limits) (r : JudgedGreedy) : Type 0 where
  pub answer : Result GreedyVerdict Refusal
  pub is : r ≡ judged_greedy_of answer
  pub outcome : JudgeGreedyOutcome ts vs l (limits_of t) answer

pub record WalkExport (ts : List ℕ) (vs : List ℤ) (t : Limits) (o : List ℕ) (r : Answer) (o' : List ℕ) : Type 0 where
  pub answer : Result ℕ Refusal
  pub is : r ≡ kept_of answer
  pub outcome : WalkOutcome ts vs (limits_of t) o answer o'

pub record ScanExport (ts : List ℕ) (vs : List ℤ) (t : Tolerances) (g : ℕ) (o : List ℕ) (r : Scanned) (o' : List ℕ) : Type 0 where
  pub answer : Result Kept Refusal
  pub is : r ≡ scanned_of answer
  pub outcome : ScanOutcome ts vs (tolerances_of t) g o answer o'

pub record GallopExport (ts : List ℕ) (vs : List ℤ) (t : Limits) (o : List ℕ) (r : Galloped) (o' : List ℕ) : Type 0 where
  pub answer : Result G.Galloped Refusal
  pub is : r ≡ galloped_of answer
  pub outcome : GallopOutcome ts vs (limits_of t) o answer o'

pub record MinimumExport (ts : List ℕ) (vs : List ℤ) (t : Limits) (o : List ℕ) (r : Answer) (o' : List ℕ) : Type 0 where
  pub answer : Result ℕ Refusal
  pub is : r ≡ kept_of answer
  pub outcome : MinimumOutcome ts vs (limits_of t) o answer o'

pub record LeastExport (ts : List ℕ) (vs : List ℤ) (g m : ℕ) (o : List ℕ) (r : Closest) (o' : List ℕ) : Type 0 where
  pub answer : Result Found Refusal
  pub is : r ≡ closest_of answer
  pub outcome : LeastOutcome ts vs g m o answer o'

abbrev pub ViewBeginExport : ℕ → Begun → Type 0
ViewBeginExport k r = r ≡ begun_of (begun_by k)

pub record ViewAddExport (ts : List ℕ) (vs : List ℤ) (before : View) (r : Answer) (after : View) : Type 0 where
  pub answer : Checked
  pub is : r ≡ checked_of answer
  pub outcome : AddOutcome ts vs before answer after

pub record SumExport (ts : List ℕ) (vs : List ℤ) (us : List ℕ) (ws : List ℤ) (l m : List ℕ) (o : List ℤ) (p : List ℕ) (r : Answer) (o' : List ℤ) (p' : List ℕ) : Type 0 where
  pub answer : Result ℕ Refusal
  pub is : r ≡ kept_of answer
  pub outcome : SumOutcome ts vs us ws l m o p answer o' p'

pub record ExpandExport (codes : List ℕ) (o : List ℤ) (r : Answer) (o' : List ℤ) : Type 0 where
  pub answer : Result ℕ Refusal
  pub is : r ≡ kept_of answer
  pub outcome : ExpandOutcome codes o answer o'

pub record ExpandWithExport (codes : List ℕ) (table o : List ℤ) (r : Answer) (o' : List ℤ) : Type 0 where
  pub answer : Result ℕ Refusal
  pub is : r ≡ kept_of answer
  pub outcome : ExpandWithOutcome codes table o answer o'

pub record WriteExport (ts : List ℕ) (vs : List ℤ) (l : List ℕ) (t : Limits) (o : List ℕ) (place : ℕ) (r : Answer) (o' : List ℕ) : Type 0 where
  pub answer : Result ℕ Refusal
  pub is : r ≡ kept_of answer
  pub outcome : WriteOutcome ts vs l (limits_of t) o place answer o'

pub record ReadExport (b ts : List ℕ) (vs : List ℤ) (r : Content) (ts' : List ℕ) (vs' : List ℤ) : Type 0 where
  pub answer : Result R.Content Refusal
  pub is : r ≡ read_of answer
  pub outcome : ReadOutcome b ts vs answer ts' vs'

pub record SameExport (a b : List ℕ) (r : Verdict) : Type 0 where
  pub answer : Result Comparison Refusal
  pub is : r ≡ compared_of answer
  pub outcome : SameOutcome a b answer

pub record ReportExport (ts : List ℕ) (vs : List ℤ) (ls : List ℕ) (t : Limits) (o : List Summary) (r : Report) (o' : List Summary) : Type 0 where
  pub answer : Result Totals Refusal
  pub is : r ≡ report_of answer
  pub outcome : ReportOutcome ts vs ls (limits_of t) o answer o'

pub record PedestalsExport (a b : Run) (t : Tolerance) (k : ℕ) (m s : List ℕ) (r : Compared) (m' s' : List ℕ) : Type 0 where
  pub answer : Result Counts Cause
  pub is : r ≡ listed_of answer
  pub outcome : CompareOutcome a b (tolerance_of t) k m s answer m' s'

-- What the structs of the C interface stand for: the types of the public calls.
--   tolerance_of, limits_of the tolerance that a form gives; with the gap limit
--   entry_of, tolerances_of one of several tolerances; all of them
--   side_number   the number of a side
--   held_of, measured_of, judged_of, judged_greedy_of, kept_of, checked_of, begun_of, scanned_of, galloped_of, closest_of, read_of, compared_of, report_of, listed_of   an answer as numbers: 0 for success, or the refusal's number and value
-- Assumes nothing.
use Rattle.std.specs.Prelude.{cond, map, ℕ, eqb, replicate, Err, Ok, Result}
use Rattle.ratio.specs.Order.{over}
use Rattle.refusal.specs.Table.{number_of, returned_of, Checked}
use Rattle.tolerance.specs.declared.Tolerance as T
use Rattle.tolerance.specs.declared.Tolerance.TheVariants.{Ratio, Counts, Noise, Parts}
use Rattle.limits.specs.declared.Limits as L
use Rattle.tolerances.specs.declared.Entry.{Entry}
use Rattle.tolerances.specs.declared.Tolerances as S
use Rattle.trace.specs.declared.Side.{Side}
use Rattle.trace.specs.declared.Side.TheVariants.{On, Above, Below, Gap}
use Rattle.judging.specs.declared.Verdict as E
use Rattle.judging.specs.declared.Verdict.TheVariants.{Yes, No}
use Rattle.greedy.specs.declared.GreedyVerdict.{GreedyVerdict}
use Rattle.greedy.specs.declared.GreedyVerdict.TheVariants.{Yes as IsGreedy, Link as LinkFault, Stop as StopFault}
use Rattle.scans.specs.declared.Kept.{Kept}
use Rattle.live.specs.declared.View.{View}
use Rattle.live.specs.Live.{fresh}
use Rattle.commands.specs.declared.Content as R
use Rattle.reader.specs.declared.Comparison.{Comparison}
use Rattle.reader.specs.declared.Comparison.TheVariants.{Same, Different}
use Rattle.pedestals.specs.Compare.{cause_number, cause_value}
use Rattle.border.specs.declared.Tolerance.{Tolerance}
use Rattle.border.specs.declared.Limits.{Limits}
use Rattle.border.specs.declared.Tolerances.{Tolerances}
use Rattle.border.specs.declared.Held.{Held}
use Rattle.border.specs.declared.Measured.{Measured}
use Rattle.border.specs.declared.Judged.{Judged}
use Rattle.border.specs.declared.JudgedGreedy.{JudgedGreedy}
use Rattle.border.specs.declared.Verdict.{Verdict}
use Rattle.border.specs.declared.Answer.{Answer}
use Rattle.border.specs.declared.Begun.{Begun}
use Rattle.border.specs.declared.Scanned.{Scanned}
use Rattle.border.specs.declared.Closest.{Closest}
use Rattle.border.specs.declared.Content.{Content}
use Rattle.border.specs.declared.Galloped.{Galloped}
use Rattle.border.specs.declared.Report.{Report}
use Rattle.border.specs.declared.Compared.{Compared}
use Rattle.refusal.specs.declared.Refusal.{Refusal}
use Rattle.tolerance.specs.declared.Parts as P
use Rattle.measures.specs.declared.Measure.{Measure}
use Rattle.reduction.specs.declared.Galloped as G
use Rattle.closest.specs.declared.Found.{Found}
use Rattle.sheet.specs.declared.Totals.{Totals}
use Rattle.pedestals.specs.declared.Cause.{Cause}
use Rattle.listing.specs.declared.Counts as C

unfoldable pub tolerance_of : Tolerance → T.Tolerance
tolerance_of t =
    cond (eqb t.form 0) (Ratio t.p t.q)
    (cond (eqb t.form 1) (Counts t.x)
    (cond (eqb t.form 2) (Noise (record { noise = t.x; multiple = t.y }))
    (cond (eqb t.form 3) (Parts (record { up = over t.p t.q; down = over t.dp t.dq }))
    (Ratio 0 0))))

abbrev pub limits_of : Limits → L.Limits
limits_of t = record { tolerance = tolerance_of t.tolerance; gap = t.gap }

abbrev pub entry_of : Tolerance → Entry
entry_of t = record { tolerance = tolerance_of t }

abbrev pub tolerances_of : Tolerances → S.Tolerances
tolerances_of t = record { count = t.count; list = map entry_of t.list }

abbrev pub held_of : Result P.Parts Refusal → Held
held_of (Ok x) = record { number = 0; value = 0; p = x.up.p; q = x.up.q; dp = x.down.p; dq = x.down.q }
held_of (Err x) = record { number = number_of x; value = returned_of x; p = 0; q = 0; dp = 0; dq = 0 }

abbrev pub side_number : Side → ℕ
side_number On = 0
side_number Above = 1
side_number Below = 2
side_number Gap = 3

abbrev pub measured_of : Result Measure Refusal → Measured
measured_of (Ok m) = record { number = 0; side = side_number m.side; value = 0; p = m.error.p; q = m.error.q; sample = m.sample }
measured_of (Err x) = record { number = number_of x; side = 0; value = returned_of x; p = 0; q = 0; sample = 0 }

abbrev pub judged_of : Result E.Verdict Refusal → Judged
judged_of (Ok Yes) = record { number = 0; passed = 1; value = 0; p = 0; q = 0; sample = 0; side = 0 }
judged_of (Ok (No k m)) = record { number = 0; passed = 0; value = k; p = m.error.p; q = m.error.q; sample = m.sample; side = side_number m.side }
judged_of (Err x) = record { number = number_of x; passed = 0; value = returned_of x; p = 0; q = 0; sample = 0; side = 0 }

-- the fault's number: 1 for an invalid link, 2 for a stop
abbrev pub judged_greedy_of : Result GreedyVerdict Refusal → JudgedGreedy
judged_greedy_of (Ok IsGreedy) = record { number = 0; passed = 1; value = 0; fault = 0 }
judged_greedy_of (Ok (LinkFault k)) = record { number = 0; passed = 0; value = k; fault = 1 }
judged_greedy_of (Ok (StopFault k)) = record { number = 0; passed = 0; value = k; fault = 2 }
judged_greedy_of (Err x) = record { number = number_of x; passed = 0; value = returned_of x; fault = 0 }

abbrev pub kept_of : Result ℕ Refusal → Answer
kept_of (Ok n) = record { number = 0; value = n }
kept_of (Err x) = record { number = number_of x; value = returned_of x }

abbrev pub checked_of : Checked → Answer
checked_of (Ok _) = record { number = 0; value = 0 }
checked_of (Err x) = record { number = number_of x; value = returned_of x }

abbrev pub begun_of : Result View Refusal → Begun
begun_of (Ok v) = record { number = 0; value = 0; view = v }
begun_of (Err x) = record { number = number_of x; value = returned_of x; view = fresh 0 0 }

-- zeros beside a refusal
abbrev pub scanned_of : Result Kept Refusal → Scanned
scanned_of (Ok k) = record { number = 0; value = 0; kept = k.counts }
scanned_of (Err x) = record { number = number_of x; value = returned_of x; kept = replicate 16 0 }

abbrev pub galloped_of : Result G.Galloped Refusal → Galloped
galloped_of (Ok g) = record { number = 0; value = g.kept; probes = g.probes }
galloped_of (Err x) = record { number = number_of x; value = returned_of x; probes = 0 }

abbrev pub closest_of : Result Found Refusal → Closest
closest_of (Ok f) = record { number = 0; value = f.kept; p = f.error.p; q = f.error.q }
closest_of (Err x) = record { number = number_of x; value = returned_of x; p = 0; q = 0 }

abbrev pub read_of : Result R.Content Refusal → Content
read_of (Ok x) = record { number = 0; value = x.samples; p = x.tolerance.up.p; q = x.tolerance.up.q; dp = x.tolerance.down.p; dq = x.tolerance.down.q }
read_of (Err x) = record { number = number_of x; value = returned_of x; p = 0; q = 0; dp = 0; dq = 0 }

abbrev pub compared_of : Result Comparison Refusal → Verdict
compared_of (Ok Same) = record { number = 0; passed = 1; value = 0 }
compared_of (Ok Different) = record { number = 0; passed = 0; value = 0 }
compared_of (Err x) = record { number = number_of x; passed = 0; value = returned_of x }

abbrev pub report_of : Result Totals Refusal → Report
report_of (Ok k) = record { number = 0; value = 0; samples = k.samples; kept = k.kept; p = k.p; q = k.q }
report_of (Err x) = record { number = number_of x; value = returned_of x; samples = 0; kept = 0; p = 0; q = 0 }

abbrev pub listed_of : Result C.Counts Cause → Compared
listed_of (Ok n) = record { number = 0; value = 0; moved = n.moved; noisy = n.noisy }
listed_of (Err x) = record { number = cause_number x; value = cause_value x; moved = 0; noisy = 0 }

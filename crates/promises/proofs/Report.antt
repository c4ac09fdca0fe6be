-- What a report says of each channel, from its contract alone: the row of channel i is that of the channel's own samples under the limits.
--   report_row, report_rest   each row, and that the entries after the rows stay
--   report_own                a channel has the same row in any two crates that hold the same samples for it
--   row_walk, row_declined    a row is what walk answers for the channel's samples, and the error and sample of the list that it writes
--   row_sample                where that list has a link, the sample is that of the measure of its first link with the row's error
--   report_within             no row's error is above the larger part of the tolerance
--   report_largest            the largest error is at least each row's
--   largest_within            it is at most that part
--   largest_lowest            it is in lowest terms
-- Assumes nothing.
use Rattle.std.specs.Prelude.{Err, Ok}
use mathlib.Core.Path.{◌≡◌, refl, sym, ◌∙◌, ap, subst}
use mathlib.Core.List.{List}
use mathlib.Core.Bool.{false}
use Prim.Native.Nat.{ℕ, ◌-◌, ◌≤◌, ◌<◌}
use native.Mathlib.Omega.{arith}
use lib.IntN.{ℤ}
use lib.ListN.{length, take, drop, get_or, get_or-append}
use lib.Seq.{drop-append_seam}
use lib.Dec.{leb}
use borrow.Author.Tests.{le-leb, lt-leb}
use Rattle.ratio.specs.Gcd.{gcd, euclid}
use Rattle.ratio.specs.Order.{AtMost}
use Rattle.refusal.specs.declared.Refusal.{Refusal}
use Rattle.refusal.specs.Table.{◌then_check◌, Checked}
use Rattle.refusal.proofs.TableLaws.{then_fine}
use Rattle.limits.specs.declared.Limits.{Limits}
use Rattle.trace.specs.Trace.{Trace, trace_rows}
use Rattle.trace.specs.Link.{larger}
use Rattle.trace.proofs.TraceLaws.{rows_trace}
use Rattle.proposed.specs.Proposed.{error_at, measure_at, first_worst, list_sample, list_stray}
use Rattle.proposed.proofs.WorstLink.{first_worst_lem}
use Rattle.channels.specs.Channels.{of_channel, crate_row}
use Rattle.sheet.specs.declared.Summary.{Summary}
use Rattle.sheet.specs.declared.Totals.{Totals}
use Rattle.sheet.specs.Report.{kept_row, declined_row, row_of, row_error, largest_error, zeros}
use Rattle.sheet.proofs.RowLaws.{rows_length, rows_own, row_within, row_positive, row_lowest, largest_one, largest_least}
use Rattle.sheet.proofs.ReportLaws.{channel_fine, channel_refused, walked_row_lem, walked_kept, walked_length}
use Rattle.limits.specs.Prepare.{limit_rows, common_rows, criterion_of, output_rows}
use Rattle.limits.proofs.PrepareLaws.{limits_held}
use Rattle.engine.specs.Reduce.{WalkOutcome}
use Rattle.reporting.specs.Report.{crate_rows, report_rows, ReportOutcome}

-- ---- the rows

module _ {ts : List ℕ} {vs : List ℤ} {ls : List ℕ} {t : Limits} {o o' : List Summary} {k : Totals} (r : ReportOutcome ts vs ls t o (Ok k) o') where
  count : length (report_rows ts vs ls t) ≡ length ls
  count = rows_length (criterion_of t) ts vs 0 ls

  pub report_row : (i : ℕ) → i < length ls → get_or o' i zeros ≡ row_of (criterion_of t) (of_channel ls i ts) (of_channel ls i vs)
  report_row i h = ap (λ (l : List Summary). get_or l i zeros) r.content ∙ get_or-append (report_rows ts vs ls t) _ zeros i (omega (arith, count, h)) ∙ rows_own (criterion_of t) ts vs ls i h

  pub report_rest : drop (length ls) o' ≡ drop (length ls) o
  report_rest = subst (λ (n : ℕ). drop n o' ≡ drop n o) count (ap (drop (length (report_rows ts vs ls t))) r.content ∙ drop-append_seam (report_rows ts vs ls t) _)

  -- a row's error, which is the plain distance, is at most the larger part
  own_within : (us : List ℕ) (ws : List ℤ) → AtMost (row_error (row_of (criterion_of t) us ws)) (larger (criterion_of t))
  unfolding crate_rows
  own_within us ws =
      let held = limits_held t (then_fine (limit_rows t) _ (then_fine (crate_row ts vs ls) _ r.rows).1).0 in
      row_within (criterion_of t) us ws held.up.positive held.down.positive

  pub report_within : (i : ℕ) → i < length ls → AtMost (row_error (get_or o' i zeros)) (larger (criterion_of t))
  report_within i h = rw (report_row i h) (own_within (of_channel ls i ts) (of_channel ls i vs))

  -- what holds of the row of any trace under the limits holds of each row
  each_row : (P : Summary → Type 0) → ((us : List ℕ) (ws : List ℤ) → P (row_of (criterion_of t) us ws)) → (i : ℕ) → i < length (report_rows ts vs ls t) → P (get_or (report_rows ts vs ls t) i zeros)
  each_row P h i u = rw (rows_own (criterion_of t) ts vs ls i (omega (arith, count, u))) (h _ _)

  pub report_largest : (i : ℕ) → i < length ls → AtMost (row_error (get_or o' i zeros)) (largest_error k)
  report_largest i h =
      rw (report_row i h, ← rows_own (criterion_of t) ts vs ls i h, r.totals)
      (largest_least (report_rows ts vs ls t) (each_row (λ x. 0 < x.q) (row_positive (criterion_of t))) i (omega (arith, count, h)))

  pub largest_within : AtMost (largest_error k) (larger (criterion_of t))
  largest_within = rw r.totals
      (largest_one (λ x. AtMost x (larger (criterion_of t))) (report_rows ts vs ls t) (omega arith) (each_row (λ x. AtMost (row_error x) (larger (criterion_of t))) own_within))

  pub largest_lowest : gcd k.p k.q ≡ 1
  unfolding gcd euclid
  largest_lowest = rw r.totals
      (largest_one (λ x. gcd x.p x.q ≡ 1) (report_rows ts vs ls t) refl (each_row (λ x. gcd x.p x.q ≡ 1) (row_lowest (criterion_of t))))

-- two crates that hold the same samples for a channel, wherever it stands in each
pub report_own : {ts us : List ℕ} {vs ws : List ℤ} {ls ms : List ℕ} {t : Limits} {o o' e e' : List Summary} {k m : Totals}
    → ReportOutcome ts vs ls t o (Ok k) o' → ReportOutcome us ws ms t e (Ok m) e' → (i j : ℕ) → i < length ls → j < length ms
    → of_channel ls i ts ≡ of_channel ms j us → of_channel ls i vs ≡ of_channel ms j ws → get_or o' i zeros ≡ get_or e' j zeros
report_own r s i j h u a b = rw (report_row r i h, report_row s j u, a, b)

-- ---- a row and walk

module _ (ts : List ℕ) (vs : List ℤ) (t : Limits) {o o' : List ℕ} where
  walk_fine : {n : ℕ} → WalkOutcome ts vs t o (Ok n) o' → trace_rows 4096 ts vs ≡ Ok tt
  unfolding output_rows common_rows
  walk_fine w = (then_fine (trace_rows 4096 ts vs) _ (then_fine (common_rows ts vs t) _ w.rows).0).0

  walk_trace : {n : ℕ} → WalkOutcome ts vs t o (Ok n) o' → Trace ts vs
  walk_trace w = (rows_trace 4096 ts vs (omega arith) (walk_fine w)).0

  pub row_walk : {n : ℕ} → WalkOutcome ts vs t o (Ok n) o' → row_of (criterion_of t) ts vs ≡ kept_row (length ts) n (list_stray ts vs (take n o'))
  row_walk w = sym (channel_fine (criterion_of t) ts vs (walk_fine w) (walked_row_lem ts vs (criterion_of t) w.wrote refl))

  -- the first link with the row's error is there, and the row's sample is that of its measure
  pub row_sample : {n : ℕ} → WalkOutcome ts vs t o (Ok n) o' → 1 < n → let l = take n o' in let k = first_worst ts vs l in
      (k < n - 1) × (error_at ts vs l k ≡ row_error (row_of (criterion_of t) ts vs)) × ((row_of (criterion_of t) ts vs).sample ≡ (measure_at ts vs l k).sample)
  unfolding list_sample
  row_sample {n} w some =
      let count = walked_length ts vs (criterion_of t) w.wrote in
      let kept = walked_kept ts vs (criterion_of t) w.wrote in
      let f = first_worst_lem (walk_trace w) kept (omega arith) in
      let long : leb (length (take n o')) 1 ≡ false = lt-leb (length (take n o')) 1 (omega arith) in
      (omega (arith, f.0), rw (row_walk w) f.1, rw (row_walk w, long))

  -- walk's own refusal, where the limits are allowed and the output long enough
  pub row_declined : {x : Refusal} → WalkOutcome ts vs t o (Err x) o' → limit_rows t ≡ Ok tt → length ts ≤ length o → row_of (criterion_of t) ts vs ≡ declined_row x
  unfolding output_rows common_rows
  row_declined {x} w fine room =
      sym (channel_refused (criterion_of t) ts vs (only (trace_rows 4096 ts vs) (rw (fine, le-leb (length ts) (length o) room) at w.0)) refl)
    where
      only : (a : Checked) → ◌≡◌ {A = Checked} ((a then_check Ok tt) then_check Ok tt) (Err x) → a ≡ Err x
      only (Ok _) e = e
      only (Err y) e = e

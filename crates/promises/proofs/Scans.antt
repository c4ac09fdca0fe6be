-- Scans, from the contracts, and one law of walk's lists:
--   scan_separate   part a of a scan's list, with its kept number, is what a separate call of `walk` at tolerance a answers and writes
--   scan_up_to      a scan of the trace up to sample j writes, at each tolerance, the samples that walk has kept of the whole trace there, closed with j
--   walk_prefixes   walk's list of the trace up to sample j is the samples of its list that lie before j, and j: one list answers for all shorter traces
--   one_rows        a scan at one tolerance is refused exactly as `walk` is, with the same cause
-- Assumes nothing.
use Rattle.std.specs.Prelude.{Err, None, Ok, Option, Result, Some, ℕ}
use mathlib.Core.Path.{◌≡◌, refl, sym, ap, ◌∙◌}
use mathlib.Core.Logic.{⊎_elim}
use mathlib.Core.Bool.{Bool}
use mathlib.Core.List.{List, [], ◌∷◌, ◌++◌, append-nil}
use Prim.Native.Nat.{ℕ, zero, suc, ◌+◌, ◌-◌, ◌*◌, ◌≤◌, ◌<◌}
use native.Mathlib.Omega.{arith}
use lib.Dec.{ltb}
use lib.IntN.{ℤ}
use lib.ListN.{length, get_or, take}
use borrow.Author.Tests.{le-ltb, lt-ltb}
use Rattle.lists.specs.First.{first, first_of}
use Rattle.lists.specs.Overwrite.{overwrite}
use Rattle.lists.proofs.Tests.{by_test}
use Rattle.refusal.specs.Table.{room_row, ◌then_check◌}
use Rattle.refusal.proofs.TableLaws.{then_assoc, refused_fine}
use Rattle.tolerance.specs.Meaning.{meaning}
use Rattle.kept.specs.Kept.{StepsValid}
use Rattle.kept.specs.Walk.{walk_of}
use Rattle.trace.specs.declared.Criterion.{Criterion}
use Rattle.trace.specs.Trace.{trace_rows}
use Rattle.trace.specs.Link.{valid}
use Rattle.trace.proofs.Validity.{steps_valid}
use Rattle.reduction.specs.Walking.{walk_list}
use Rattle.limits.specs.Prepare.{limit_rows, common_rows, output_rows}
use Rattle.tolerances.specs.declared.Entry.{Entry}
use Rattle.tolerances.specs.declared.Tolerances.{Tolerances}
use Rattle.tolerances.specs.Tolerances.{limits_at, bad_at, several_rows, scan_rows}
use Rattle.scans.specs.Answers.{part, kept_before}
use Rattle.scans.proofs.WalkedLaws.{kept_more, kept_closes}
use Rattle.scans.proofs.StreamLaws.{kept_streams}
use Rattle.engine.specs.Reduce.{ok_of, WalkOutcome}
use Rattle.engine.specs.Scan.{ScanKept}
use Rattle.promises.specs.Scans.{samples_below}
use Rattle.tolerance.specs.declared.Parts.{Parts}
use Rattle.refusal.specs.declared.Refusal.{Refusal}

module _ {ts : List ℕ} {vs : List ℤ} {t : Tolerances} {g : ℕ} {o counts o' : List ℕ} (s : ScanKept ts vs t g o counts o') (a : ℕ) (lt : a < t.count) where
  -- the separate call is lent the part as it was
  pub scan_separate : (r : Result ℕ Refusal) (p : List ℕ) → WalkOutcome ts vs (limits_at t g a) (part (length ts) a o) r p → (r ≡ Ok (get_or counts a 0)) × (p ≡ part (length ts) a o')
  scan_separate (Ok n) p w = (ap Ok (w.wrote.count ∙ sym (s.each a lt).wrote.count), w.wrote.content ∙ sym (s.each a lt).wrote.content)
  scan_separate (Err x) p w = refused_fine (sym w.0 ∙ (s.each a lt).rows)

  -- j is a sample of the trace, and its first samples up to j are scanned by another call
  pub scan_up_to : {j : ℕ} {q counts₂ q' : List ℕ} → j < length ts → ScanKept (take (suc j) ts) (take (suc j) vs) t g q counts₂ q'
      → part (length (take (suc j) ts)) a q' ≡ overwrite (kept_before (ok_of ts vs (limits_at t g a)) j ++ (j ∷ [])) (part (length (take (suc j) ts)) a q)
  scan_up_to {j} inside u = rw (s.streams a lt j inside) (u.each a lt).wrote.content

-- ---- shorter traces

below_append : (j : ℕ) (l m : List ℕ) → samples_below j (l ++ m) ≡ samples_below j l ++ samples_below j m
unfolding samples_below
below_append j [] m = refl
below_append j (s ∷ l) m = by_test (ltb s j) (λ q. rw (q, below_append j l m)) (λ q. rw (q, below_append j l m))

below_one : (j s : ℕ) → j ≤ s → samples_below j (s ∷ []) ≡ []
unfolding samples_below
below_one j s h = rw (le-ltb s j h)

below_own : (j s : ℕ) → s < j → samples_below j (s ∷ []) ≡ s ∷ []
unfolding samples_below
below_own j s h = rw (lt-ltb s j h)

module _ (ok : ℕ → ℕ → Bool) (step : StepsValid ok) (j : ℕ) where
  none_below : samples_below j (kept_before ok 0) ≡ kept_before ok 0
  unfolding kept_before samples_below
  none_below = refl

  kept_below : (k : ℕ) → k ≤ j → samples_below j (kept_before ok k) ≡ kept_before ok k
  kept_below zero h = none_below
  kept_below (suc k) h = ⊎_elim
      (λ e. rw e (kept_below k (omega arith)))
      (λ e. rw (e, below_append j (kept_before ok k) (k ∷ []), kept_below k (omega arith), below_own j k h))
      (kept_more ok step k)

  kept_beyond : (n last : ℕ) → last ≡ j + n → samples_below j (kept_before ok last) ≡ kept_before ok j
  kept_beyond zero last h = let e : last ≡ j = omega arith in rw e (kept_below j (omega arith))
  kept_beyond (suc n) (suc k) h =
      let b = kept_beyond n k (omega arith) in
      ⊎_elim
      (λ e. ap (samples_below j) e ∙ b)
      (λ e. ap (samples_below j) e ∙ below_append j (kept_before ok k) (k ∷ []) ∙ rw (b, below_one j k (omega arith), append-nil))
      (kept_more ok step k)
  kept_beyond (suc n) zero h = absurd (omega arith)

  list_below : (last : ℕ) → j ≤ last → samples_below j (walk_of ok last) ≡ kept_before ok j
  list_below last h =
      ap (samples_below j) (kept_closes ok step last) ∙ below_append j (kept_before ok last) (last ∷ [])
      ∙ rw (kept_beyond (last - j) last (omega arith), below_one j last h, append-nil)

pub walk_prefixes : (ts : List ℕ) (vs : List ℤ) (c : Criterion) (j : ℕ) → j < length ts → walk_list (take (suc j) ts) (take (suc j) vs) c ≡ samples_below j (walk_list ts vs c) ++ (j ∷ [])
walk_prefixes ts vs c j inside = rw (list_below (valid ts vs c) (steps_valid ts vs c) j (length ts - 1) (omega arith)) (sym (kept_streams ts vs c j inside))

-- ---- one tolerance

module _ (ts : List ℕ) (vs : List ℤ) (e : Entry) (l : List Entry) (g room : ℕ) where
  abbrev one : Tolerances
  one = record { count = 1; list = e ∷ l }

  each_rows : (m : Option Parts) → meaning e.tolerance ≡ m → several_rows one g (length ts) room ≡ limit_rows (limits_at one g 0) then_check room_row (length ts) room
  unfolding several_rows bad_at first first_of
  each_rows (Some x) q = let n : 1 * length ts ≡ length ts = omega arith in rw (q, n)
  each_rows None q = rw q

  pub one_rows : scan_rows ts vs one g room ≡ output_rows ts vs (limits_at one g 0) room
  unfolding scan_rows output_rows common_rows
  one_rows = rw (each_rows (meaning e.tolerance) refl) (sym (then_assoc (trace_rows 4096 ts vs) (limit_rows (limits_at one g 0)) (room_row (length ts) room)))

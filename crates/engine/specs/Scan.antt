-- The outcome of `scan` (document 02, "Sixteen tolerances in one reading").
--   ScanKept      what holds where walk's lists were kept
--   ScanOutcome   the contract, by cases on the answer
-- A refused call leaves the lent list as it was. Otherwise each of its parts, as long as the trace, becomes what a separate call of `walk` at that tolerance
-- makes of it, and what lies behind the parts stays. Assumes nothing.
use Rattle.std.specs.Prelude.{◌≡◌, List, [], ◌∷◌, ◌++◌, ℕ, suc, ◌*◌, ◌≤◌, ◌<◌, ℤ, length, get_or, take, drop, Err, Ok, Result}
use Rattle.limits.specs.Prepare.{criterion_of}
use Rattle.tolerances.specs.declared.Tolerances.{Tolerances}
use Rattle.tolerances.specs.Tolerances.{limits_at, scan_rows}
use Rattle.reduction.specs.Walking.{walk_list}
use Rattle.scans.specs.Answers.{part, kept_before}
use Rattle.scans.specs.declared.Kept.{Kept}
use Rattle.engine.specs.Reduce.{ok_of, WalkKept}
use Rattle.refusal.specs.declared.Refusal.{Refusal}

-- the lists at the tolerances t, under the gap limit g, keep so many samples, and the lent list o became o'
pub record ScanKept (ts : List ℕ) (vs : List ℤ) (t : Tolerances) (g : ℕ) (o counts o' : List ℕ) : Type 0 where
  pub rows : scan_rows ts vs t g (length o) ≡ Ok tt
  -- each answer is that of the separate call, with part a lent to it
  pub each : (a : ℕ) → a < t.count → WalkKept ts vs (limits_at t g a) (part (length ts) a o) (get_or counts a 0) (part (length ts) a o')
  pub none : (a : ℕ) → t.count ≤ a → get_or counts a 0 ≡ 0
  pub beyond : drop (t.count * length ts) o' ≡ drop (t.count * length ts) o
  -- after each sample j, the samples kept so far closed with j are the separate call's list of the trace up to there
  pub streams : (a : ℕ) → a < t.count → (j : ℕ) → j < length ts → kept_before (ok_of ts vs (limits_at t g a)) j ++ (j ∷ []) ≡ walk_list (take (suc j) ts) (take (suc j) vs) (criterion_of (limits_at t g a))

abbrev pub ScanOutcome : List ℕ → List ℤ → Tolerances → ℕ → List ℕ → Result Kept Refusal → List ℕ → Type 0
ScanOutcome ts vs t g o (Ok k) o' = ScanKept ts vs t g o k.counts o'
ScanOutcome ts vs t g o (Err x) o' = (scan_rows ts vs t g (length o) ≡ Err x) × (o' ≡ o)

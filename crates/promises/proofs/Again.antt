-- Reducing a reduced trace again adds the tolerances, the parts above and the parts below each by themselves, from the contracts alone: whichever calls
-- kept, or judge passed, the list at t of the trace and the list at u of the samples that the first one keeps.
-- Assumes nothing.
use Rattle.std.specs.Prelude.{Ok}
use mathlib.Core.Path.{◌≡◌}
use mathlib.Core.List.{List}
use Prim.Native.Nat.{ℕ}
use lib.IntN.{ℤ, pos}
use lib.ListN.{take}
use Rattle.lists.specs.Select.{select}
use Rattle.limits.specs.declared.Limits.{Limits}
use Rattle.trace.specs.declared.Criterion.{Criterion}
use Rattle.trace.proofs.TraceLaws.{trace_rows_lem}
use Rattle.trace.proofs.SelectedTrace.{selected_trace}
use Rattle.heights.specs.Budget.{StandsFor}
use Rattle.heights.specs.Again.{ReducedAgain}
use Rattle.heights.proofs.AgainLaws.{reduced_again}
use Rattle.limits.specs.Prepare.{limit_rows, common_rows, criterion_of}
use Rattle.engine.specs.Reduce.{WalkOutcome}
use Rattle.promises.proofs.Standing.{walk_stands}

-- the samples that a list keeps pass the checks 1 to 4 and 15 at all allowed limits
pub again_accepted : {ts : List ℕ} {vs : List ℤ} {c : Criterion} {l : List ℕ} (u : Limits) → StandsFor ts vs c l → limit_rows u ≡ Ok tt → common_rows (select 0 ts l) (select (pos 0) vs l) u ≡ Ok tt
unfolding common_rows
again_accepted {l = l} u s row = let t = selected_trace s.trace s.kept in rw (trace_rows_lem 4096 _ _ t t.few) row

-- walk after walk; so, with `reduced_again`, each call after each
pub walk_again : (ts : List ℕ) (vs : List ℤ) (t u : Limits) {o o' p p' : List ℕ} {n m : ℕ} → WalkOutcome ts vs t o (Ok n) o'
    → WalkOutcome (select 0 ts (take n o')) (select (pos 0) vs (take n o')) u p (Ok m) p' → ReducedAgain ts vs (criterion_of t) (criterion_of u) (take n o') (take m p')
walk_again ts vs t u first second = reduced_again (walk_stands ts vs t first) (walk_stands _ _ u second)

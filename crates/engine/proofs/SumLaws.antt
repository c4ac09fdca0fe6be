-- Laws of `sum`: what holds of traces and lists that none of its rows refuses.
-- Assumes nothing.
use Rattle.std.specs.Prelude.{Ok}
use mathlib.Core.Path.{◌≡◌, sym, subst}
use mathlib.Core.List.{List}
use Prim.Native.Nat.{ℕ}
use lib.IntN.{ℤ}
use lib.ListN.{length}
use Rattle.lists.specs.Overwrite.{overwrite, Wrote}
use Rattle.summed.specs.Sum.{sum_rows, sums_of, joined_of, JoinedWithin}
use Rattle.summed.proofs.JoinLaws.{joined_kept}
use Rattle.summed.proofs.SumLaws.{sums_trace, joined_within}
use Rattle.summed.proofs.RowLaws.{rows_addable}
use Rattle.engine.specs.Sum.{Summed}

-- the contract, from what was written
pub sum_outcome : (ts : List ℕ) (vs : List ℤ) (us : List ℕ) (ws : List ℤ) (l m : List ℕ) (o : List ℤ) (p : List ℕ) {n : ℕ} {o' : List ℤ} {p' : List ℕ} → sum_rows ts vs us ws l m (length o) (length p) ≡ Ok tt → o' ≡ overwrite (sums_of vs ws) o → Wrote (joined_of (length ts) l m) p n p' → Summed ts vs us ws l m o p n o' p'
sum_outcome ts vs us ws l m o p rows sums joined =
    let a = rows_addable ts vs us ws l m (length o) (length p) rows in
    let j = a.joinable in
    record {
      rows = rows;
      sums = sums;
      joined = joined;
      trace = sums_trace ws a.trace a.summable.same;
      kept = joined_kept j.some j.first j.second;
      within = subst (λ (x : List ℕ). JoinedWithin ts vs x ws l m) (sym a.ticks) (joined_within ws a.trace a.summable.same j.first j.second);
    }

-- Demand 3, whole: how near the kept lists are to the shortest and to the closest. For every trace, unless the call is refused:
--   walk_near      walk's list is a kept list within the limits, and no kept list within parts whose sum is at most each of the tolerance's that obeys the gap
--                  limit has fewer samples
--   gallop_near    so is gallop's
--   least_near     least's list obeys the gap limit and has at most m samples and exactly the error returned, and no such list has a lesser one
-- Each follows from the call's contract alone, and speaks of what the call returned: the kept number, the error, the entries written.
-- Assumes nothing.
use Rattle.std.specs.Prelude.{None, Ok, Option, Some}
use mathlib.Core.Path.{◌≡◌, refl}
use mathlib.Core.List.{List}
use Prim.Native.Nat.{ℕ}
use native.Mathlib.Omega.{arith}
use lib.IntN.{ℤ}
use lib.ListN.{length, take}
use Rattle.lists.specs.Overwrite.{Wrote}
use Rattle.lists.proofs.OverwriteLaws.{wrote_read}
use Rattle.refusal.proofs.TableLaws.{then_fine}
use Rattle.tolerance.specs.Meaning.{meaning}
use Rattle.limits.specs.declared.Limits.{Limits}
use Rattle.kept.proofs.KeptLaws.{each_map}
use Rattle.trace.specs.Link.{half, smaller, limited}
use Rattle.trace.proofs.Validity.{valid_obeys}
use Rattle.trace.proofs.Errors.{within_error, within_larger}
use Rattle.trace.proofs.Half.{half_no_longer}
use Rattle.shortest.specs.Shortest.{minimum_list}
use Rattle.reduction.specs.declared.Galloped.{Galloped}
use Rattle.closest.specs.declared.Found.{Found}
use Rattle.limits.specs.Prepare.{common_rows, criterion_in, criterion_of, output_rows}
use Rattle.engine.specs.Reduce.{GreedyList, WalkOutcome, GallopOutcome}
use Rattle.limits.proofs.PrepareLaws.{common_trace}
use Rattle.engine.proofs.WriteLaws.{common_held}
use Rattle.engine.specs.Least.{LeastOutcome}
use Rattle.promises.specs.Nearness.{NearShortest, Nearest}
use Rattle.tolerance.specs.declared.Parts.{Parts}

gap_of : (t : Limits) → (criterion_of t).gap ≡ t.gap
unfolding criterion_of
gap_of t = go (meaning t.tolerance)
  where
    go : (m : Option Parts) → (criterion_in t.gap m).gap ≡ t.gap
    go (Some x) = refl
    go None = refl

module _ (ts : List ℕ) (vs : List ℤ) where
  greedy_near : (t : Limits) {l o o' : List ℕ} {n : ℕ} → output_rows ts vs t (length o) ≡ Ok tt → Wrote l o n o' → GreedyList ts vs t l → NearShortest ts vs t n (take n o')
  unfolding output_rows
  greedy_near t {l} rows w g =
      let common = (then_fine (common_rows ts vs t) _ rows).0 in
      let trace = common_trace ts vs t common in
      let held = common_held ts vs t common in
      let c = criterion_of t in
      rw (wrote_read w) (record {
        kept = g.kept;
        count = omega (arith, w.count);
        within = g.within;
        error = within_larger trace c held.up.positive held.down.positive l g.kept g.within;
        size = λ a b s h k v. omega (arith, w.count, g.size a b s h k v);
        shortest = λ h k o e. omega (
          arith,
          w.count,
          half_no_longer ts vs c held.up.positive held.down.positive g.size h k ((within_error trace c.gap h k (half (smaller c))).1 (rw (gap_of t) o, e)),
        );
      })

  pub walk_near : (t : Limits) {o o' : List ℕ} {n : ℕ} → WalkOutcome ts vs t o (Ok n) o' → NearShortest ts vs t n (take n o')
  walk_near t w = greedy_near t w.rows w.wrote w.list

  pub gallop_near : (t : Limits) {o o' : List ℕ} {g : Galloped} → GallopOutcome ts vs t o (Ok g) o' → NearShortest ts vs t g.kept (take g.kept o')
  gallop_near t w = greedy_near t w.rows w.wrote w.list

  pub least_near : (g m : ℕ) {o o' : List ℕ} {f : Found} → LeastOutcome ts vs g m o (Ok f) o' → Nearest ts vs g m f (take f.kept o')
  least_near g m {f} w =
      let l = w.list in
      rw (wrote_read w.wrote) (record {
        kept = l.minimum.kept;
        obeying = each_map (λ i j v. valid_obeys ts vs (limited g f.error) i j v) (minimum_list ts vs (limited g f.error)) l.minimum.valid;
        count = omega (arith, w.wrote.count);
        few = l.allowed;
        error = l.error;
        lowest = l.lowest;
        least = l.least;
      })

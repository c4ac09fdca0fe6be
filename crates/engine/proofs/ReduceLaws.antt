-- Laws of the reductions: the lists of walk and gallop are greedy, and demand 3 holds of them; gallop's probes are those of its stops; minimum's
-- list is the shortest.
-- Assumes nothing.
use mathlib.Core.Path.{◌≡◌, ◌∙◌, subst}
use mathlib.Core.List.{List}
use Prim.Native.Nat.{ℕ, ◌-◌}
use lib.IntN.{ℤ}
use lib.ListN.{length}
use Rattle.lists.specs.Overwrite.{Wrote}
use Rattle.lists.proofs.OverwriteLaws.{wrote_read}
use Rattle.kept.specs.Kept.{Greedy}
use Rattle.limits.specs.declared.Limits.{Limits}
use Rattle.trace.specs.declared.Criterion.{Criterion}
use Rattle.trace.specs.Trace.{Trace}
use Rattle.trace.proofs.Half.{greedy_short}
use Rattle.reduction.specs.Walking.{walk_list}
use Rattle.reduction.specs.Galloping.{gallop_list, gallop_total}
use Rattle.reduction.proofs.ReductionLaws.{walk_list_greedy, gallop_list_greedy, gallop_stop_probes, gallop_total_lem}
use Rattle.shortest.specs.Shortest.{minimum_list}
use Rattle.shortest.proofs.ShortestLaws.{minimum_list_lem}
use Rattle.limits.specs.Prepare.{criterion_of, OutputReady}
use Rattle.engine.specs.Reduce.{ok_of, GreedyList, WalkKept, GallopKept}
use Rattle.engine.specs.Minimum.{MinimumKept}

-- any greedy list: kept, of valid links, with maximal stops
pub greedy_list : {ts : List ℕ} {vs : List ℤ} (t : Limits) {l : List ℕ} → Trace ts vs → Greedy (ok_of ts vs t) (length ts - 1) l → GreedyList ts vs t l
greedy_list {ts} {vs} t tr g = record { kept = g.kept; within = g.valid; maximal = g.maximal; size = greedy_short ts vs (criterion_of t) tr g }

-- what holds at the criterion of a ready call holds at the tolerance's
at_tolerance : {ts : List ℕ} {vs : List ℤ} {t : Limits} {room : ℕ} {c : Criterion} → OutputReady ts vs t room c → (P : Criterion → Type 0) → P c → P (criterion_of t)
at_tolerance r P h = subst P r.ready.is h

-- what a kernel wrote at the criterion c, where the checks pass
module _ {ts : List ℕ} {vs : List ℤ} {t : Limits} {o o' : List ℕ} {n : ℕ} {c : Criterion} (r : OutputReady ts vs t (length o) c) where
  pub walk_kept : Wrote (walk_list ts vs c) o n o' → WalkKept ts vs t o n o'
  walk_kept w = record {
    rows = r.rows;
    wrote = at_tolerance r (λ x. Wrote (walk_list ts vs x) o n o') w;
    list = greedy_list t r.ready.trace (walk_list_greedy ts vs (criterion_of t));
  }

  pub gallop_kept : {p : ℕ} → Wrote (gallop_list ts vs c) o n o' → p ≡ gallop_total ts vs c → GallopKept ts vs t o n p o'
  gallop_kept {p} w e =
      let wrote = at_tolerance r (λ x. Wrote (gallop_list ts vs x) o n o') w in
      let probes = at_tolerance r (λ x. p ≡ gallop_total ts vs x) e in
      record {
        rows = r.rows;
        wrote = wrote;
        list = greedy_list t r.ready.trace (gallop_list_greedy ts vs (criterion_of t));
        probes = probes;
        exact = rw (wrote_read wrote) (gallop_stop_probes ts vs (criterion_of t) r.ready.trace);
        total = rw (wrote_read wrote) (probes ∙ gallop_total_lem ts vs (criterion_of t) r.ready.trace);
      }

  pub minimum_kept : Wrote (minimum_list ts vs c) o n o' → MinimumKept ts vs t o n o'
  minimum_kept w = record {
    rows = r.rows;
    wrote = at_tolerance r (λ x. Wrote (minimum_list ts vs x) o n o') w;
    list = minimum_list_lem ts vs (criterion_of t);
  }

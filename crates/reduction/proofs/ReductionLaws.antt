-- What holds of the lists of walk and gallop on a trace: each is a kept list of valid links with maximal stops (what that says of its size is in
-- trace: proofs/Half, `greedy_short`). Gallop's probe total, from the lengths of its stops. `Ending` is an invariant of both loops.
-- Assumes nothing.
use mathlib.Core.Path.{◌≡◌}
use mathlib.Core.List.{List}
use Prim.Native.Nat.{ℕ, ◌+◌, ◌-◌, ◌≤◌, ◌<◌}
use native.Mathlib.Omega.{arith}
use lib.IntN.{ℤ}
use lib.ListN.{length}
use Rattle.kept.specs.Kept.{Greedy, EachLink}
use Rattle.kept.specs.Gallop.{gallop_search, stop_probes, list_probes}
use Rattle.kept.proofs.WalkLaws.{walk_greedy}
use Rattle.kept.proofs.GallopLaws.{gallop_greedy, stop_probes_lem, gallop_probes_lem}
use Rattle.trace.specs.declared.Criterion.{Criterion}
use Rattle.trace.specs.Trace.{Trace}
use Rattle.trace.specs.Link.{valid, links_end}
use Rattle.trace.proofs.Holes.{links_end_inside, end_same}
use Rattle.trace.proofs.Validity.{steps_valid}
use Rattle.reduction.specs.Walking.{walk_list}
use Rattle.reduction.specs.Galloping.{gallop_list, gallop_total}

module _ (ts : List ℕ) (vs : List ℤ) (c : Criterion) where
  pub walk_list_greedy : Greedy (valid ts vs c) (length ts - 1) (walk_list ts vs c)
  walk_list_greedy = walk_greedy (valid ts vs c) (steps_valid ts vs c) (length ts - 1)

  pub gallop_list_greedy : Greedy (valid ts vs c) (length ts - 1) (gallop_list ts vs c)
  gallop_list_greedy = gallop_greedy (valid ts vs c) (steps_valid ts vs c) (length ts - 1)

  module _ (t : Trace ts vs) where
    -- a stop of r samples takes exactly 2 floor (log2 r) + 1 probes
    pub gallop_stop_probes : EachLink (λ i j. (gallop_search (valid ts vs c) (length ts - 1) i).probes ≡ stop_probes (j - i)) (gallop_list ts vs c)
    gallop_stop_probes = stop_probes_lem (valid ts vs c) (steps_valid ts vs c) (length ts - 1) (omega (arith, t.few))

    -- and the total is their sum
    pub gallop_total_lem : gallop_total ts vs c ≡ list_probes (gallop_list ts vs c)
    gallop_total_lem = gallop_probes_lem (valid ts vs c) (steps_valid ts vs c) (length ts - 1) (omega (arith, t.few))

-- links from sample i, while it lies before `limit`, end there
pub record Ending (ts : List ℕ) (g i limit : ℕ) : Type 0 where
  pub inside : limit < length ts
  pub end : i < limit → limit ≡ links_end ts g i

module _ {ts : List ℕ} {g i limit : ℕ} where
  pub ending_begins : i + 1 < length ts → limit ≡ links_end ts g i → Ending ts g i limit
  ending_begins h e = record { inside = omega (arith, links_end_inside ts g i h); end = λ lt. e }

  pub ending_goes_on : {k : ℕ} → Ending ts g i limit → i < limit → i ≤ k → Ending ts g k limit
  ending_goes_on r lt le = record { inside = r.inside; end = λ u. (end_same ts g (omega (arith, r.inside)) (r.end lt) le u).1 }

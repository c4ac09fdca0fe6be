-- Laws of the two lists of a call that passes the checks.
-- Assumes nothing.
use mathlib.Core.Path.{sym, subst}
use mathlib.Core.List.{List}
use Prim.Native.Nat.{ℕ}
use lib.ListN.{length}
use Rattle.lists.specs.Overwrite.{Wrote}
use Rattle.lists.specs.Listed.{listed}
use Rattle.channels.specs.Channels.{of_channel}
use Rattle.ratio.specs.declared.Ratio.{Ratio}
use Rattle.tolerance.specs.declared.Tolerance.{Tolerance}
use Rattle.verdicts.specs.Sums.{moved, noisy}
use Rattle.listing.specs.declared.Counts.{Counts}
use Rattle.listing.specs.Listing.{BothListed}
use Rattle.pedestals.specs.Compare.{Run, values_of, moved_channels, Listed}
use Rattle.pedestals.specs.Checking.{Passed}

module _ (a b : Run) (t : Tolerance) (k : ℕ) (m s : List ℕ) {r : Ratio} (p : Passed a b t k (length m) (length s) r) where
  -- the lists by the lengths of run 1 are those by each run's own
  pub both_listed : {n : Counts} {m' s' : List ℕ} → BothListed a.values b.values a.lengths r k m s n m' s' → Listed a b t k m s n m' s'
  both_listed {n} {m'} {s'} h =
      let e = sym p.alike.same in
      let ls = a.lengths in
      record {
        rows = p.rows;
        moved = subst (λ (x : Ratio). Wrote (moved_channels x a b) m n.moved m') p.ratio
            (subst (λ (ms : List ℕ). Wrote (listed (λ c. moved r (values_of a c) (of_channel ms c b.values)) (length ls)) m n.moved m') e h.moved);
        noisy = subst (λ (ms : List ℕ). Wrote (listed (λ c. noisy k (values_of a c) (of_channel ms c b.values)) (length ls)) s n.noisy s') e h.noisy;
      }

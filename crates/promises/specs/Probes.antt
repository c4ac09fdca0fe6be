-- What a readout budget may say of gallop's probe total (document 02, "Probes to the digit").
--   ProbeBudget    the total is computed from the list alone, and bounded by the stops and the samples
-- The theorems are in proofs/Probes. Assumes nothing.
use Rattle.std.specs.Prelude.{◌≡◌, List, ℕ, ◌+◌, ◌-◌, ◌*◌, ◌≤◌}
use Rattle.kept.specs.Kept.{EachLink}
use Rattle.kept.specs.Gallop.{stop_probes, list_probes}

-- p probes for the list l of s stops, of a trace of n samples
pub record ProbeBudget (n s p : ℕ) (l : List ℕ) : Type 0 where
  pub total : p ≡ list_probes l
  pub by_stops : p ≤ s * stop_probes (n - 1)
  -- at most 2 (n - 1) - s, which is reached exactly where no stop advances by more than 2 samples
  pub by_samples : p + s ≤ 2 * (n - 1)
  pub reached : EachLink (λ i j. j ≤ i + 2) l → p + s ≡ 2 * (n - 1)
  pub reached_only : p + s ≡ 2 * (n - 1) → EachLink (λ i j. j ≤ i + 2) l

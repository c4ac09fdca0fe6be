-- At one tolerance no factor bounds walk's and gallop's lists by the shortest: the traces of values 0 3 0 3 .. 0 3, for an even number n of samples.
--   counting       the ticks 0 1 .. n - 1
--   zigzag         the values: 3 at each odd sample
--   just_wide      the tolerance 3 (n - 2) / (n - 1), at which the link from the first sample to the last is valid, and no gap limit
--   NoFactor       at this tolerance walk and gallop keep all n samples, and minimum keeps 2
-- The theorem is in proofs/NoFactor. Assumes nothing.
use Rattle.std.specs.Prelude.{◌≡◌, List, [], ◌∷◌, map, ℕ, ◌-◌, ◌*◌, ◌%◌, ◌≤◌, ℤ, pos, length, Ok, Result}
use Rattle.tolerance.specs.declared.Tolerance.TheVariants.{Ratio}
use Rattle.heights.specs.Heights.{every_sample}
use Rattle.reduction.specs.declared.Galloped.{Galloped}
use Rattle.reduction.specs.Walking.{walk_list}
use Rattle.reduction.specs.Galloping.{gallop_list}
use Rattle.shortest.specs.Shortest.{minimum_list}
use Rattle.limits.specs.declared.Limits.{Limits}
use Rattle.limits.specs.Prepare.{unlimited, criterion_of, output_rows}
use Rattle.engine.specs.Reduce.{WalkOutcome, GallopOutcome}
use Rattle.engine.specs.Minimum.{MinimumOutcome}
use Rattle.refusal.specs.declared.Refusal.{Refusal}

abbrev pub counting : ℕ → List ℕ
counting n = every_sample (n - 1)

abbrev pub zigzag : ℕ → List ℤ
zigzag n = map (λ (k : ℕ). pos (3 * (k % 2))) (counting n)

abbrev pub just_wide : ℕ → Limits
just_wide n = unlimited (Ratio (3 * (n - 2)) (n - 1))

pub record NoFactor (n : ℕ) : Type 0 where
  -- no row of the table applies, for an output of n entries or more
  pub accepted : (room : ℕ) → n ≤ room → output_rows (counting n) (zigzag n) (just_wide n) room ≡ Ok tt
  -- the lists
  pub walk : walk_list (counting n) (zigzag n) (criterion_of (just_wide n)) ≡ every_sample (n - 1)
  pub gallop : gallop_list (counting n) (zigzag n) (criterion_of (just_wide n)) ≡ every_sample (n - 1)
  pub minimum : minimum_list (counting n) (zigzag n) (criterion_of (just_wide n)) ≡ 0 ∷ (n - 1) ∷ []
  -- what the calls answer
  pub walk_answers : (o o' : List ℕ) (r : Result ℕ Refusal) → n ≤ length o → WalkOutcome (counting n) (zigzag n) (just_wide n) o r o' → r ≡ Ok n
  pub gallop_answers : (o o' : List ℕ) (r : Result Galloped Refusal) → n ≤ length o → GallopOutcome (counting n) (zigzag n) (just_wide n) o r o' → (g : Galloped) × (r ≡ Ok g) × (g.kept ≡ n)
  pub minimum_answers : (o o' : List ℕ) (r : Result ℕ Refusal) → n ≤ length o → MinimumOutcome (counting n) (zigzag n) (just_wide n) o r o' → r ≡ Ok 2

-- Gallop over a trace (document 003, figure 7, and document 01, "The four reductions").
--   gallop_list, gallop_total   gallop's list of a trace, and its probe total
--   Gallops                     what gallop answers and writes
-- Assumes nothing.
use Rattle.std.specs.Prelude.{◌≡◌, List, ℕ, ◌-◌, ℤ, length}
use Rattle.lists.specs.Overwrite.{Wrote}
use Rattle.kept.specs.Gallop.{gallop_of, gallop_probes}
use Rattle.trace.specs.declared.Criterion.{Criterion}
use Rattle.trace.specs.Link.{valid}
use Rattle.reduction.specs.declared.Galloped.{Galloped}

abbrev pub gallop_list : List ℕ → List ℤ → Criterion → List ℕ
gallop_list ts vs c = gallop_of (valid ts vs c) (length ts - 1)

abbrev pub gallop_total : List ℕ → List ℤ → Criterion → ℕ
gallop_total ts vs c = gallop_probes (valid ts vs c) (length ts - 1)

-- g is the answer, and the lent list o became o'
pub record Gallops (ts : List ℕ) (vs : List ℤ) (c : Criterion) (o : List ℕ) (g : Galloped) (o' : List ℕ) : Type 0 where
  pub wrote : Wrote (gallop_list ts vs c) o g.kept o'
  pub probes : g.probes ≡ gallop_total ts vs c

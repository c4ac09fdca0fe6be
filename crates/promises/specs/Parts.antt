-- Two parts (document 02, "Above and below"): what is as before where they agree.
--   plain_within   document 01's test of a sample: its deviation from the link, without its sign, is at most p/q
--   plain_valid    the link test with it: obeys the gap limit, and each sample between passes
--   EqualParts     with p/q for both parts, the link test, the lists and the probes are those over plain_valid
--   SameCall       limits that mean the same are refused by the same rows and set the same criterion
-- The theorems are in proofs/Parts. Assumes nothing.
use Rattle.std.specs.Prelude.{◌≡◌, Bool, ◌&&◌, List, ℕ, suc, ◌-◌, ◌*◌, leb, ℤ, nat_abs, length}
use Rattle.ratio.specs.declared.Ratio.{Ratio}
use Rattle.kept.specs.Walk.{walk_of}
use Rattle.kept.specs.Gallop.{gallop_of, gallop_probes}
use Rattle.kept.specs.Minimum.{minimum_of}
use Rattle.trace.specs.Trace.{tick}
use Rattle.trace.specs.Link.{deviation, all_from, obeys, valid, limited}
use Rattle.limits.specs.declared.Limits.{Limits}
use Rattle.limits.specs.Prepare.{limit_rows, criterion_of}
use Rattle.reduction.specs.Walking.{walk_list}
use Rattle.reduction.specs.Galloping.{gallop_list, gallop_total}
use Rattle.shortest.specs.Shortest.{minimum_list}

-- |deviation| / (tj - ti) ≤ p / q
abbrev pub plain_within : List ℕ → List ℤ → Ratio → ℕ → ℕ → ℕ → Bool
plain_within ts vs r i j k = leb (nat_abs (deviation ts vs i j k) * r.q) (r.p * (tick ts j - tick ts i))

unfoldable pub plain_valid : List ℕ → List ℤ → ℕ → Ratio → ℕ → ℕ → Bool
plain_valid ts vs g r i j = obeys ts g i j && all_from (suc i) (j - suc i) (plain_within ts vs r i j)

-- `link` is what judge and write ask; scan and report are of walk's lists
pub record EqualParts (ts : List ℕ) (vs : List ℤ) (g : ℕ) (r : Ratio) : Type 0 where
  pub link : valid ts vs (limited g r) ≡ plain_valid ts vs g r
  pub walk : walk_list ts vs (limited g r) ≡ walk_of (plain_valid ts vs g r) (length ts - 1)
  pub gallop : gallop_list ts vs (limited g r) ≡ gallop_of (plain_valid ts vs g r) (length ts - 1)
  pub probes : gallop_total ts vs (limited g r) ≡ gallop_probes (plain_valid ts vs g r) (length ts - 1)
  pub minimum : minimum_list ts vs (limited g r) ≡ minimum_of (plain_valid ts vs g r) (length ts - 1)

pub record SameCall (s t : Limits) : Type 0 where
  pub rows : limit_rows s ≡ limit_rows t
  pub criterion : criterion_of s ≡ criterion_of t

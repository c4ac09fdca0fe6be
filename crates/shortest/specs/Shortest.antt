-- The minimum of a trace (document 01, "The four reductions"), and the two tables from which it is found.
--   minimum_list        the minimum's list, where a link is valid by the criterion
--   Counted             `links` holds the fewest links to the last sample, from each sample from i on
--   Planned             `next` holds the latest next sample of such a list, for each sample from i on
--   Onward              each entry of `next` leads to a later sample of the trace
--   better_end          the better of two ends of links from one sample
--   Scan                what a scan over the ends of the links from sample i is given
-- Laws are in ShortestLaws and Tables. Assumes nothing.
use Rattle.std.specs.Prelude.{◌≡◌, Bool, cond, ◌&&◌, List, ℕ, suc, ◌+◌, ◌-◌, ◌≤◌, ◌<◌, leb, ℤ, length, get_or}
use Rattle.kept.specs.Minimum.{links_of, next_of, minimum_of}
use Rattle.trace.specs.declared.Criterion.{Criterion}
use Rattle.trace.specs.Trace.{Trace}
use Rattle.trace.specs.Link.{Bounded, valid, links_end}

abbrev pub minimum_list : List ℕ → List ℤ → Criterion → List ℕ
minimum_list ts vs c = minimum_of (valid ts vs c) (length ts - 1)

pub record Counted (ok : ℕ → ℕ → Bool) (last i : ℕ) (links : List ℕ) : Type 0 where
  pub links_room : last < length links
  pub counts : (k : ℕ) → i ≤ k → k ≤ last → get_or links k 0 ≡ links_of ok last k

pub record Planned (ok : ℕ → ℕ → Bool) (last i : ℕ) (next : List ℕ) : Type 0 where
  pub next_room : last < length next
  pub stops : (k : ℕ) → i ≤ k → k < last → get_or next k 0 ≡ next_of ok last k

pub record Onward (last : ℕ) (next : List ℕ) : Type 0 where
  pub room : last < length next
  pub onward : (k : ℕ) → k < last → (k < get_or next k 0) × (get_or next k 0 ≤ last)

-- j where its link is valid and no more links lead on from it than from b: x and y of them
unfoldable pub better_end : ℕ → ℕ → Bool → ℕ → ℕ → ℕ
better_end x y valid j b = cond (leb x y && valid) j b

pub record Scan (ts : List ℕ) (vs : List ℤ) (c : Criterion) (links : List ℕ) (i limit : ℕ) : Type 0 where
  pub trace : Trace ts vs
  pub bounded : Bounded c
  pub inside : i + 1 < length ts
  pub counted : Counted (valid ts vs c) (length ts - 1) (suc i) links
  pub limit_is : limit ≡ links_end ts c.gap i

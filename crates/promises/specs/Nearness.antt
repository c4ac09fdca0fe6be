-- How near a list is to the shortest and to the closest: demand 3, whole (document 01, "The trace and its links"; document 02, "Dropouts").
--   NearShortest    a kept list of valid links, and no kept list of links that are valid at parts a and b, whose sum is at most each part of the tolerance,
--                   under the same gap limit has fewer samples (document 02, "Above and below")
--   Nearest         a kept list of at most m samples that obeys the gap limit, and no such list has a lesser error
-- The theorems are in proofs/Nearness. Assumes nothing.
use Rattle.std.specs.Prelude.{◌≡◌, List, ℕ, ◌-◌, ◌≤◌, ℤ, length}
use Rattle.ratio.specs.Gcd.{gcd}
use Rattle.ratio.specs.Order.{AtMost}
use Rattle.kept.specs.Kept.{KeptList, AllValid}
use Rattle.limits.specs.declared.Limits.{Limits}
use Rattle.trace.specs.Link.{obeys, list_error, NoLonger, half, smaller, larger}
use Rattle.closest.specs.declared.Found.{Found}
use Rattle.limits.specs.Prepare.{criterion_of}
use Rattle.engine.specs.Reduce.{ok_of}

-- l is a kept list of n samples whose links are valid, so that its error is at most the larger part, and no kept list within parts whose sum is at most
-- the smaller part that obeys the gap limit has fewer
pub record NearShortest (ts : List ℕ) (vs : List ℤ) (t : Limits) (n : ℕ) (l : List ℕ) : Type 0 where
  pub kept : KeptList (length ts - 1) l
  pub count : length l ≡ n
  pub within : AllValid (ok_of ts vs t) l
  pub error : AtMost (list_error ts vs l) (larger (criterion_of t))
  pub size : NoLonger ts vs (criterion_of t) n
  -- so has none whose error is at most half of the smaller part: with one tolerance, half of it
  pub shortest : (h : List ℕ) → KeptList (length ts - 1) h → AllValid (obeys ts t.gap) h → AtMost (list_error ts vs h) (half (smaller (criterion_of t))) → n ≤ length h

-- l is a kept list of at most m samples that obeys the gap limit g, with the error returned, in lowest terms, and every such list has at least that error
pub record Nearest (ts : List ℕ) (vs : List ℤ) (g m : ℕ) (f : Found) (l : List ℕ) : Type 0 where
  pub kept : KeptList (length ts - 1) l
  pub obeying : AllValid (obeys ts g) l
  pub count : length l ≡ f.kept
  pub few : length l ≤ m
  pub error : list_error ts vs l ≡ f.error
  pub lowest : gcd f.error.p f.error.q ≡ 1
  pub least : (h : List ℕ) → KeptList (length ts - 1) h → AllValid (obeys ts g) h → length h ≤ m → AtMost f.error (list_error ts vs h)

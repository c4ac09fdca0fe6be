-- Least of a trace (document 01, "The four reductions"), and what a search for it knows.
--   least_error   the least error over the kept lists of at most m samples that obey the gap limit g
--   obeying_list  the shortest kept list that obeys it; fewest_samples is how many samples it has
--   Task          a trace of at most 256 samples, and an allowance from 2 on that some list obeying the gap limit keeps to
--   Reached       the error of a kept list of at most m samples that obeys the gap limit
--   Tried         what the trial of a tolerance x says
--   Narrowed      an interval of tolerances below an error that is reached
--   Candidate     a fraction that may be tried
--   Before        the greatest fraction below x of the denominators that link errors have
-- Laws are in ClosestLaws. Assumes nothing.
use Rattle.std.specs.Prelude.{◌≡◌, List, ℕ, ◌-◌, ◌≤◌, ◌<◌, ℤ, length, None, Option, Some}
use Rattle.ratio.specs.declared.Ratio.{Ratio}
use Rattle.ratio.specs.Order.{AtMost, Below, Small}
use Rattle.kept.specs.Kept.{KeptList, AllValid}
use Rattle.kept.specs.Stops.{list_by}
use Rattle.kept.specs.Least.{obeying_error, least_of}
use Rattle.trace.specs.Trace.{Trace}
use Rattle.trace.specs.Link.{obeys, links_end, link_error, list_error, limited, criterion, Bounded}
use Rattle.shortest.specs.Shortest.{minimum_list}
use Rattle.closest.specs.declared.Interval.{Interval}

abbrev pub least_error : List ℕ → List ℤ → ℕ → ℕ → Ratio
least_error ts vs g m = least_of (obeying_error (obeys ts g) (link_error ts vs)) (length ts - 1) m

-- links as long as the gap limit lets them be: both ends, and the samples on either side of each hole
unfoldable pub obeying_list : List ℕ → ℕ → List ℕ
obeying_list ts g = list_by (links_end ts g) (length ts - 1)

abbrev pub fewest_samples : List ℕ → ℕ → ℕ
fewest_samples ts g = length (obeying_list ts g)

pub record Task (ts : List ℕ) (vs : List ℤ) (g m : ℕ) : Type 0 where
  pub trace : Trace ts vs
  pub few : length ts ≤ 256
  pub two : 2 ≤ m
  pub fits : fewest_samples ts g ≤ m

pub record Reached (ts : List ℕ) (vs : List ℤ) (g m : ℕ) (x : Ratio) : Type 0 where
  pub list : List ℕ
  pub kept : KeptList (length ts - 1) list
  pub obeying : AllValid (obeys ts g) list
  pub fits : length list ≤ m
  pub error : list_error ts vs list ≡ x
  pub allowed : Bounded (criterion x)

abbrev pub Tried : List ℕ → List ℤ → ℕ → ℕ → Ratio → Option Ratio → Type 0
Tried ts vs g m x (Some e) = Reached ts vs g m e × AtMost e x
Tried ts vs g m x None = m < length (minimum_list ts vs (limited g x))

pub record Narrowed (ts : List ℕ) (vs : List ℤ) (g m : ℕ) (x : Ratio) (r : Interval) : Type 0 where
  pub low : Bounded (criterion r.low)
  pub reached : Reached ts vs g m r.high
  pub high : AtMost r.high x

pub record Candidate (x : Ratio) : Type 0 where
  pub some : 1 ≤ x.q
  pub small : Small x

pub record Before (x r : Ratio) : Type 0 where
  pub allowed : Bounded (criterion r)
  pub below : Below r x
  pub nearest : (y : Ratio) → y.q ≤ 1048575 → Below y x → AtMost y r

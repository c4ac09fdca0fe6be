-- Laws of the rows and of their totals: a channel's row is that of its own samples, no row's error is above the tolerance, and the largest
-- error is the greatest of the rows'.
-- Assumes nothing.
use Rattle.std.specs.Prelude.{Err, Ok}
use mathlib.Core.Path.{◌≡◌, refl, ◌∙◌, ap}
use mathlib.Core.List.{List, [], ◌∷◌}
use Prim.Native.Nat.{ℕ, zero, suc, ◌+◌, ◌-◌, ◌<◌}
use native.Mathlib.Omega.{arith}
use lib.IntN.{ℤ}
use lib.ListN.{length, get_or}
use Rattle.channels.specs.Channels.{place_of, of_channel}
use Rattle.ratio.specs.declared.Ratio.{Ratio}
use Rattle.ratio.specs.Gcd.{gcd, euclid}
use Rattle.ratio.specs.Order.{over, AtMost}
use Rattle.ratio.proofs.OrderLaws.{at_most_trans, greater_one, greater_left, greater_right}
use Rattle.trace.specs.declared.Criterion.{Criterion}
use Rattle.kept.proofs.KeptLaws.{each_map, kept_links}
use Rattle.kept.proofs.ErrorLaws.{error_one, error_pos}
use Rattle.trace.specs.Trace.{Trace, trace_rows}
use Rattle.trace.specs.Link.{link_error, list_error, larger}
use Rattle.trace.proofs.TraceLaws.{rows_trace}
use Rattle.trace.proofs.Errors.{link_errors, trace_measures, within_larger}
use Rattle.reduction.specs.Walking.{walk_list}
use Rattle.reduction.proofs.ReductionLaws.{walk_list_greedy}
use Rattle.sheet.specs.declared.Summary.{Summary}
use Rattle.sheet.specs.declared.Totals.{Totals}
use Rattle.sheet.specs.Report.{walked_row, row_by, row_of, part_row, rows_from, row_error, largest_error, totals_with, totals_with_all, totalled, totals_of, zeros}
use Rattle.refusal.specs.Table.{Checked}

-- ---- a channel's own row

module _ (c : Criterion) (ts : List ℕ) (vs : List ℤ) where
  pub rows_length : (at : ℕ) (ls : List ℕ) → length (rows_from c ts vs at ls) ≡ length ls
  rows_length at [] = refl
  rows_length at (n ∷ ls) = ap suc (rows_length (at + n) ls)

  -- the row from a place, however the place is written
  place_same : (n : ℕ) {k m : ℕ} → k ≡ m → part_row c ts vs k n ≡ part_row c ts vs m n
  place_same n e = rw e

  rows_from_lem : (at : ℕ) (ls : List ℕ) (i : ℕ) → i < length ls → get_or (rows_from c ts vs at ls) i zeros ≡ part_row c ts vs (at + place_of ls i) (get_or ls i 0)
  rows_from_lem at [] i h = absurd (omega arith)
  rows_from_lem at (n ∷ ls) zero h = place_same n {k = at} {m = at + 0} (omega arith)
  rows_from_lem at (n ∷ ls) (suc i) h = rows_from_lem (at + n) ls i (omega arith) ∙ place_same (get_or ls i 0) {k = at + n + place_of ls i} {m = at + (n + place_of ls i)} (omega arith)

  pub rows_own : (ls : List ℕ) (i : ℕ) → i < length ls → get_or (rows_from c ts vs 0 ls) i zeros ≡ row_of c (of_channel ls i ts) (of_channel ls i vs)
  rows_own ls i h = rows_from_lem 0 ls i h ∙ place_same (get_or ls i 0) {k = 0 + place_of ls i} {m = place_of ls i} (omega arith)

  -- what holds of 0/1 and of the error of walk's list holds of the row's
  row_one : (P : Ratio → Type 0) → P (over 0 1) → (Trace ts vs → P (list_error ts vs (walk_list ts vs c))) → P (row_error (row_of c ts vs))
  unfolding row_of walked_row
  row_one P none walked = go (trace_rows 4096 ts vs) refl
    where
      go : (x : Checked) → trace_rows 4096 ts vs ≡ x → P (row_error (row_by x (walked_row c ts vs)))
      go (Ok _) e = walked (rows_trace 4096 ts vs (omega arith) e).0
      go (Err x) e = none

  -- a row's error is at most the larger part, and in lowest terms
  pub row_within : 0 < c.up.q → 0 < c.down.q → AtMost (row_error (row_of c ts vs)) (larger c)
  row_within u d = row_one (λ x. AtMost x (larger c)) (omega arith) (λ t. let g = walk_list_greedy ts vs c in within_larger t c u d (walk_list ts vs c) g.kept g.valid)

  pub row_positive : 0 < (row_of c ts vs).q
  row_positive = row_one (λ x. 0 < x.q) (omega arith) (λ t. error_pos (link_errors t) (walk_list_greedy ts vs c).kept)

  pub row_lowest : gcd (row_of c ts vs).p (row_of c ts vs).q ≡ 1
  unfolding gcd euclid
  row_lowest = row_one (λ x. gcd x.p x.q ≡ 1) refl
      (λ t. error_one (link_error ts vs) (λ x. gcd x.p x.q ≡ 1) (walk_list ts vs c) refl
      (each_map (λ i j b. (trace_measures t c.gap).lowest i j b.0 b.1) (walk_list ts vs c) (kept_links (length ts - 1) (walk_list ts vs c) (walk_list_greedy ts vs c).kept)))

-- ---- totals

abbrev EachRow : (Ratio → Type 0) → List Summary → Type 0
EachRow P rs = (i : ℕ) → i < length rs → P (row_error (get_or rs i zeros))

each_after : (P : Ratio → Type 0) (r : Summary) (rs : List Summary) → EachRow P (r ∷ rs) → EachRow P rs
each_after P r rs k i u = k (suc i) (omega arith)

-- what holds of 0/1 and of the error of each row holds of the largest
module _ (P : Ratio → Type 0) where
  with_one : (t : Totals) (r : Summary) (rs : List Summary) → P (largest_error t) → EachRow P (r ∷ rs) → P (largest_error (totals_with t r))
  with_one t r rs h k = greater_one P (largest_error t) (row_error r) h (k 0 (omega arith))

  all_one : (rs : List Summary) (t : Totals) → P (largest_error t) → EachRow P rs → P (largest_error (totals_with_all t rs))
  all_one [] t h k = h
  all_one (r ∷ rs) t h k = all_one rs (totals_with t r) (with_one t r rs h k) (each_after P r rs k)

  pub largest_one : (rs : List Summary) → P (over 0 1) → EachRow P rs → P (largest_error (totals_of rs))
  largest_one rs h k = all_one rs (totalled 0 0 (over 0 1)) h k

abbrev Positive : Ratio → Type 0
Positive x = 0 < x.q

all_more : (rs : List Summary) (t : Totals) → Positive (largest_error t) → EachRow Positive rs → AtMost (largest_error t) (largest_error (totals_with_all t rs))
all_more [] t h k = omega arith
all_more (r ∷ rs) t h k =
    let g = with_one Positive t r rs h k in
    at_most_trans (largest_error t) (largest_error (totals_with t r)) _ g (greater_left (largest_error t) (row_error r)) (all_more rs (totals_with t r) g (each_after Positive r rs k))

all_least : (rs : List Summary) (t : Totals) → Positive (largest_error t) → EachRow Positive rs → EachRow (λ x. AtMost x (largest_error (totals_with_all t rs))) rs
all_least [] t h k i u = absurd (omega arith)
all_least (r ∷ rs) t h k zero u =
    let g = with_one Positive t r rs h k in
    at_most_trans (row_error r) (largest_error (totals_with t r)) _ g (greater_right (largest_error t) (row_error r)) (all_more rs (totals_with t r) g (each_after Positive r rs k))
all_least (r ∷ rs) t h k (suc i) u = all_least rs (totals_with t r) (with_one Positive t r rs h k) (each_after Positive r rs k) i (omega arith)

-- the largest error is at least each row's
pub largest_least : (rs : List Summary) → EachRow Positive rs → EachRow (λ x. AtMost x (largest_error (totals_of rs))) rs
largest_least rs = all_least rs (totalled 0 0 (over 0 1)) (omega arith)

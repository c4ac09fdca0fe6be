-- The report on a crate of channels (document 02, "Whole-crate report"): rows, totals, and the lent list.
--   kept_row, walked_row       the row of a trace: its samples, walk's kept number, the error of walk's list, and the sample where its first
--                              worst link has it (document 02, "Where the line strays")
--   declined_row               the row of a channel that is declined: its number, zeros, and 0/1 as its error
--   row_by, row_of             the row of a channel: it depends on the channel's own ticks and values and on the criterion, on nothing else
--   part_row                   the row of n samples from a place on
--   rows_from                  the rows of channels that come end to end
--   row_error, largest_error   the error of a row, and of totals
--   totalled                   totals, from their numbers
--   totals_with, totals_with_all   totals with one row more, and with several
--   totals_of                  the totals of rows: sums of samples and of kept numbers, and the greatest error, 0/1 where there is none
--   RowBounds, TotalBounds     numbers that fit
--   Rows                       what a sheet is: the rows and their totals
--   zeros                      a row of zeros
--   Fits, filled               room for a sheet's rows, and the lent list that they are written over
-- Laws are in RowLaws and ReportLaws. Assumes nothing.
use Rattle.std.specs.Prelude.{◌≡◌, List, [], ◌∷◌, ℕ, ◌+◌, ◌*◌, ◌≤◌, ℤ, length, take, Err, Ok}
use Rattle.lists.specs.Overwrite.{overwrite}
use Rattle.refusal.specs.declared.Refusal.{Refusal}
use Rattle.refusal.specs.Table.{number_of, Checked}
use Rattle.ratio.specs.declared.Ratio.{Ratio}
use Rattle.ratio.specs.Order.{over, greater}
use Rattle.channels.specs.Channels.{part}
use Rattle.trace.specs.declared.Criterion.{Criterion}
use Rattle.trace.specs.Trace.{trace_rows}
use Rattle.measures.specs.declared.Stray.{Stray}
use Rattle.trace.specs.Link.{criterion, Bounded}
use Rattle.proposed.specs.Proposed.{list_stray}
use Rattle.reduction.specs.Walking.{walk_list}
use Rattle.sheet.specs.declared.Summary.{Summary}
use Rattle.sheet.specs.declared.Totals.{Totals}
use Rattle.sheet.specs.declared.Sheet.{Sheet}

-- ---- rows

-- n samples, of which l are kept, with the error and the sample of s
abbrev pub kept_row : ℕ → ℕ → Stray → Summary
kept_row n l s = record { samples = n; kept = l; p = s.p; q = s.q; sample = s.sample; number = 0 }

unfoldable pub walked_row : Criterion → List ℕ → List ℤ → Summary
walked_row c ts vs = kept_row (length ts) (length (walk_list ts vs c)) (list_stray ts vs (walk_list ts vs c))

abbrev pub declined_row : Refusal → Summary
declined_row x = record { samples = 0; kept = 0; p = 0; q = 1; sample = 0; number = number_of x }

abbrev pub row_by : Checked → Summary → Summary
row_by (Ok _) r = r
row_by (Err x) r = declined_row x

unfoldable pub row_of : Criterion → List ℕ → List ℤ → Summary
row_of c ts vs = row_by (trace_rows 4096 ts vs) (walked_row c ts vs)

abbrev pub part_row : Criterion → List ℕ → List ℤ → ℕ → ℕ → Summary
part_row c ts vs at n = row_of c (part at n ts) (part at n vs)

-- channels of the given lengths, end to end from the place `at` on
abbrev pub rows_from : Criterion → List ℕ → List ℤ → ℕ → List ℕ → List Summary
rows_from c ts vs at [] = []
rows_from c ts vs at (n ∷ ls) = part_row c ts vs at n ∷ rows_from c ts vs (at + n) ls

abbrev pub row_error : Summary → Ratio
row_error r = over r.p r.q

-- ---- totals

abbrev pub largest_error : Totals → Ratio
largest_error t = over t.p t.q

abbrev pub totalled : ℕ → ℕ → Ratio → Totals
totalled n l e = record { samples = n; kept = l; p = e.p; q = e.q }

abbrev pub totals_with : Totals → Summary → Totals
totals_with t r = totalled (t.samples + r.samples) (t.kept + r.kept) (greater (largest_error t) (row_error r))

abbrev pub totals_with_all : Totals → List Summary → Totals
totals_with_all t [] = t
totals_with_all t (r ∷ rs) = totals_with_all (totals_with t r) rs

abbrev pub totals_of : List Summary → Totals
totals_of rs = totals_with_all (totalled 0 0 (over 0 1)) rs

-- ---- the sheet

pub record RowBounds (r : Summary) : Type 0 where
  pub samples : r.samples ≤ 4096
  pub kept : r.kept ≤ 4096
  pub allowed : Bounded (criterion (row_error r))

-- of the totals of i rows
pub record TotalBounds (i : ℕ) (t : Totals) : Type 0 where
  pub samples : t.samples ≤ 4096 * i
  pub kept : t.kept ≤ 4096 * i
  pub allowed : Bounded (criterion (largest_error t))

pub record Rows (c : Criterion) (ts : List ℕ) (vs : List ℤ) (ls : List ℕ) (s : Sheet) : Type 0 where
  pub count : s.count ≡ length ls
  pub rows : take s.count s.rows ≡ rows_from c ts vs 0 ls
  pub totals : s.totals ≡ totals_of (rows_from c ts vs 0 ls)

abbrev pub zeros : Summary
zeros = record { samples = 0; kept = 0; p = 0; q = 0; sample = 0; number = 0 }

pub record Fits (s : Sheet) (n : ℕ) : Type 0 where
  pub written : s.count ≤ 64
  pub room : s.count ≤ n

abbrev pub filled : Sheet → List Summary → List Summary
filled s o = overwrite (take s.count s.rows) o

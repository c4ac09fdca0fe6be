-- Gap limits (document 02, "Dropouts"): what is as without one where it is at its largest, and what 16 means.
--   ListsAsBefore     the lists, the probes and the least error are document 01's, over its link test `all_within` and over every kept list
--   RowsAsBefore      the rows of the table that apply are document 01's
--   beside_hole       an end of the trace, or a sample on either side of a hole
--   ShortestObeying   the shortest kept list that obeys a gap limit: both ends, and the samples on either side of each hole
-- The theorems are in proofs/Dropouts. Assumes nothing.
use Rattle.std.specs.Prelude.{◌≡◌, Bool, ◌||◌, List, ℕ, ◌-◌, ◌≤◌, eqb, ℤ, length}
use Rattle.ratio.specs.declared.Ratio.{Ratio}
use Rattle.refusal.specs.Table.{room_row, ◌then_check◌}
use Rattle.kept.specs.Kept.{KeptList, AllValid}
use Rattle.kept.specs.Walk.{walk_of}
use Rattle.kept.specs.Gallop.{gallop_of, gallop_probes}
use Rattle.kept.specs.Minimum.{minimum_of}
use Rattle.kept.specs.Least.{least_of}
use Rattle.tolerance.specs.declared.Tolerance.{Tolerance}
use Rattle.tolerance.specs.Meaning.{meaning}
use Rattle.trace.specs.Trace.{trace_rows}
use Rattle.trace.specs.Link.{hole, obeys, all_within, valid, criterion, link_error}
use Rattle.reduction.specs.Walking.{walk_list}
use Rattle.reduction.specs.Galloping.{gallop_list, gallop_total}
use Rattle.shortest.specs.Shortest.{minimum_list}
use Rattle.closest.specs.Closest.{least_error}
use Rattle.allowance.specs.Rows.{allowance_row, least_rows}
use Rattle.channels.specs.Channels.{crate_row}
use Rattle.limits.specs.Prepare.{unlimited, tolerance_row, common_rows, output_rows}
use Rattle.reporting.specs.Report.{crate_rows}
use Rattle.promises.specs.Pedestals.{Exactly}

-- at p/q, for a trace; `link` is what judge and write ask
pub record ListsAsBefore (ts : List ℕ) (vs : List ℤ) (r : Ratio) : Type 0 where
  pub link : valid ts vs (criterion r) ≡ all_within ts vs (criterion r)
  pub walk : walk_list ts vs (criterion r) ≡ walk_of (all_within ts vs (criterion r)) (length ts - 1)
  pub gallop : gallop_list ts vs (criterion r) ≡ gallop_of (all_within ts vs (criterion r)) (length ts - 1)
  pub probes : gallop_total ts vs (criterion r) ≡ gallop_probes (all_within ts vs (criterion r)) (length ts - 1)
  pub minimum : minimum_list ts vs (criterion r) ≡ minimum_of (all_within ts vs (criterion r)) (length ts - 1)
  pub least : (m : ℕ) → least_error ts vs 1048575 m ≡ least_of (link_error ts vs) (length ts - 1) m

-- for every input
pub record RowsAsBefore (ts : List ℕ) (vs : List ℤ) (t : Tolerance) : Type 0 where
  -- judge and write: 1, 2, 3, 4, and what follows
  pub common : common_rows ts vs (unlimited t) ≡ trace_rows 4096 ts vs then_check tolerance_row (meaning t)
  -- walk, gallop and minimum: 1, 2, 3, 4, 10
  pub output : (room : ℕ) → output_rows ts vs (unlimited t) room ≡ trace_rows 4096 ts vs then_check tolerance_row (meaning t) then_check room_row (length ts) room
  -- report: 11, 4, 10
  pub report : (ls : List ℕ) (room : ℕ) → crate_rows ts vs ls (unlimited t) room ≡ crate_row ts vs ls then_check tolerance_row (meaning t) then_check room_row (length ls) room
  -- least: 1, 2, 3, 5, 10, and never 16
  pub least : (m room : ℕ) → least_rows ts vs 1048575 m room ≡ trace_rows 256 ts vs then_check allowance_row m then_check room_row (length ts) room

-- sample k is an end of the trace, or a hole follows it or the one before it
abbrev pub beside_hole : List ℕ → ℕ → ℕ → Bool
beside_hole ts g k = (eqb k 0 || eqb k (length ts - 1)) || (hole ts g k || hole ts g (k - 1))

pub record ShortestObeying (ts : List ℕ) (g : ℕ) (l : List ℕ) : Type 0 where
  pub kept : KeptList (length ts - 1) l
  pub obeying : AllValid (obeys ts g) l
  pub fewest : (h : List ℕ) → KeptList (length ts - 1) h → AllValid (obeys ts g) h → length l ≤ length h
  pub entries : Exactly (beside_hole ts g) (length ts) l

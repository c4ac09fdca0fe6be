-- The live view of a trace (document 02, "Live view"): the state, the checks of it, and what an addition does.
--   fresh         a state with the sample 0 in every entry
--   begun_of      what a view is begun with, and what is answered
--   entries       the list that a state holds
--   passes        whether a check found nothing
--   is_view       whether a state is a view of n samples: a kept list of them, with k and the number of inner samples in range
--   state_row     row 20 of a state, for n earlier samples
--   add_rows      the first of the rows 1, 2, 3, 20 that applies to an addition
--   grown         the state after an addition
--   Ready         what an addition asks of a state and a trace
--   Grown         what holds of the state after an addition
--   AddOutcome    the outcome of an addition, by cases on what the checks found
--   Added         the same by value
-- A refused addition leaves the state as it was. Otherwise its first entries are the list, and the others stay.
-- Laws are in LiveLaws. Assumes nothing.
use Rattle.std.specs.Prelude.{◌≡◌, Bool, true, false, ◌&&◌, List, ℕ, ◌+◌, ◌-◌, ◌*◌, ◌≤◌, leb, ℤ, length, take, replicate, Result, Ok, Err}
use Rattle.lists.specs.Overwrite.{overwrite}
use Rattle.refusal.specs.declared.Refusal.{Refusal}
use Rattle.refusal.specs.declared.Refusal.TheVariants.{View as NoView}
use Rattle.refusal.specs.Table.{row, ◌then_check◌, Checked}
use Rattle.ratio.specs.Order.{AtMost}
use Rattle.kept.specs.Kept.{KeptList}
use Rattle.views.specs.View.{view_with, view_of, twice}
use Rattle.trace.specs.Trace.{Trace, trace_rows}
use Rattle.trace.specs.Link.{link_error, list_error}
use Rattle.proposed.specs.Proposed.{list_row}
use Rattle.live.specs.declared.View.{View}

abbrev pub fresh : ℕ → ℕ → View
fresh k count = record { k = k; count = count; samples = replicate 66 0 }

-- the list 0, a view of the first sample; 20 for k above 32
unfoldable pub begun_of : ℕ → Result View Refusal
begun_of k = row (leb k 32) NoView then_check Ok (fresh k 1)

abbrev pub entries : View → List ℕ
entries v = take v.count v.samples

abbrev pub passes : Checked → Bool
passes (Ok _) = true
passes (Err r) = false

-- at most 2k inner samples are at most 2k + 2 entries, which is at most 66
unfoldable pub is_view : ℕ → View → Bool
is_view n v = leb v.k 32 && leb v.count (2 * v.k + 2) && passes (list_row n (entries v))

-- 20: k out of range, too many inner samples, or no kept list of the n samples
unfoldable pub state_row : ℕ → View → Checked
state_row n v = row (is_view n v) NoView

-- the new sample is the last one lent, and those before it are the earlier ones
unfoldable pub add_rows : List ℕ → List ℤ → View → Checked
add_rows ts vs v = trace_rows 4096 ts vs then_check state_row (length ts - 1) v

unfoldable pub grown : List ℕ → List ℤ → View → View
grown ts vs v =
    let l = view_with (link_error ts vs) v.k (entries v) (length ts - 1) in
    record { k = v.k; count = length l; samples = overwrite l v.samples }

pub record Ready (ts : List ℕ) (vs : List ℤ) (v : View) : Type 0 where
  pub trace : Trace ts vs
  pub earlier : 2 ≤ length ts
  pub kept : KeptList (length ts - 2) (entries v)
  pub range : v.k ≤ 32
  pub inner : v.count ≤ 2 * v.k + 2

pub record Grown (ts : List ℕ) (vs : List ℤ) (before after : View) : Type 0 where
  pub rows : add_rows ts vs before ≡ Ok tt
  pub is : after ≡ grown ts vs before
  -- a kept list of the samples so far, with at most 2k inner ones
  pub kept : KeptList (length ts - 1) (entries after)
  pub inner : after.count ≤ 2 * after.k + 2
  -- the view of the earlier samples becomes that of the samples so far
  pub follows : entries before ≡ view_of (link_error ts vs) before.k (length ts - 2) → entries after ≡ view_of (link_error ts vs) before.k (length ts - 1)
  -- whose error is at most twice that of every kept list with at most k inner samples
  pub close : entries before ≡ view_of (link_error ts vs) before.k (length ts - 2)
      → (h : List ℕ) → KeptList (length ts - 1) h → length h ≤ before.k + 2 → AtMost (list_error ts vs (entries after)) (twice (list_error ts vs h))

abbrev pub AddOutcome : List ℕ → List ℤ → View → Checked → View → Type 0
AddOutcome ts vs before (Ok _) after = Grown ts vs before after
AddOutcome ts vs before (Err x) after = (add_rows ts vs before ≡ Err x) × (after ≡ before)

-- by value, where a refusal leaves the state that was given
abbrev pub Added : List ℕ → List ℤ → View → Result View Refusal → Type 0
Added ts vs before (Ok after) = AddOutcome ts vs before (Ok tt) after
Added ts vs before (Err x) = AddOutcome ts vs before (Err x) before

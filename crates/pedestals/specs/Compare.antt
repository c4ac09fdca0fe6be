-- The comparison of two pedestal runs of a crate (document 02, "Morning pedestals"): its rows, its lists and its outcome. Run 1 is today's.
--   Run, run_of, lent               a run: ticks and values end to end, and the channels' lengths; the run that is lent
--   ticks_of, values_of             a channel's ticks and values
--   held_ratio                      the ratio that both parts of an allowed tolerance are held as
--   cause_number, cause_value       the number and the value of a refusal: of a channel's trace its own number, with the channel
--   called, in_channel, ◌then◌      a row as one of the call, as one of a channel's trace; the first row that applies
--   factor_row, runs_row, one_row   rows 14, 11 and 4
--   channel_row, channel_rows       the first row that applies to a channel: run 1's 1, 2, 3, run 2's, 13; to each of several channels
--   rooms_row, compare_rows         row 10; the first row that applies to the call
--   has_moved, is_noisy             the two tests of a channel
--   moved_channels, noisy_channels  the two lists, in channel order
--   Listed, CompareOutcome          the contract, by cases on the answer
-- A refused call leaves both lent lists as they were. Otherwise the first entries of each are its channels, and the others stay.
-- Laws are in CheckLaws and ListLaws. Assumes nothing.
use Rattle.std.specs.Prelude.{◌≡◌, Bool, ◌&&◌, List, ℕ, zero, suc, leb, eqb, ℤ, length, get_or, Err, None, Ok, Option, Result, Some, ⊤}
use Rattle.lists.specs.Overwrite.{Wrote}
use Rattle.lists.specs.Listed.{listed}
use Rattle.refusal.specs.declared.Refusal.TheVariants.{Crate, Samples, Factor}
use Rattle.refusal.specs.Table.{NotAllowedTolerance, number_of, returned_of, row, room_row, ◌then_check◌, Checked}
use Rattle.channels.specs.Channels.{of_channel, crate_row}
use Rattle.ratio.specs.declared.Ratio.{Ratio}
use Rattle.ratio.specs.Order.{over}
use Rattle.tolerance.specs.declared.Tolerance.{Tolerance}
use Rattle.tolerance.specs.Meaning.{meaning, agree}
use Rattle.checking.specs.Checks.{own_rows}
use Rattle.listing.specs.declared.Counts.{Counts}
use Rattle.pedestals.specs.declared.Run as R
use Rattle.pedestals.specs.declared.Cause.{Cause}
use Rattle.pedestals.specs.declared.Cause.TheVariants.{Call, Trace}
use Rattle.verdicts.specs.Sums.{moved, noisy}
use Rattle.tolerance.specs.declared.Parts.{Parts}

-- ---- runs

pub record Run : Type 0 where
  pub ticks : List ℕ
  pub values : List ℤ
  pub lengths : List ℕ

abbrev pub run_of : List ℕ → List ℤ → List ℕ → Run
run_of ts vs ls = record { ticks = ts; values = vs; lengths = ls }

-- the run that is lent
abbrev pub lent : R.Run → Run
lent x = run_of x.ticks.now x.values.now x.lengths.now

abbrev pub ticks_of : Run → ℕ → List ℕ
ticks_of a c = of_channel a.lengths c a.ticks

abbrev pub values_of : Run → ℕ → List ℤ
values_of a c = of_channel a.lengths c a.values

-- 0 where the tolerance is not allowed, which no answer depends on
abbrev pub held_ratio : Option Parts → Ratio
held_ratio (Some x) = x.up
held_ratio None = over 0 1

-- ---- rows

abbrev pub cause_number : Cause → ℕ
cause_number (Call x) = number_of x
cause_number (Trace c x) = number_of x

abbrev pub cause_value : Cause → ℕ
cause_value (Call x) = returned_of x
cause_value (Trace c x) = c

abbrev pub called : Checked → Result ⊤ Cause
called (Ok _) = Ok tt
called (Err x) = Err (Call x)

abbrev pub in_channel : ℕ → Checked → Result ⊤ Cause
in_channel c (Ok _) = Ok tt
in_channel c (Err x) = Err (Trace c x)

infixr 20 ◌then◌
abbrev pub ◌then◌ : Result ⊤ Cause → Result ⊤ Cause → Result ⊤ Cause
(Ok _) then d = d
Err x then d = Err x

-- 14: k below 1 or above 16
abbrev pub factor_row : ℕ → Checked
factor_row k = row (leb 1 k && leb k 16) Factor

-- 11: of either run, or unequal channel counts
unfoldable pub runs_row : Run → Run → Checked
runs_row a b =
    crate_row a.ticks a.values a.lengths then_check
    crate_row b.ticks b.values b.lengths then_check
    row (eqb (length b.lengths) (length a.lengths)) Crate

-- 4: tolerance not allowed, or of parts that differ (document 02, "Above and below")
abbrev pub one_row : Option Parts → Checked
one_row (Some x) = row (agree x) NotAllowedTolerance
one_row None = Err NotAllowedTolerance

-- run 1's own number, run 2's, and 13 where the runs differ in n, each with the channel
unfoldable pub channel_row : Run → Run → ℕ → Result ⊤ Cause
channel_row a b c =
    in_channel c (own_rows (ticks_of a c) (values_of a c)) then
    in_channel c (own_rows (ticks_of b c) (values_of b c)) then
    called (row (eqb (get_or b.lengths c 0) (get_or a.lengths c 0)) (Samples c))

-- n channels from c on
abbrev pub channel_rows : Run → Run → ℕ → ℕ → Result ⊤ Cause
channel_rows a b c zero = Ok tt
channel_rows a b c (suc n) = channel_row a b c then channel_rows a b (suc c) n

-- 10: an entry a channel in each list
abbrev pub rooms_row : ℕ → ℕ → ℕ → Checked
rooms_row m room room' = room_row m room then_check room_row m room'

unfoldable pub compare_rows : Run → Run → Tolerance → ℕ → ℕ → ℕ → Result ⊤ Cause
compare_rows a b t k room room' =
    called (factor_row k) then
    called (runs_row a b) then
    called (one_row (meaning t)) then
    channel_rows a b 0 (length a.lengths) then
    called (rooms_row (length a.lengths) room room')

-- ---- lists

abbrev pub has_moved : Ratio → Run → Run → ℕ → Bool
has_moved r a b c = moved r (values_of a c) (values_of b c)

abbrev pub is_noisy : ℕ → Run → Run → ℕ → Bool
is_noisy k a b c = noisy k (values_of a c) (values_of b c)

abbrev pub moved_channels : Ratio → Run → Run → List ℕ
moved_channels r a b = listed (has_moved r a b) (length a.lengths)

abbrev pub noisy_channels : ℕ → Run → Run → List ℕ
noisy_channels k a b = listed (is_noisy k a b) (length a.lengths)

-- ---- the outcome

-- the lent lists m and s became m' and s'
pub record Listed (a b : Run) (t : Tolerance) (k : ℕ) (m s : List ℕ) (n : Counts) (m' s' : List ℕ) : Type 0 where
  pub rows : compare_rows a b t k (length m) (length s) ≡ Ok tt
  pub moved : Wrote (moved_channels (held_ratio (meaning t)) a b) m n.moved m'
  pub noisy : Wrote (noisy_channels k a b) s n.noisy s'

abbrev pub CompareOutcome : Run → Run → Tolerance → ℕ → List ℕ → List ℕ → Result Counts Cause → List ℕ → List ℕ → Type 0
CompareOutcome a b t k m s (Ok n) m' s' = Listed a b t k m s n m' s'
CompareOutcome a b t k m s (Err x) m' s' = (compare_rows a b t k (length m) (length s) ≡ Err x) × (m' ≡ m) × (s' ≡ s)

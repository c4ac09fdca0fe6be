-- What the checks of a comparison find, step by step, and what they show of two runs that pass.
--   HasPart, PartChecked             a run has n samples from a place on; the checks 1, 2, 3 of them, as channel c's
--   parts_row, ChannelChecked        the rows of channel c from a place on, of both runs and 13; what their checks find
--   Alike, ChannelsChecked           equal lengths, each at most 4,096; what the checks of all channels find
--   DividedRuns                      both runs are divided into as many channels
--   CallChecked                      what the checks 14 and 11 find
--   HeldOne                          what check 4 finds: the ratio of both parts, or the row
--   Passed, Readied                  what all checks show, and what they find
-- Assumes nothing.
use Rattle.std.specs.Prelude.{◌≡◌, ℕ, ◌+◌, ◌≤◌, ◌<◌, eqb, length, get_or, Err, Ok, Result, ⊤}
use Rattle.refusal.specs.declared.Refusal.TheVariants.{Samples}
use Rattle.refusal.specs.Table.{row, ◌then_check◌, Checked}
use Rattle.channels.specs.Channels.{part, Divided}
use Rattle.ratio.specs.declared.Ratio.{Ratio}
use Rattle.tolerance.specs.declared.Tolerance.{Tolerance}
use Rattle.tolerance.specs.Meaning.{meaning, Held}
use Rattle.checking.specs.Checks.{own_rows}
use Rattle.pedestals.specs.Compare.{Run, held_ratio, called, in_channel, ◌then◌, factor_row, runs_row, one_row, channel_rows, compare_rows}
use Rattle.pedestals.specs.declared.Cause.{Cause}
use Rattle.refusal.specs.declared.Refusal.{Refusal}

-- ---- a channel

pub record HasPart (a : Run) (at n : ℕ) : Type 0 where
  pub ticks : at + n ≤ length a.ticks
  pub values : at + n ≤ length a.values

pub record PartChecked (c : ℕ) (a : Run) (at n : ℕ) (r : Result ⊤ Cause) : Type 0 where
  pub is : r ≡ in_channel c (own_rows (part at n a.ticks) (part at n a.values))
  pub few : r ≡ Ok tt → n ≤ 4096

-- of n samples in run 1, m in run 2
abbrev pub parts_row : ℕ → Run → Run → ℕ → ℕ → ℕ → Result ⊤ Cause
parts_row c a b at n m =
    in_channel c (own_rows (part at n a.ticks) (part at n a.values)) then
    in_channel c (own_rows (part at m b.ticks) (part at m b.values)) then
    called (row (eqb m n) (Samples c))

pub record ChannelChecked (c : ℕ) (a b : Run) (at n m : ℕ) (r : Result ⊤ Cause) : Type 0 where
  pub is : r ≡ parts_row c a b at n m
  pub same : r ≡ Ok tt → m ≡ n
  pub few : r ≡ Ok tt → n ≤ 4096

-- ---- all channels

pub record Alike (a b : Run) : Type 0 where
  pub same : b.lengths ≡ a.lengths
  pub few : (c : ℕ) → c < length a.lengths → get_or a.lengths c 0 ≤ 4096

pub record ChannelsChecked (a b : Run) (r : Result ⊤ Cause) : Type 0 where
  pub is : r ≡ channel_rows a b 0 (length a.lengths)
  pub alike : r ≡ Ok tt → Alike a b

-- ---- the call

pub record DividedRuns (a b : Run) : Type 0 where
  pub first : Divided a.ticks a.values a.lengths
  pub second : Divided b.ticks b.values b.lengths
  pub counts : length b.lengths ≡ length a.lengths

pub record CallChecked (a b : Run) (k : ℕ) (r : Checked) : Type 0 where
  pub is : r ≡ factor_row k then_check runs_row a b
  pub divided : r ≡ Ok tt → DividedRuns a b
  pub factor : r ≡ Ok tt → k ≤ 16

abbrev pub HeldOne : Tolerance → Result Ratio Refusal → Type 0
HeldOne t (Ok r) = (one_row (meaning t) ≡ Ok tt) × (r ≡ held_ratio (meaning t)) × Held r
HeldOne t (Err x) = one_row (meaning t) ≡ Err x

pub record Passed (a b : Run) (t : Tolerance) (k room room' : ℕ) (r : Ratio) : Type 0 where
  pub rows : compare_rows a b t k room room' ≡ Ok tt
  pub ratio : r ≡ held_ratio (meaning t)
  pub held : Held r
  pub factor : k ≤ 16
  pub divided : DividedRuns a b
  pub alike : Alike a b
  pub first_room : length a.lengths ≤ room
  pub second_room : length a.lengths ≤ room'

abbrev pub Readied : Run → Run → Tolerance → ℕ → ℕ → ℕ → Result Ratio Cause → Type 0
Readied a b t k room room' (Ok r) = Passed a b t k room room' r
Readied a b t k room room' (Err x) = compare_rows a b t k room room' ≡ Err x

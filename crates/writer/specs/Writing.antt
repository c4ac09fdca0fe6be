-- Writing a record (document 01, "The record", and "When the engine declines", row 10; document 02, "Above and below"): the complete outcome.
--   Kept                       a trace and a kept list of it
--   selected what is written:           a tolerance and the samples that a list keeps
--   write_row                   row 10: too few bytes from the place on
--   WrittenAt, WriteDeclined   what holds of each answer
--   ContentWritten             what is answered, and what the buffer then holds
-- For the kernels:
--   kept_ticks, kept_values, SampleAt   the kept samples; one of them
--   kept_samples                        their commands
--   StepBetween, step_from, step_at     the steps between them
--   rest_of                             the record from a sample on
--   RestLength, SamplesLength, LengthOf the bytes after the first sample; those after the tolerance; the record's length
--   most_bytes                          the most bytes of a record of so many samples
-- Laws are in SelectedLaws and WritingLaws. Assumes nothing.
use Rattle.std.specs.Prelude.{◌≡◌, List, [], ℕ, suc, ◌+◌, ◌-◌, ◌*◌, ◌≤◌, ◌<◌, ℤ, pos, length, take, drop, Err, Ok, Result}
use Rattle.std.specs.Int.Signed.{mag}
use Rattle.lists.specs.Part.{overwrite_from}
use Rattle.lists.specs.Select.{select}
use Rattle.refusal.specs.declared.Refusal.{Refusal}
use Rattle.refusal.specs.Table.{room_row, Checked}
use Rattle.kept.specs.Kept.{KeptList}
use Rattle.tolerance.specs.declared.Parts.{Parts}
use Rattle.trace.specs.Trace.{tick, value, Trace}
use Rattle.trace.specs.Level.{level, LevelOf}
use Rattle.format.specs.declared.Command.{Command}
use Rattle.format.specs.declared.Command.TheVariants.{End}
use Rattle.format.specs.Command.{size_of, command_onto}
use Rattle.format.specs.Format.{Content, Accepted, tolerance_command, step_to, steps_onto, samples_onto, encode}
use Rattle.writer.specs.declared.Sample.{Sample}

pub record Kept (ts : List ℕ) (vs : List ℤ) (l : List ℕ) : Type 0 where
  pub trace : Trace ts vs
  pub list : KeptList (length ts - 1) l

abbrev pub kept_ticks : List ℕ → List ℕ → List ℕ
kept_ticks ts l = select 0 ts l

abbrev pub kept_values : List ℤ → List ℕ → List ℤ
kept_values vs l = select (pos 0) vs l

abbrev pub selected : Parts → List ℕ → List ℤ → List ℕ → Content
selected x ts vs l = record { tolerance = x; ticks = kept_ticks ts l; values = kept_values vs l }

-- ---- the outcome

-- 10: a record in a buffer of m bytes, from a place on; a place past the end counts as an empty part
abbrev pub write_row : List ℕ → ℕ → ℕ → Checked
write_row b m place = room_row (length b) (m - place)

-- n bytes were written: the record of x, from the place on, and read back they say x; other bytes keep their values
pub record WrittenAt (x : Content) (o : List ℕ) (place n : ℕ) (o' : List ℕ) : Type 0 where
  pub rows : write_row (encode x) (length o) place ≡ Ok tt
  pub count : n ≡ length (encode x)
  pub content : o' ≡ overwrite_from place (encode x) o
  pub accepted : Accepted (take n (drop place o')) x

-- the row applied, and the buffer is as it was
pub record WriteDeclined (x : Content) (o : List ℕ) (place : ℕ) (e : Refusal) (o' : List ℕ) : Type 0 where
  pub rows : write_row (encode x) (length o) place ≡ Err e
  pub content : o' ≡ o

abbrev pub ContentWritten : Content → List ℕ → ℕ → Result ℕ Refusal → List ℕ → Type 0
ContentWritten x o place (Ok n) o' = WrittenAt x o place n o'
ContentWritten x o place (Err e) o' = WriteDeclined x o place e o'

-- ---- kept samples

-- s is the kept sample at position i
pub record SampleAt (ts : List ℕ) (vs : List ℤ) (l : List ℕ) (i : ℕ) (s : Sample) : Type 0 where
  pub tick_is : s.tick ≡ tick (kept_ticks ts l) i
  pub level_is : LevelOf (value (kept_values vs l) i) s.level

pub record StepBetween (a b : Sample) : Type 0 where
  pub rise : a.tick < b.tick
  pub span : b.tick ≤ a.tick + 1048575
  pub from : a.level ≤ 65535
  pub to : b.level ≤ 65535

-- the step from one sample to the next
abbrev pub step_from : Sample → Sample → Command
step_from a b = step_to a.tick a.level b.tick b.level

-- the step from sample i to the next
abbrev pub step_at : List ℕ → List ℤ → ℕ → Command
step_at ts vs i = step_to (tick ts i) (level (value vs i)) (tick ts (i + 1)) (level (value vs (i + 1)))

-- ---- the record in parts

-- the samples' commands: the first sample, the steps and the end
abbrev pub kept_samples : List ℕ → List ℤ → List ℕ → List ℕ
kept_samples ts vs l = samples_onto (kept_ticks ts l) (kept_values vs l)

-- the steps after sample i, and the end
unfoldable pub rest_of : List ℕ → List ℤ → ℕ → List ℕ
rest_of ts vs i = steps_onto (tick ts i) (level (value vs i)) (drop (suc i) ts) (drop (suc i) vs) (command_onto (End (length ts)) [])

-- n bytes follow the first sample, and the kept values are of 16 bits
pub record RestLength (ts : List ℕ) (vs : List ℤ) (l : List ℕ) (n : ℕ) : Type 0 where
  pub is : n ≡ length (rest_of (kept_ticks ts l) (kept_values vs l) 0)
  pub range : (k : ℕ) → mag (value (kept_values vs l) k) < 32768

-- n bytes follow the tolerance
pub record SamplesLength (ts : List ℕ) (vs : List ℤ) (l : List ℕ) (n : ℕ) : Type 0 where
  pub is : n ≡ length (kept_samples ts vs l)
  pub range : (k : ℕ) → mag (value (kept_values vs l) k) < 32768

-- n is the record's length
pub record LengthOf (x : Parts) (ts : List ℕ) (vs : List ℤ) (l : List ℕ) (n : ℕ) : Type 0 where
  pub is : n ≡ length (encode (selected x ts vs l))
  pub range : (k : ℕ) → mag (value (kept_values vs l) k) < 32768

-- the tolerance, 7 bytes for the first sample, at most 6 for each step, and 3 for the end
abbrev pub most_bytes : Parts → ℕ → ℕ
most_bytes x n = size_of (tolerance_command x) + 4 + 6 * n

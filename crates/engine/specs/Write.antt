-- The outcome of write (document 01, "The record" and "When the engine declines").
--   write_rows     the first row that applies, in the order 1, 2, 3, 4, 15, 6, 7, 10
--   link_row       row 7: an invalid link
--   content_of     what is written: the held tolerance and the samples that the list keeps
--   Recorded       what holds where a record was written
--   WriteOutcome   the contract: by cases on the answer
--   ListReady      what the checks 1 to 4, 15 and 6 give
-- A refused call leaves the event buffer as it was. Otherwise the record's bytes stand from the place on, and the others stay.
-- Assumes nothing.
use Rattle.std.specs.Prelude.{◌≡◌, List, ℕ, ◌-◌, ℤ, length, take, drop, Err, Ok, Result}
use Rattle.lists.specs.Part.{overwrite_from}
use Rattle.refusal.specs.declared.Refusal.TheVariants.{Link}
use Rattle.refusal.specs.Table.{placed, ◌then_check◌, Checked}
use Rattle.kept.specs.Kept.{KeptList}
use Rattle.limits.specs.declared.Limits.{Limits}
use Rattle.trace.specs.declared.Criterion.{Criterion}
use Rattle.proposed.specs.Proposed.{list_row, first_invalid}
use Rattle.format.specs.Format.{Content, encode, Accepted}
use Rattle.writer.specs.Writing.{selected, write_row}
use Rattle.limits.specs.Prepare.{criterion_of, parts_of, ReadyAt}
use Rattle.judging.specs.Judge.{judge_rows}
use Rattle.refusal.specs.declared.Refusal.{Refusal}

abbrev pub content_of : List ℕ → List ℤ → List ℕ → Limits → Content
content_of ts vs l t = selected (parts_of (criterion_of t)) ts vs l

-- 7: an invalid link, at the position of the first
abbrev pub link_row : List ℕ → List ℤ → List ℕ → Limits → Checked
link_row ts vs l t = placed Link (length l - 1) (first_invalid ts vs (criterion_of t) l)

-- the rows of judge, 7, and 10 for a buffer of m bytes
unfoldable pub write_rows : List ℕ → List ℤ → List ℕ → Limits → ℕ → ℕ → Checked
write_rows ts vs l t m place = judge_rows ts vs l t then_check link_row ts vs l t then_check write_row (encode (content_of ts vs l t)) m place

-- n bytes were written: the record of the content, which reads back to it
pub record Recorded (ts : List ℕ) (vs : List ℤ) (l : List ℕ) (t : Limits) (o : List ℕ) (place n : ℕ) (o' : List ℕ) : Type 0 where
  pub rows : write_rows ts vs l t (length o) place ≡ Ok tt
  pub count : n ≡ length (encode (content_of ts vs l t))
  pub content : o' ≡ overwrite_from place (encode (content_of ts vs l t)) o
  pub accepted : Accepted (take n (drop place o')) (content_of ts vs l t)

abbrev pub WriteOutcome : List ℕ → List ℤ → List ℕ → Limits → List ℕ → ℕ → Result ℕ Refusal → List ℕ → Type 0
WriteOutcome ts vs l t o place (Ok n) o' = Recorded ts vs l t o place n o'
WriteOutcome ts vs l t o place (Err x) o' = (write_rows ts vs l t (length o) place ≡ Err x) × (o' ≡ o)

-- the checks 1 to 4, 15 and 6 pass
pub record ListReady (ts : List ℕ) (vs : List ℤ) (l : List ℕ) (t : Limits) (c : Criterion) : Type 0 where
  pub ready : ReadyAt ts vs t c
  pub list : list_row (length ts) l ≡ Ok tt
  pub kept : KeptList (length ts - 1) l

-- Reading and comparing records (document 01, "The record" and "When the engine declines"): each call's complete outcome.
--   record_row, outputs_row                  rows 8 and 9: a faulty record; row 10: an output too short
--   read_rows, same_rows                     the first row that applies
--   Said, ReadBack, ReadDeclined, Compared   what holds of each answer
--   CheckOutcome, ReadOutcome, SameOutcome   what is answered, and what lent lists then hold
-- Laws are in ReadingLaws and FaultPlaces. Assumes nothing.
use Rattle.std.specs.Prelude.{◌≡◌, ◌↔◌, ◌&&◌, List, ℕ, leb, ℤ, length, Result, Err, Ok}
use Rattle.lists.specs.Overwrite.{Wrote}
use Rattle.refusal.specs.declared.Refusal.{Refusal}
use Rattle.refusal.specs.declared.Refusal.TheVariants.{Record, SecondRecord, Room}
use Rattle.refusal.specs.Table.{row, ◌then_check◌, Checked}
use Rattle.tolerance.specs.declared.Parts.{Parts}
use Rattle.format.specs.Format.{Content, Parsed, faulty, says, parse, Accepted, SameRecord}
use Rattle.commands.specs.declared.Content.{Content as Told}
use Rattle.commands.specs.Passing.{Verdict}
use Rattle.reader.specs.declared.Comparison.{Comparison}
use Rattle.reader.specs.declared.Comparison.TheVariants.{Same, Different}

-- ---- rows

-- 8, 9: a faulty record, at the fault's byte
abbrev pub record_row : (ℕ → Refusal) → Parsed → Checked
record_row cause (faulty k) = Err (cause k)
record_row cause (says x) = Ok tt

-- 10: lists of m and n entries, which need one for each sample
abbrev pub outputs_row : ℕ → ℕ → Parsed → Checked
outputs_row m n (faulty k) = Ok tt
outputs_row m n (says x) = row (leb (length x.ticks) m && leb (length x.ticks) n) (Room (length x.ticks))

abbrev pub read_rows : List ℕ → ℕ → ℕ → Checked
read_rows b m n = record_row Record (parse b) then_check outputs_row m n (parse b)

abbrev pub same_rows : List ℕ → List ℕ → Checked
same_rows a b = record_row Record (parse a) then_check record_row SecondRecord (parse b)

-- ---- outcomes

-- the record b gives n samples at the tolerance x
pub record Said (b : List ℕ) (n : ℕ) (x : Parts) : Type 0 where
  pub content : Content
  pub accepted : Accepted b content
  pub count : n ≡ length content.ticks
  pub tolerance : x ≡ content.tolerance

abbrev pub CheckOutcome : List ℕ → Verdict → Type 0
CheckOutcome b (Ok x) = Said b x.samples x.tolerance
CheckOutcome b (Err fault) = parse b ≡ faulty fault.at

-- n samples of the record b, at the tolerance x, were written over the front of the lent lists
pub record ReadBack (b : List ℕ) (ts : List ℕ) (vs : List ℤ) (n : ℕ) (x : Parts) (ts' : List ℕ) (vs' : List ℤ) : Type 0 where
  pub rows : read_rows b (length ts) (length vs) ≡ Ok tt
  pub content : Content
  pub accepted : Accepted b content
  pub tolerance : x ≡ content.tolerance
  pub ticks : Wrote content.ticks ts n ts'
  pub values : Wrote content.values vs n vs'

-- a row applied, and the lent lists are as they were
pub record ReadDeclined (b : List ℕ) (ts : List ℕ) (vs : List ℤ) (e : Refusal) (ts' : List ℕ) (vs' : List ℤ) : Type 0 where
  pub rows : read_rows b (length ts) (length vs) ≡ Err e
  pub ticks : ts' ≡ ts
  pub values : vs' ≡ vs

abbrev pub ReadOutcome : List ℕ → List ℕ → List ℤ → Result Told Refusal → List ℕ → List ℤ → Type 0
ReadOutcome b ts vs (Ok x) ts' vs' = ReadBack b ts vs x.samples x.tolerance ts' vs'
ReadOutcome b ts vs (Err e) ts' vs' = ReadDeclined b ts vs e ts' vs'

-- both records are accepted, they are the same exactly if their bytes agree, and P holds of their contents
pub record Compared (a b : List ℕ) (P : Content → Content → Type 0) : Type 0 where
  pub first : Content
  pub second : Content
  pub first_accepted : Accepted a first
  pub second_accepted : Accepted b second
  pub bytes : SameRecord first second ↔ a ≡ b
  pub holds : P first second

abbrev pub SameOutcome : List ℕ → List ℕ → Result Comparison Refusal → Type 0
SameOutcome a b (Ok Same) = Compared a b SameRecord
SameOutcome a b (Ok Different) = Compared a b (λ x y. SameRecord x y → ⊥)
SameOutcome a b (Err e) = same_rows a b ≡ Err e

-- What the passes over the commands of a record go by (document 01, "The record").
--   Verdict, record_verdict  what is answered of a record: what it says, or its fault; that of what is parsed
--   is_sample, sample_of     a step leads to a sample; which, if it does
--   closed_by                the verdict after the last sample
--   CursorOk, AfterFirst     a cursor within a record; one after the first sample
--   Entry, Fitting, Filled   lists with an entry for a sample; for all samples; samples written over them
-- Laws are in PassLaws and CommandsAt. Assumes nothing.
use Rattle.std.specs.Prelude.{◌≡◌, Bool, true, false, List, ℕ, ◌≤◌, ℤ, length, Option, Some, None, Result, Ok, Err}
use Rattle.lists.specs.Overwrite.{overwrite}
use Rattle.tolerance.specs.declared.Parts.{Parts}
use Rattle.format.specs.declared.Cursor.{Cursor}
use Rattle.format.specs.declared.Step.{Step}
use Rattle.format.specs.declared.Step.TheVariants.{Sample, End as Ended, Fault as Faulty}
use Rattle.format.specs.Format.{Samples, fault, samples, Parsed, faulty, says}
use Rattle.format.specs.declared.Fault.{Fault}
use Rattle.commands.specs.declared.Content.{Content}

abbrev pub Verdict : Type 0
Verdict = Result Content Fault

abbrev pub record_verdict : Parsed → Verdict
record_verdict (faulty k) = Err (record { at = k })
record_verdict (says x) = Ok (record { samples = length x.ticks; tolerance = x.tolerance })

-- a step leads to a sample
abbrev pub is_sample : Step → Bool
is_sample (Sample d) = true
is_sample Ended = false
is_sample (Faulty k) = false

-- the sample to which a step leads
abbrev pub sample_of : Step → Option Cursor
sample_of (Sample d) = Some d
sample_of Ended = None
sample_of (Faulty k) = None

-- the verdict at a cursor that no sample follows
abbrev pub closed_by : Parts → Cursor → Step → Verdict
closed_by x c (Sample d) = Err (record { at = c.at })
closed_by x c Ended = Ok (record { samples = c.count; tolerance = x })
closed_by x c (Faulty k) = Err (record { at = k })

-- a cursor within a record of n bytes
pub record CursorOk (n : ℕ) (c : Cursor) : Type 0 where
  pub at : c.at ≤ n
  pub begun : c.first ≤ c.tick
  pub tick : c.tick ≤ 4294967295
  pub level : c.level ≤ 65535
  pub count : c.count ≤ 4096

-- and after its first sample
pub record AfterFirst (n : ℕ) (c : Cursor) : Type 0 where
  pub ready : CursorOk n c
  pub one : c.count ≡ 1

-- lists of m and n entries have one for the sample at the cursor
pub record Entry (c : Cursor) (m n : ℕ) : Type 0 where
  pub some : 1 ≤ c.count
  pub ticks : c.count ≤ m
  pub values : c.count ≤ n
  pub tick : c.tick ≤ 4294967295
  pub level : c.level ≤ 65535

-- there are n samples, and lists of k and m entries have one for each
abbrev pub Fitting : Samples → ℕ → ℕ → ℕ → Type 0
Fitting (fault j) n k m = ⊥
Fitting (samples ts vs) n k m = (length ts ≡ n) × (n ≤ k) × (n ≤ m)

abbrev pub Filled : Samples → List ℕ → List ℤ → List ℕ → List ℤ → Type 0
Filled (fault k) ts vs ts' vs' = (ts' ≡ ts) × (vs' ≡ vs)
Filled (samples t v) ts vs ts' vs' = (ts' ≡ overwrite t ts) × (vs' ≡ overwrite v vs)

-- Where the fault of bytes lies (document 01, "The record"), without the parser: where the longest run of whole commands that obey the
-- rules ends. That is the first byte of the first command that breaks a rule or is cut off, the first byte after a whole end command, or
-- the end of the bytes where a command is missing.
--   Run       bytes are whole commands that obey the rules, in order
--   FaultAt   the fault of the bytes b lies at byte k
-- Laws are in RunLaws and FaultLaws; examples are in proofs/Examples. Assumes nothing.
use Rattle.std.specs.Prelude.{◌≡◌, List, [], ◌++◌, ℕ, ◌≤◌, length, take}
use Rattle.tolerance.specs.declared.Parts.{Parts}
use Rattle.tolerance.specs.Meaning.{HeldParts}
use Rattle.format.specs.Command.{command_onto}
use Rattle.format.specs.Format.{Content, Legal, tolerance_command, encode}
use Rattle.format.specs.declared.Command.TheVariants.{End}

-- none; a tolerance; the record of a legal content without its end command; such a record
pub data Run (s : List ℕ) : Type 0 where
  none : s ≡ [] → Run s
  tolerance_only : (x : Parts) → HeldParts x → s ≡ command_onto (tolerance_command x) [] → Run s
  unended : (x : Content) → Legal x → s ++ command_onto (End (length x.ticks)) [] ≡ encode x → Run s
  complete : (x : Content) → Legal x → s ≡ encode x → Run s

-- the first k bytes are a run, no more of the first bytes are one, and b is no record
pub record FaultAt (b : List ℕ) (k : ℕ) : Type 0 where
  pub inside : k ≤ length b
  pub run : Run (take k b)
  pub longest : (n : ℕ) → n ≤ length b → Run (take n b) → n ≤ k
  pub no_record : (x : Content) → Legal x → b ≡ encode x → ⊥

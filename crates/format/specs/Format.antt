-- The format of a record (document 01, "The record"; document 02, "Above and below"): what a record says, and the record that says it.
--   Content, Legal                      a tolerance in two parts, and samples; what can be said
--   is_held                             a ratio is allowed as a tolerance, and in lowest terms
--   are_sides                           both parts are, and they differ
--   in_limits, short                    a sample is within the limits of a trace; a step is short
--   follows                             a sample may follow the one at a cursor
--   short_obeys, long_obeys             a short and a long step obey the rules
--   moved                               where a step leads, or its fault
--   short_step, long_step, end_step     what each command after the first sample does
--   obey, step_of                       what a command does at a cursor; the command there
--   Samples                             samples, or the fault's byte
--   onto, follow                        a sample before others; a step, and the samples after it
--   steps, samples_from                 the samples that the commands from a cursor on give; with the cursor's own before them
--   no_header                           a header's fault
--   sample_header, tolerance_header     the first sample's command after a tolerance of k bytes; the tolerance's command, and then that one
--   header_of                           the tolerance and the first sample of a record, or the fault's byte
--   Parsed                              what a record says, or the fault's byte
--   attach, began                       what samples say with a tolerance; what a record says from its header on
--   parse                               what a record says
--   tolerance_command                   the command that says a tolerance: 54 for equal parts, 42 for others
--   step_to, steps_onto, samples_onto   a step as a command; steps as they are written, before other bytes; all samples' commands
--   encode                              the record of a content
--   Accepted                            what holds of an accepted record and its content
--   SameRecord                          two records are the same: both parts of their tolerances agree, and their kept samples
-- Where a fault lies is said without the parser in Fault.
-- Laws are in RuleLaws, HeaderLaws, ParseEncode, EncodeParse, FaultLaws and SameLaws; examples are in proofs/Examples. Assumes nothing.
use Rattle.std.specs.Prelude.{◌≡◌, Bool, not, ◌&&◌, List, [], ◌∷◌, ℕ, zero, suc, ◌+◌, ◌-◌, ◌≤◌, ◌<◌, leb, eqb, ltb, ℤ, length, drop, Result, Ok, Err}
use Rattle.std.specs.Int.Signed.{mag}
use Rattle.ratio.specs.declared.Ratio.{Ratio}
use Rattle.ratio.specs.Gcd.{gcd}
use Rattle.tolerance.specs.declared.Parts.{Parts}
use Rattle.tolerance.specs.Meaning.{HeldParts, allowed_ratio, alike, agree}
use Rattle.trace.specs.Trace.{tick, value, Trace}
use Rattle.trace.specs.Level.{level}
use Rattle.format.specs.Number.{value_of}
use Rattle.format.specs.Command.{choose, command_of, command_onto}
use Rattle.format.specs.declared.Cursor.{Cursor}
use Rattle.format.specs.declared.Command.{Command}
use Rattle.format.specs.declared.Command.TheVariants.{Tolerance, Sides, First, Short, Long, End, Invalid}
use Rattle.format.specs.declared.Step.{Step}
use Rattle.format.specs.declared.Step.TheVariants.{Sample, End as Ended, Fault}
use Rattle.format.specs.declared.Header.{Header}
use Rattle.format.specs.declared.Fault.{Fault as FaultPlace}

-- ---- what a record says

pub record Content : Type 0 where
  pub tolerance : Parts
  pub ticks : List ℕ
  pub values : List ℤ

-- held parts and the samples of a trace, of 32-bit ticks and 16-bit values
pub record Legal (x : Content) : Type 0 where
  pub held : HeldParts x.tolerance
  pub trace : Trace x.ticks x.values
  pub tick_range : (k : ℕ) → tick x.ticks k ≤ 4294967295
  pub value_range : (k : ℕ) → mag (value x.values k) < 32768

-- ---- the rules

-- a ratio as a tolerance is held (tolerance: specs/Meaning, `Held`)
unfoldable pub is_held : Ratio → Bool
is_held r = allowed_ratio r.p r.q && eqb (gcd r.p r.q) 1

-- the parts that 42 says: equal ones are said by 54
unfoldable pub are_sides : Parts → Bool
are_sides x = is_held x.up && is_held x.down && not (agree x)

-- a sample after the first one's tick: the tick is 32 bits, the span at most 1,048,575, the value 16 bits
abbrev pub in_limits : ℕ → ℕ → ℕ → Bool
in_limits first tick level = leb tick 4294967295 && leb tick (first + 1048575) && leb level 65535

-- a step from one level to the next is short: an advance of at most 255, and a change from -128 to 127
abbrev pub short : ℕ → ℕ → ℕ → Bool
short level advance next = leb advance 255 && leb level (next + 128) && leb next (level + 127)

-- ---- a step

-- the sample that a step leads to may follow
abbrev pub follows : Cursor → ℕ → ℕ → Bool
follows c tick level = in_limits c.first tick level && ltb c.count 4096

-- a step of k bytes to the next sample, if it obeys the rules
abbrev pub moved : Bool → ℕ → Cursor → ℕ → ℕ → Step
moved ok k c tick level =
    choose ok (Sample (record { at = c.at + k; first = c.first; tick = tick; level = level; count = c.count + 1 })) (Fault c.at)

-- a short step obeys the rules: an advance from 1, and a change of d - 128
abbrev pub short_obeys : Cursor → ℕ → ℕ → Bool
short_obeys c a d = leb 1 a && leb 128 (c.level + d) && follows c (c.tick + a) (c.level + d - 128)

-- a long step obeys them: an advance from 1, and no short step could take its place
abbrev pub long_obeys : Cursor → ℕ → ℕ → Bool
long_obeys c a level = leb 1 a && not (short c.level a level) && follows c (c.tick + a) level

unfoldable pub short_step : Cursor → ℕ → ℕ → Step
short_step c a d = moved (short_obeys c a d) 3 c (c.tick + a) (c.level + d - 128)

unfoldable pub long_step : Cursor → ℕ → ℕ → Step
long_step c a level = moved (long_obeys c a level) 6 c (c.tick + a) level

-- the end of a record of n bytes: it gives the number of samples, and nothing follows
unfoldable pub end_step : ℕ → Cursor → ℕ → Step
end_step n c m = choose (eqb m c.count) (choose (eqb (c.at + 3) n) Ended (Fault (c.at + 3))) (Fault c.at)

-- what a command does at a cursor of a record of n bytes
abbrev pub obey : ℕ → Cursor → Command → Step
obey n c (Short a d) = short_step c a d
obey n c (Long a level) = long_step c a level
obey n c (End m) = end_step n c m
obey n c (Tolerance r) = Fault c.at
obey n c (Sides x) = Fault c.at
obey n c (First t l) = Fault c.at
obey n c Invalid = Fault c.at

abbrev pub step_of : List ℕ → Cursor → Step
step_of b c = obey (length b) c (command_of (drop c.at b))

-- ---- the whole record

pub data Samples : Type 0 where
  fault : ℕ → Samples
  samples : List ℕ → List ℤ → Samples

-- the sample that a cursor stands after, and then the others
abbrev pub onto : Cursor → Samples → Samples
onto c (fault k) = fault k
onto c (samples ts vs) = samples (c.tick ∷ ts) (value_of c.level ∷ vs)

abbrev pub follow : Step → (Cursor → Samples) → Samples
follow (Sample c) go = onto c (go c)
follow Ended go = samples [] []
follow (Fault k) go = fault k

-- at most n commands
unfoldable pub steps : List ℕ → ℕ → Cursor → Samples
steps b zero c = fault c.at
steps b (suc n) c = follow (step_of b c) (λ d. steps b n d)

-- with the first sample, which the cursor stands after
abbrev pub samples_from : List ℕ → Cursor → Samples
samples_from b c = onto c (steps b 4096 c)

-- no header: the fault lies at byte k
abbrev pub no_header : ℕ → Result Header FaultPlace
no_header k = Err (record { at = k })

-- after a tolerance x of k bytes, the first sample
abbrev pub sample_header : ℕ → Parts → Command → Result Header FaultPlace
sample_header k x (First t l) = Ok (record { tolerance = x; first = record { at = k + 7; first = t; tick = t; level = l; count = 1 } })
sample_header k x (Tolerance _) = no_header k
sample_header k x (Sides _) = no_header k
sample_header k x (Short _ _) = no_header k
sample_header k x (Long _ _) = no_header k
sample_header k x (End _) = no_header k
sample_header k x Invalid = no_header k

-- the tolerance at the front of b, and then the first sample
abbrev pub tolerance_header : List ℕ → Command → Result Header FaultPlace
tolerance_header b (Tolerance r) = choose (is_held r) (sample_header 9 (alike r) (command_of (drop 9 b))) (no_header 0)
tolerance_header b (Sides x) = choose (are_sides x) (sample_header 17 x (command_of (drop 17 b))) (no_header 0)
tolerance_header b (First _ _) = no_header 0
tolerance_header b (Short _ _) = no_header 0
tolerance_header b (Long _ _) = no_header 0
tolerance_header b (End _) = no_header 0
tolerance_header b Invalid = no_header 0

abbrev pub header_of : List ℕ → Result Header FaultPlace
header_of b = tolerance_header b (command_of b)

pub data Parsed : Type 0 where
  faulty : ℕ → Parsed
  says : Content → Parsed

abbrev pub attach : Parts → Samples → Parsed
attach x (fault k) = faulty k
attach x (samples ts vs) = says (record { tolerance = x; ticks = ts; values = vs })

abbrev pub began : List ℕ → Result Header FaultPlace → Parsed
began b (Ok h) = attach h.tolerance (samples_from b h.first)
began b (Err e) = faulty e.at

unfoldable pub parse : List ℕ → Parsed
parse b = began b (header_of b)

-- ---- writing

-- 42 exactly if the parts differ
unfoldable pub tolerance_command : Parts → Command
tolerance_command x = choose (agree x) (Tolerance x.up) (Sides x)

-- the step from a tick and a level to the next: short exactly if it can be
abbrev pub step_to : ℕ → ℕ → ℕ → ℕ → Command
step_to t l t' l' = choose (short l (t' - t) l') (Short (t' - t) (l' + 128 - l)) (Long (t' - t) l')

-- the steps from a tick and a level to each next sample, and then xs
unfoldable pub steps_onto : ℕ → ℕ → List ℕ → List ℤ → List ℕ → List ℕ
steps_onto t l [] vs xs = xs
steps_onto t l (t' ∷ ts) [] xs = xs
steps_onto t l (t' ∷ ts) (v' ∷ vs) xs = command_onto (step_to t l t' (level v')) (steps_onto t' (level v') ts vs xs)

-- the samples' commands: the first sample, the steps and the end
unfoldable pub samples_onto : List ℕ → List ℤ → List ℕ
samples_onto [] vs = []
samples_onto (t ∷ ts) [] = []
samples_onto (t ∷ ts) (v ∷ vs) = command_onto (First t (level v)) (steps_onto t (level v) ts vs (command_onto (End (length (t ∷ ts))) []))

unfoldable pub encode : Content → List ℕ
encode x = command_onto (tolerance_command x.tolerance) (samples_onto x.ticks x.values)

-- the record b says x: it is the record of x, which can be said
pub record Accepted (b : List ℕ) (x : Content) : Type 0 where
  pub parsed : parse b ≡ says x
  pub bytes : b ≡ encode x
  pub legal : Legal x

-- ---- comparison

-- document 02, "Same record, strictly": the tolerance is both parts
pub record SameRecord (x y : Content) : Type 0 where
  pub tolerance : x.tolerance ≡ y.tolerance
  pub ticks : x.ticks ≡ y.ticks
  pub values : x.values ≡ y.values

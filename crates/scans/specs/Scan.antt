-- Walk at several tolerances in one pass (document 02, "Sixteen tolerances in one reading").
--   criterion_at            the criterion of tolerance a under the gap limit
--   none, walk_at           no walk; walk at tolerance a
--   Ratios                  the parts of up to 16 tolerances, each allowed
--   Sampling                every tolerance's turn can be made
--   Insides                 each tolerance writes into its part next
--   next_at                 what a step makes of what is held of tolerance a
--   AllBecame               at every tolerance walk became what f gives
--   Begun                   no link is open, and each tolerance writes at the start of its part next
--   hole_before, cut_at     a hole lies before sample j; links of more than one step to sample j + 1 are cut
--   links_of                what is held of a tolerance, as links from a sample
--   Walked                  what is held of a tolerance is walk's, with the samples up to j taken in
--   Given, Scanning         what the pass requires; the pass with the samples up to j taken in
--   Closing, Closed         every part can be closed with the last sample; it was
--   Scanned                 every part begins with walk's list at its tolerance, and nothing else changed
-- Laws are in WalkedLaws (Walked) and PassLaws. Assumes nothing.
use Rattle.std.specs.Prelude.{◌≡◌, Bool, true, ◌||◌, List, ℕ, zero, suc, ◌+◌, ◌-◌, ◌*◌, ◌≤◌, ◌<◌, ℤ, length, get_or, set, drop}
use Rattle.lists.specs.Overwrite.{overwrite}
use Rattle.ratio.specs.Order.{over}
use Rattle.kept.specs.Walk.{walk_start}
use Rattle.tolerance.specs.declared.Parts.{Parts}
use Rattle.trace.specs.declared.Criterion.{Criterion}
use Rattle.trace.specs.Trace.{value, Trace}
use Rattle.trace.specs.Link.{parted, Bounded, hole, valid, links_end}
use Rattle.tolerances.specs.Tolerances.{parts_at}
use Rattle.outgoing.specs.declared.Links.{Links}
use Rattle.outgoing.specs.Outgoing.{TakenIn}
use Rattle.reduction.specs.Walking.{walk_list}
use Rattle.turns.specs.declared.Sample.{Sample}
use Rattle.turns.specs.declared.Step.{Step}
use Rattle.turns.specs.declared.Walk.{Walk}
use Rattle.turns.specs.Sample.{SampleAt}
use Rattle.turns.specs.Held.{Held, stepped, part, Inside, held_in}
use Rattle.turns.specs.Turn.{started, Turning}
use Rattle.scans.specs.Answers.{kept_before}

abbrev pub criterion_at : List Parts → ℕ → ℕ → Criterion
criterion_at ps g a = parted g (parts_at ps a).up (parts_at ps a).down

-- behind a list of walks
abbrev pub none : Walk
none = started (record { up = over 0 0; down = over 0 0; gap = 0 }) 0

abbrev pub walk_at : List Walk → ℕ → Walk
walk_at ws a = get_or ws a none

pub record Ratios (ps : List Parts) (g : ℕ) : Type 0 where
  pub few : length ps ≤ 16
  pub bounded : (a : ℕ) → a < length ps → Bounded (criterion_at ps g a)

-- ---- one sample

pub record Sampling (step : Step) (ws : List Walk) (out : List ℕ) : Type 0 where
  pub each : (a : ℕ) → a < length ws → Turning step (walk_at ws a) out

pub record Insides (n : ℕ) (ws : List Walk) : Type 0 where
  pub each : (a : ℕ) → a < length ws → Inside n a (walk_at ws a).place

abbrev pub next_at : ℕ → Step → List Walk → List ℕ → ℕ → Held
next_at n step ws out a = stepped (walk_at ws a).criterion step.cut step.before step.here step.at (held_in n a (walk_at ws a) out)

pub record AllBecame (n : ℕ) (f : ℕ → Held) (ws : List Walk) (out : List ℕ) (ws' : List Walk) (out' : List ℕ) : Type 0 where
  pub criteria : (a : ℕ) → (walk_at ws' a).criterion ≡ (walk_at ws a).criterion
  pub each : (a : ℕ) → a < length ws → held_in n a (walk_at ws' a) out' ≡ f a
  pub places : (a : ℕ) → (walk_at ws a).place ≤ (walk_at ws' a).place
  pub beyond : drop (length ws * n) out' ≡ drop (length ws * n) out

-- ---- the pass

pub record Begun (ps : List Parts) (g n : ℕ) (ws : List Walk) : Type 0 where
  pub sized : length ws ≡ 16
  pub each : (a : ℕ) → a < length ps → walk_at ws a ≡ started (criterion_at ps g a) (a * n)

-- nothing lies before the first sample; it is kept as if a hole did
unfoldable pub hole_before : List ℕ → ℕ → ℕ → Bool
hole_before ts g zero = true
hole_before ts g (suc j) = hole ts g j

-- the open link is valid up to sample j: it goes one step there, or crosses no hole
abbrev pub cut_at : List ℕ → ℕ → ℕ → Bool
cut_at ts g j = hole_before ts g j || hole ts g j

abbrev pub links_of : List ℕ → List ℤ → ℕ → ℕ → Held → Links
links_of ts vs g i h = record { from = record { sample = i; tick = h.tick; level = h.level; value = value vs i }; cone = h.cone; limit = links_end ts g i }

-- what is held of a tolerance with the samples 0 to j taken in, over the part o: walk's open link at j, and the samples that it has kept so far
pub record Walked (ts : List ℕ) (vs : List ℤ) (c : Criterion) (o : List ℕ) (j : ℕ) (h : Held) : Type 0 where
  pub taken : 0 < j → TakenIn ts vs c (walk_start (valid ts vs c) j) (suc j) (links_of ts vs c.gap (walk_start (valid ts vs c) j) h)
  pub count : h.count ≡ length (kept_before (valid ts vs c) j)
  pub list : h.list ≡ overwrite (kept_before (valid ts vs c) j) o

pub record Given (ts : List ℕ) (vs : List ℤ) (ps : List Parts) (g : ℕ) (o : List ℕ) : Type 0 where
  pub trace : Trace ts vs
  pub ratios : Ratios ps g
  pub room : length ps * length ts ≤ length o

pub record Scanning (ts : List ℕ) (vs : List ℤ) (ps : List Parts) (g : ℕ) (o : List ℕ) (j : ℕ) (here : Sample) (before : Bool) (ws : List Walk) (out : List ℕ) : Type 0 where
  pub given : Given ts vs ps g o
  pub within : j < length ts
  pub sample : SampleAt ts vs j here
  pub before_is : before ≡ hole_before ts g j
  pub sized : length ws ≡ length ps
  pub criteria : (a : ℕ) → a < length ps → (walk_at ws a).criterion ≡ criterion_at ps g a
  pub each : (a : ℕ) → a < length ps → Walked ts vs (criterion_at ps g a) (part (length ts) a o) j (held_in (length ts) a (walk_at ws a) out)
  pub from : (a : ℕ) → a < length ps → a * length ts ≤ (walk_at ws a).place
  pub beyond : drop (length ps * length ts) out ≡ drop (length ps * length ts) o
  pub same : length out ≡ length o

pub record Closing (n : ℕ) (ws : List Walk) (out : List ℕ) : Type 0 where
  pub few : length ws ≤ 16
  pub room : length ws * n ≤ length out
  pub some : 0 < n
  pub short : n ≤ 4096
  pub inside : Insides n ws

pub record Closed (n : ℕ) (ws : List Walk) (out counts out' : List ℕ) : Type 0 where
  pub count : (a : ℕ) → a < length ws → get_or counts a 0 ≡ (walk_at ws a).place - a * n + 1
  pub none : (a : ℕ) → length ws ≤ a → get_or counts a 0 ≡ 0
  pub list : (a : ℕ) → a < length ws → part n a out' ≡ set (part n a out) ((walk_at ws a).place - a * n) (n - 1)
  pub beyond : drop (length ws * n) out' ≡ drop (length ws * n) out

pub record Scanned (ts : List ℕ) (vs : List ℤ) (ps : List Parts) (g : ℕ) (o counts o' : List ℕ) : Type 0 where
  pub parts : (a : ℕ) → a < length ps → part (length ts) a o' ≡ overwrite (walk_list ts vs (criterion_at ps g a)) (part (length ts) a o)
  pub kept : (a : ℕ) → a < length ps → get_or counts a 0 ≡ length (walk_list ts vs (criterion_at ps g a))
  pub none : (a : ℕ) → length ps ≤ a → get_or counts a 0 ≡ 0
  pub beyond : drop (length ps * length ts) o' ≡ drop (length ps * length ts) o

-- The measure of a link (document 02, "Where the line strays"): its error, the sample where that error occurs first, and its side.
--   farthest_at    sample k deviates by as much as any of the link's samples
--   worst_sample   the first sample from i on that does: sample i itself, which lies on the line, where the error is 0
--   deviation_of   the deviation of a stray
--   stray_of       the greatest deviation, which need not be in lowest terms, and that sample
--   measure_of     the measure of the link i to j
--   gap_of         what is said of a link across a hole: its error, "gap" and the sample before its first hole
--   fault_of       what is said of an invalid link: its measure; what is said of its hole, if each sample is within the criterion
--   Strays         what a measure says: the sample deviates by the error, none before it does, and the side is its deviation's sign
--   Cut            each sample of a link is within the criterion, and a hole follows a sample
--   Outside        some sample of a link is not within the criterion; at equal parts the sample that is named is not
--   OffendsOn, Offends   what is said of an invalid link, and that it is so
-- Laws are in MeasureLaws. Assumes nothing.
use Rattle.std.specs.Prelude.{◌≡◌, Bool, cond, List, ℕ, suc, ◌-◌, ◌*◌, ◌≤◌, ◌<◌, eqb, ℤ, nat_abs}
use Rattle.lists.specs.First.{first}
use Rattle.ratio.specs.declared.Ratio.{Ratio}
use Rattle.ratio.specs.Order.{over}
use Rattle.trace.specs.declared.Criterion.{Criterion}
use Rattle.trace.specs.declared.Side.{Side}
use Rattle.trace.specs.declared.Side.TheVariants.{On, Above, Below, Gap}
use Rattle.trace.specs.Trace.{tick}
use Rattle.trace.specs.Link.{deviation, farthest, link_error, hole, Within, AllWithin, all_within, side_of}
use Rattle.measures.specs.declared.Stray.{Stray}
use Rattle.measures.specs.declared.Measure.{Measure}

abbrev pub farthest_at : List ℕ → List ℤ → ℕ → ℕ → ℕ → Bool
farthest_at ts vs i j k = eqb (nat_abs (deviation ts vs i j k)) (farthest ts vs i j)

unfoldable pub worst_sample : List ℕ → List ℤ → ℕ → ℕ → ℕ
worst_sample ts vs i j = first (farthest_at ts vs i j) i j

abbrev pub deviation_of : Stray → Ratio
deviation_of s = over s.p s.q

abbrev pub stray_of : List ℕ → List ℤ → ℕ → ℕ → Stray
stray_of ts vs i j = record { p = farthest ts vs i j; q = tick ts j - tick ts i; sample = worst_sample ts vs i j }

abbrev pub measure_of : List ℕ → List ℤ → ℕ → ℕ → Measure
measure_of ts vs i j = let k = worst_sample ts vs i j in record { error = link_error ts vs i j; sample = k; side = side_of (deviation ts vs i j k) }

abbrev pub gap_of : List ℕ → List ℤ → ℕ → ℕ → ℕ → Measure
gap_of ts vs g i j = record { error = link_error ts vs i j; sample = first (hole ts g) i j; side = Gap }

unfoldable pub fault_of : List ℕ → List ℤ → Criterion → ℕ → ℕ → Measure
fault_of ts vs c i j = cond (all_within ts vs c i j) (gap_of ts vs c.gap i j) (measure_of ts vs i j)

-- |deviation| / (tj - ti) is the error at the sample, below it before, and nowhere above it; sample i, where it is 0, counts as one before
pub record Strays (ts : List ℕ) (vs : List ℤ) (i j : ℕ) (m : Measure) : Type 0 where
  pub from : i ≤ m.sample
  pub before : m.sample < j
  pub there : nat_abs (deviation ts vs i j m.sample) * m.error.q ≡ m.error.p * (tick ts j - tick ts i)
  pub first : (k : ℕ) → i ≤ k → k < m.sample → nat_abs (deviation ts vs i j k) * m.error.q < m.error.p * (tick ts j - tick ts i)
  pub most : (k : ℕ) → i ≤ k → k < j → nat_abs (deviation ts vs i j k) * m.error.q ≤ m.error.p * (tick ts j - tick ts i)
  pub side : m.side ≡ side_of (deviation ts vs i j m.sample)

-- each sample is within the criterion, and sample k of the link is the first with a hole after it
pub record Cut (ts : List ℕ) (vs : List ℤ) (c : Criterion) (i j k : ℕ) : Type 0 where
  pub within : AllWithin ts vs c i j
  pub from : i ≤ k
  pub before : k < j
  pub there : c.gap < tick ts (suc k) - tick ts k
  pub first : (n : ℕ) → i ≤ n → n < k → tick ts (suc n) - tick ts n ≤ c.gap

-- The sample that is named lies farthest from the line. At unequal parts it may be within its own, and another sample is not.
pub record Outside (ts : List ℕ) (vs : List ℤ) (c : Criterion) (i j : ℕ) (m : Measure) : Type 0 where
  pub strays : Strays ts vs i j m
  pub some : AllWithin ts vs c i j → ⊥
  pub named : c.up ≡ c.down → Within ts vs c i j m.sample → ⊥

-- the link's measure, where some sample is outside the criterion; or, with "gap", a hole, where none is
abbrev pub OffendsOn : Side → List ℕ → List ℤ → Criterion → ℕ → ℕ → Measure → Type 0
OffendsOn On ts vs c i j m = ⊥
OffendsOn Above ts vs c i j m = Outside ts vs c i j m
OffendsOn Below ts vs c i j m = Outside ts vs c i j m
OffendsOn Gap ts vs c i j m = Cut ts vs c i j m.sample

abbrev pub Offends : List ℕ → List ℤ → Criterion → ℕ → ℕ → Measure → Type 0
Offends ts vs c i j m = OffendsOn m.side ts vs c i j m

-- The probes of a search from one sample of a trace (document 003, figure 7, and document 01, "The four reductions").
--   probe_at             the answer of a probe from sample i at an offset
--   Yes                  the last yes of a search is within the trace, and the samples up to it have been taken in
--   Probes, AfterProbe   a probe at a later offset, and the search after it
--   Probed               the answer of a probe, and the search after it
-- Laws are in ProbingLaws. Assumes nothing.
use Rattle.std.specs.Prelude.{◌≡◌, Bool, cond, List, ℕ, ◌+◌, ◌-◌, ◌≤◌, ◌<◌, ℤ, length}
use Rattle.kept.specs.Gallop.{probe_of}
use Rattle.trace.specs.declared.Criterion.{Criterion}
use Rattle.trace.specs.Trace.{Trace}
use Rattle.trace.specs.Link.{Bounded, valid}
use Rattle.outgoing.specs.Outgoing.{TakenIn}
use Rattle.probing.specs.declared.Probing.{Probing}

abbrev pub probe_at : List ℕ → List ℤ → Criterion → ℕ → ℕ → Bool
probe_at ts vs c i = probe_of (valid ts vs c) (length ts - 1) i

pub record Yes (ts : List ℕ) (vs : List ℤ) (c : Criterion) (i : ℕ) (s : Probing) : Type 0 where
  pub pos : 0 < s.low
  pub inside : i + s.low < length ts
  pub links : TakenIn ts vs c i (i + s.low + 1) s.links

pub record Probes (ts : List ℕ) (vs : List ℤ) (c : Criterion) (s : Probing) (d : ℕ) : Type 0 where
  pub trace : Trace ts vs
  pub bounded : Bounded c
  pub yes : Yes ts vs c s.links.from.sample s
  pub further : s.low < d
  pub near : d ≤ 8192
  pub few : s.probes ≤ 8192

pub record AfterProbe (ts : List ℕ) (vs : List ℤ) (c : Criterion) (i : ℕ) (s : Probing) (d : ℕ) (r : Probing) : Type 0 where
  pub yes : Yes ts vs c i r
  pub low : r.low ≡ cond (probe_at ts vs c i d) d s.low
  pub probes : r.probes ≡ s.probes + 1

pub record Probed (ts : List ℕ) (vs : List ℤ) (c : Criterion) (i : ℕ) (s : Probing) (d : ℕ) (b : Bool) (r : Probing) : Type 0 where
  pub answer : b ≡ probe_at ts vs c i d
  pub after : AfterProbe ts vs c i s d r

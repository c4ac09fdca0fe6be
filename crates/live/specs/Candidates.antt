-- The samples that an addition may drop.
--   with_last       the first `count` entries, and the last sample of the trace
--   deviation_at    the greatest deviation of the link that takes the place of entry t + 1, which need not be in lowest terms
--   better          the one of two that costs less, the earlier of equals
--   Candidates      what is asked: the entries are a kept list of the samples before the last
-- Laws are in CandidateLaws. Assumes nothing.
use Rattle.std.specs.Prelude.{cond, List, [], ◌∷◌, ◌++◌, ℕ, suc, ◌-◌, ◌*◌, ◌≤◌, leb, ℤ, length, get_or, take}
use Rattle.ratio.specs.declared.Ratio.{Ratio}
use Rattle.kept.specs.Kept.{KeptList}
use Rattle.trace.specs.Trace.{Trace}
use Rattle.measures.specs.Measure.{deviation_of, stray_of}
use Rattle.live.specs.declared.candidates.Best.{Best}

abbrev pub with_last : List ℕ → List ℕ → ℕ → List ℕ
with_last ts samples count = take count samples ++ (length ts - 1) ∷ []

abbrev pub deviation_at : List ℕ → List ℤ → List ℕ → ℕ → Ratio
deviation_at ts vs l t = deviation_of (stray_of ts vs (get_or l t 0) (get_or l (suc (suc t)) 0))

unfoldable pub better : Best → ℕ → Ratio → Best
better b i e = cond (leb (b.error.p * e.q) (e.p * b.error.q)) b (record { at = i; error = e })

pub record Candidates (ts : List ℕ) (vs : List ℤ) (samples : List ℕ) (count : ℕ) : Type 0 where
  pub trace : Trace ts vs
  pub earlier : 2 ≤ length ts
  pub kept : KeptList (length ts - 2) (take count samples)
  pub some : 1 ≤ count
  pub room : count ≤ length samples

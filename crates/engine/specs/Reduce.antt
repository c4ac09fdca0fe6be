-- The outcomes of the greedy reductions, walk and gallop (document 01, "The four reductions", and demands 1, 2 and 3).
--   ok_of                        the link test of a trace under limits
--   GreedyList                   a kept list of valid links with maximal stops, and demand 3 of it
--   WalkKept, GallopKept         what holds where walk, gallop kept a list
--   WalkOutcome, GallopOutcome   the contracts: by cases on the answer
-- A refused call leaves the lent list as it was. Otherwise its first entries are the list, and the others stay.
-- Assumes nothing.
use Rattle.std.specs.Prelude.{◌≡◌, Bool, List, ℕ, ◌-◌, ℤ, length, take, Err, Ok, Result}
use Rattle.lists.specs.Overwrite.{Wrote}
use Rattle.kept.specs.Kept.{KeptList, AllValid, MaximalStops, EachLink}
use Rattle.kept.specs.Gallop.{gallop_search, stop_probes, list_probes}
use Rattle.limits.specs.declared.Limits.{Limits}
use Rattle.trace.specs.Link.{valid, NoLonger}
use Rattle.reduction.specs.Walking.{walk_list}
use Rattle.reduction.specs.Galloping.{gallop_list, gallop_total}
use Rattle.limits.specs.Prepare.{criterion_of, output_rows}
use Rattle.refusal.specs.declared.Refusal.{Refusal}
use Rattle.reduction.specs.declared.Galloped.{Galloped}

abbrev pub ok_of : List ℕ → List ℤ → Limits → ℕ → ℕ → Bool
ok_of ts vs t = valid ts vs (criterion_of t)

pub record GreedyList (ts : List ℕ) (vs : List ℤ) (t : Limits) (l : List ℕ) : Type 0 where
  pub kept : KeptList (length ts - 1) l
  pub within : AllValid (ok_of ts vs t) l
  pub maximal : MaximalStops (ok_of ts vs t) (length ts - 1) l
  -- demand 3: every kept list of this trace that obeys the gap limit and is within parts a and b, fractions whose sum is at most each part of the tolerance,
  -- has at least as many samples; so has every one within half of one tolerance for both (trace: proofs/Half, `half_tolerance`)
  pub size : NoLonger ts vs (criterion_of t) (length l)

-- walk kept n samples, and the lent list o became o'
pub record WalkKept (ts : List ℕ) (vs : List ℤ) (t : Limits) (o : List ℕ) (n : ℕ) (o' : List ℕ) : Type 0 where
  pub rows : output_rows ts vs t (length o) ≡ Ok tt
  pub wrote : Wrote (walk_list ts vs (criterion_of t)) o n o'
  pub list : GreedyList ts vs t (walk_list ts vs (criterion_of t))

abbrev pub WalkOutcome : List ℕ → List ℤ → Limits → List ℕ → Result ℕ Refusal → List ℕ → Type 0
WalkOutcome ts vs t o (Ok n) o' = WalkKept ts vs t o n o'
WalkOutcome ts vs t o (Err x) o' = (output_rows ts vs t (length o) ≡ Err x) × (o' ≡ o)

-- gallop kept n samples by p probes, the method's own
pub record GallopKept (ts : List ℕ) (vs : List ℤ) (t : Limits) (o : List ℕ) (n p : ℕ) (o' : List ℕ) : Type 0 where
  pub rows : output_rows ts vs t (length o) ≡ Ok tt
  pub wrote : Wrote (gallop_list ts vs (criterion_of t)) o n o'
  pub list : GreedyList ts vs t (gallop_list ts vs (criterion_of t))
  pub probes : p ≡ gallop_total ts vs (criterion_of t)
  -- document 02, "Probes to the digit": the search from each kept sample to the next takes exactly 2 floor (log2 r) + 1 for a stop of r samples,
  -- and the total is the sum of these over the list written
  pub exact : EachLink (λ i j. (gallop_search (ok_of ts vs t) (length ts - 1) i).probes ≡ stop_probes (j - i)) (take n o')
  pub total : p ≡ list_probes (take n o')

abbrev pub GallopOutcome : List ℕ → List ℤ → Limits → List ℕ → Result Galloped Refusal → List ℕ → Type 0
GallopOutcome ts vs t o (Ok g) o' = GallopKept ts vs t o g.kept g.probes o'
GallopOutcome ts vs t o (Err x) o' = (output_rows ts vs t (length o) ≡ Err x) × (o' ≡ o)

-- Laws of the samples that an addition may drop: their neighbours bound links of the trace, and the scan for the one that costs least.
-- Assumes nothing.
use mathlib.Core.Path.{◌≡◌, sym, ◌∙◌}
use mathlib.Core.List.{List, [], ◌∷◌, ◌++◌}
use Prim.Native.Nat.{ℕ, suc, ◌+◌, ◌-◌, ◌*◌, ◌≤◌, ◌<◌}
use native.Mathlib.Numerals.{add-one}
use native.Mathlib.Omega.{arith}
use native.Mathlib.Decide.{dec_le}
use borrow.Author.Tests.{le-leb, lt-leb}
use lib.IntN.{ℤ}
use lib.ListN.{length, get_or, take, length-append, get_or-append}
use lib.Seq.{get_or-take, length-take-le, get_or_at}
use Rattle.ratio.specs.declared.Ratio.{Ratio}
use Rattle.ratio.proofs.Laws.{lowest_equal}
use Rattle.kept.specs.Kept.{KeptList}
use Rattle.kept.proofs.KeptLaws.{kept_inside}
use Rattle.kept.proofs.SelectedLists.{rises_later}
use Rattle.trace.specs.Trace.{tick}
use Rattle.trace.specs.Link.{farthest, link_error, Linked}
use Rattle.trace.proofs.Ticks.{later}
use Rattle.trace.proofs.Errors.{link_error_pos}
use Rattle.measures.specs.declared.Stray.{Stray}
use Rattle.measures.specs.Measure.{deviation_of, stray_of}
use Rattle.views.specs.View.{cost, cheapest}
use Rattle.views.proofs.CheapestLaws.{cheapest_below, cheapest_equal}
use Rattle.views.proofs.ViewLaws.{snoc_kept}
use Rattle.live.specs.declared.candidates.Best.{Best}
use Rattle.live.specs.Candidates.{with_last, deviation_at, better, Candidates}

-- the entries of a list with one more last
pub entry_inside : (l : List ℕ) (count new i : ℕ) → i < count → count ≤ length l → get_or l i 0 ≡ get_or (take count l ++ new ∷ []) i 0
entry_inside l count new i h u =
    let e : length (take count l) ≡ count = length-take-le count l u in
    sym (get_or-append (take count l) (new ∷ []) 0 i (omega arith) ∙ get_or-take count l i 0 h)

pub entry_new : (l : List ℕ) (count new i : ℕ) → i ≡ count → count ≤ length l → new ≡ get_or (take count l ++ new ∷ []) i 0
entry_new l count new i h u = sym (get_or_at (take count l) new [] 0 i (length-take-le count l u ∙ sym h))

module _ {ts : List ℕ} {vs : List ℤ} {samples : List ℕ} {count : ℕ} (c : Candidates ts vs samples count) where
  abbrev w : List ℕ
  w = with_last ts samples count

  -- the list with the new sample last is a kept list of the trace
  candidates_kept : KeptList (length ts - 1) w
  candidates_kept =
      let e : length ts - 1 ≡ suc (length ts - 2) = omega (arith, c.earlier) in
      rw e (snoc_kept (length ts - 2) (take count samples) c.kept)

  candidates_length : length w ≡ count + 1
  candidates_length =
      let e : length (take count samples) ≡ count = length-take-le count samples c.room in
      omega (arith, length-append (take count samples) ((length ts - 1) ∷ []))

  -- so what an entry's neighbours bound is a link of it
  candidate_link : (i : ℕ) → i + 1 < count → Linked ts vs (get_or w i 0) (get_or w (suc (suc i)) 0)
  candidate_link i h =
      let n : suc (suc i) < length w = omega (arith, candidates_length) in
      record {
        trace = c.trace;
        forward = rises_later w candidates_kept.rises (suc (suc i)) {i = i} (omega arith) n;
        inside = omega (arith, c.earlier, kept_inside (length ts - 1) w candidates_kept (suc (suc i)) n);
      }

  -- with the entries that were read
  pub cost_link : (i : ℕ) {from to : ℕ} → i + 1 < count → from ≡ get_or w i 0 → to ≡ get_or w (i + 2) 0 → Linked ts vs from to
  cost_link i h ef et =
      let e : i + 2 ≡ suc (suc i) = omega arith in
      rw (ef, et, e) (candidate_link i h)

  -- the greatest deviations are in the order of the errors
  pub cheapest_cost : cheapest (deviation_at ts vs w) (count - 1) ≡ cheapest (cost (link_error ts vs) w) (count - 1)
  unfolding link_error
  cheapest_cost = cheapest_equal (deviation_at ts vs w) (cost (link_error ts vs) w) (count - 1)
      (λ t h. let k = candidate_link t (omega arith) in omega (arith, later k.trace.rising (get_or w (suc (suc t)) 0) k.forward k.inside))
      (λ t h. link_error_pos (candidate_link t (omega arith)))
      (λ t h. sym (lowest_equal (farthest ts vs (get_or w t 0) (get_or w (suc (suc t)) 0)) (tick ts (get_or w (suc (suc t)) 0) - tick ts (get_or w t 0))))

pub cost_is : (ts : List ℕ) (vs : List ℤ) (l : List ℕ) (i : ℕ) {from to : ℕ} {s : Stray}
    → from ≡ get_or l i 0 → to ≡ get_or l (i + 2) 0 → s ≡ stray_of ts vs from to → deviation_of s ≡ deviation_at ts vs l i
cost_is ts vs l i ef et es =
    let e : i + 2 ≡ suc (suc i) = omega arith in
    rw (es, ef, et, e)

-- One more candidate.
module _ (f : ℕ → Ratio) where
  abbrev pub best_of : ℕ → Best
  best_of n = record { at = cheapest f n; error = f (cheapest f n) }

  best_more : (n : ℕ) {b : Best} → b ≡ best_of n → better b n (f n) ≡ best_of (suc n)
  unfolding better cheapest
  best_more n e =
      let b = cheapest f n in
      rw e (elim (dec_le ((f b).p * (f n).q) ((f n).p * (f b).q)) [
        | yes q ↦ rw (le-leb ((f b).p * (f n).q) ((f n).p * (f b).q) q)
        | no q ↦ rw (lt-leb ((f b).p * (f n).q) ((f n).p * (f b).q) (omega arith))
      ])

  -- as the loop has it
  pub best_next : (i : ℕ) {b r : Best} {e : Ratio} → b ≡ best_of i → e ≡ f i → r ≡ better b i e → r ≡ best_of (i + 1)
  best_next i {b} {r} {e} hb he hr = rw (add-one, hr, he) (best_more i hb)

  pub best_last : (i count : ℕ) {b : Best} → b ≡ best_of i → i + 1 ≡ count → 2 ≤ count → (b.at ≡ cheapest f (count - 1)) × (b.at + 1 < count)
  best_last i count {b} hb e le =
      let n : count - 1 ≡ i = omega arith in
      (rw (n, hb), rw hb (omega (arith, cheapest_below f i (omega arith))))

  pub best_first : best_of 1 ≡ record { at = 0; error = f 0 }
  unfolding cheapest
  best_first = rw (le-leb ((f 0).p * (f 0).q) ((f 0).p * (f 0).q) (omega arith))

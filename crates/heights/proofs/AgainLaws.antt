-- Reducing a reduced trace again adds the tolerances, the parts above and the parts below each by themselves, and they do add up: a trace where walk and
-- minimum, each run twice with the parts 2 and 1, end with a sample that is 4 above the line; upside down, with the parts exchanged, 4 below it.
-- Assumes nothing.
use mathlib.Core.Path.{◌≡◌, refl, subst}
use mathlib.Core.List.{List, [], ◌∷◌}
use Prim.Native.Nat.{ℕ, ◌-◌, max}
use native.Mathlib.Nat.{mul-pos}
use lib.IntN.{ℤ, pos, negsuc}
use lib.ListN.{length}
use Rattle.lists.specs.Select.{select}
use Rattle.lists.proofs.SelectLaws.{select_length}
use Rattle.kept.specs.Kept.{KeptList, AllValid}
use Rattle.kept.specs.Stops.{stops}
use Rattle.kept.specs.Walk.{walk_from, walk_of}
use Rattle.kept.specs.Minimum.{best_stop, links_in, links_of, next_of, minimum_of}
use Rattle.kept.proofs.KeptLaws.{each_map}
use Rattle.kept.proofs.SelectedLists.{kept_select}
use Rattle.ratio.specs.declared.Ratio.{Ratio}
use Rattle.ratio.specs.Order.{over, plus}
use Rattle.trace.specs.declared.Criterion.{Criterion}
use Rattle.trace.specs.Trace.{tick}
use Rattle.trace.specs.Link.{deviation, above, below, within, all_from, hole, obeys, all_within, valid, parted, limited}
use Rattle.trace.proofs.Validity.{valid_obeys}
use Rattle.trace.proofs.SelectedTrace.{selected_first, selected_last, selected_obeys}
use Rattle.heights.specs.Heights.{Fraction, samples_after, every_sample, line_at, trace_at, OnTrace, Near}
use Rattle.heights.specs.Budget.{StandsFor}
use Rattle.heights.specs.Again.{added, ReducedAgain}
use Rattle.heights.proofs.FractionLaws.{near_trans}
use Rattle.heights.proofs.NearLaws.{line_near}
use Rattle.heights.proofs.ExtremeLaws.{sample_on}
use Rattle.heights.proofs.ValidLaws.{near_valid}
use Rattle.heights.proofs.BudgetLaws.{error_budget}
use Rattle.heights.proofs.SelectedLaws.{reduced_line, reduced_peak, reduced_trough, reduced_height, selected_line}

-- two tolerances that each mean both parts add up to one
pub equal_added : (g h : ℕ) (r s : Ratio) → added (limited g r) (limited h s) ≡ limited (max g h) (plus r s)
equal_added g h r s = refl

-- ---- reducing again

module _ {ts : List ℕ} {vs : List ℤ} {c e : Criterion} {l h : List ℕ} (first : StandsFor ts vs c l) (second : StandsFor (select 0 ts l) (select (pos 0) vs l) e h) where
  positions : KeptList (length l - 1) h
  positions = subst (λ (n : ℕ). KeptList (n - 1) h) (select_length 0 ts l) second.kept

  again_near : (a d : ℕ) → OnTrace ts a d → Near (added c e).down (added c e).up (line_at ts vs (select 0 l h) a d) (trace_at ts vs a d)
  again_near a d on =
      let on-reduced : OnTrace (select 0 ts l) a d = record {
        positive = on.positive;
        from = rw (selected_first first.trace first.kept) on.from;
        to = rw (selected_last first.trace first.kept) on.to;
      } in
      let reduced = line_near e second.trace second.kept second.within a d on-reduced in
      near_trans second.down_positive second.up_positive first.down_positive first.up_positive
      (subst (Near e.down e.up (line_at ts vs (select 0 l h) a d)) (selected_line ts vs l first.kept a d)
      (subst (λ (x : Fraction). Near e.down e.up x (trace_at (select 0 ts l) (select (pos 0) vs l) a d)) (reduced_line ts vs l first.kept h positions a d) reduced))
      (line_near c first.trace first.kept first.within a d on)

  -- and no hole is crossed
  again_obeys : AllValid (obeys ts (max c.gap e.gap)) (select 0 l h)
  again_obeys = selected_obeys first.trace first.kept c.gap e.gap (each_map (valid_obeys ts vs c) l first.within) h positions
      (each_map (valid_obeys (select 0 ts l) (select (pos 0) vs l) e) h second.within)

  again_stands : StandsFor ts vs (added c e) (select 0 l h)
  again_stands =
      let kept = kept_select l h first.kept positions in
      record {
        trace = first.trace;
        up_positive = mul-pos first.up_positive second.up_positive;
        down_positive = mul-pos first.down_positive second.down_positive;
        kept = kept;
        within = near_valid (added c e) (select 0 l h) first.trace kept again_obeys (λ k inside. again_near (tick ts k) 1 (sample_on first.trace k inside));
      }

  pub reduced_again : ReducedAgain ts vs c e l h
  reduced_again = record {
    stands = again_stands;
    budget = error_budget again_stands;
    lines = reduced_line ts vs l first.kept h positions;
    peaks = reduced_peak ts vs l first.kept h positions;
    troughs = reduced_trough ts vs l first.kept h positions;
    heights = reduced_height ts vs l first.kept h positions;
  }

-- ---- the sums are reached: ticks 0 to 5, values 0 -1 0 1 -2 -5, with the parts 2 above and 1 below

abbrev ridge : List ℤ
ridge = pos 0 ∷ negsuc 0 ∷ pos 0 ∷ pos 1 ∷ negsuc 1 ∷ negsuc 4 ∷ []

abbrev tall : Criterion
tall = parted 1048575 (over 2 1) (over 1 1)

-- walk and minimum keep 0 2 4 5
ridge_walk : walk_of (valid (every_sample 5) ridge tall) 5 ≡ 0 ∷ 2 ∷ 4 ∷ 5 ∷ []
unfolding samples_after walk_of walk_from stops valid obeys hole all_within all_from within above below deviation
ridge_walk = refl

ridge_minimum : minimum_of (valid (every_sample 5) ridge tall) 5 ≡ 0 ∷ 2 ∷ 4 ∷ 5 ∷ []
unfolding samples_after minimum_of next_of links_of links_in best_stop stops valid obeys hole all_within all_from within above below deviation
ridge_minimum = refl

-- of these four samples, with the same parts, both keep the first and the last
ridge_walk_again : walk_of (valid (0 ∷ 2 ∷ 4 ∷ 5 ∷ []) (select (pos 0) ridge (0 ∷ 2 ∷ 4 ∷ 5 ∷ [])) tall) 3 ≡ 0 ∷ 3 ∷ []
unfolding walk_of walk_from stops valid obeys hole all_within all_from within above below deviation
ridge_walk_again = refl

ridge_minimum_again : minimum_of (valid (0 ∷ 2 ∷ 4 ∷ 5 ∷ []) (select (pos 0) ridge (0 ∷ 2 ∷ 4 ∷ 5 ∷ [])) tall) 3 ≡ 0 ∷ 3 ∷ []
unfolding minimum_of next_of links_of links_in best_stop stops valid obeys hole all_within all_from within above below deviation
ridge_minimum_again = refl

-- which are samples 0 and 5: over the 5 ticks between them, sample 3 is 20/5 above the line
ridge_above : deviation (every_sample 5) ridge 0 5 3 ≡ pos 20
unfolding samples_after deviation
ridge_above = refl

-- ---- upside down: values 0 1 0 -1 2 5, with the parts 1 above and 2 below

abbrev ditch : List ℤ
ditch = pos 0 ∷ pos 1 ∷ pos 0 ∷ negsuc 0 ∷ pos 2 ∷ pos 5 ∷ []

abbrev deep : Criterion
deep = parted 1048575 (over 1 1) (over 2 1)

ditch_walk : walk_of (valid (every_sample 5) ditch deep) 5 ≡ 0 ∷ 2 ∷ 4 ∷ 5 ∷ []
unfolding samples_after walk_of walk_from stops valid obeys hole all_within all_from within above below deviation
ditch_walk = refl

ditch_minimum : minimum_of (valid (every_sample 5) ditch deep) 5 ≡ 0 ∷ 2 ∷ 4 ∷ 5 ∷ []
unfolding samples_after minimum_of next_of links_of links_in best_stop stops valid obeys hole all_within all_from within above below deviation
ditch_minimum = refl

ditch_walk_again : walk_of (valid (0 ∷ 2 ∷ 4 ∷ 5 ∷ []) (select (pos 0) ditch (0 ∷ 2 ∷ 4 ∷ 5 ∷ [])) deep) 3 ≡ 0 ∷ 3 ∷ []
unfolding walk_of walk_from stops valid obeys hole all_within all_from within above below deviation
ditch_walk_again = refl

ditch_minimum_again : minimum_of (valid (0 ∷ 2 ∷ 4 ∷ 5 ∷ []) (select (pos 0) ditch (0 ∷ 2 ∷ 4 ∷ 5 ∷ [])) deep) 3 ≡ 0 ∷ 3 ∷ []
unfolding minimum_of next_of links_of links_in best_stop stops valid obeys hole all_within all_from within above below deviation
ditch_minimum_again = refl

-- sample 3 is 20/5 below the line
ditch_below : deviation (every_sample 5) ditch 0 5 3 ≡ negsuc 19
unfolding samples_after deviation
ditch_below = refl

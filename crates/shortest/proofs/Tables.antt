-- Laws of the two tables: how they are filled from the last sample back, and where the second leads.
-- `Tabling` is the invariant of the loop that fills them. Assumes nothing.
use mathlib.Core.Path.{◌≡◌, refl, sym, ◌∙◌, ap}
use mathlib.Core.Bool.{Bool}
use mathlib.Core.List.{List}
use Prim.Native.Nat.{ℕ, suc, ◌+◌, ◌-◌, ◌≤◌, ◌<◌}
use native.Mathlib.Decide.{dec_lt}
use native.Mathlib.Omega.{arith}
use lib.ListN.{length, get_or, set, length-set}
use lib.Seq.{get_or-set_same, get_or-set_other}
use Rattle.kept.specs.Kept.{StepsValid}
use Rattle.kept.specs.Stops.{list_by}
use Rattle.kept.specs.Minimum.{links_of, next_of, minimum_of}
use Rattle.kept.proofs.MinimumLaws.{BestStop, next_best, links_last, links_step, links_le, table_onward, table_minimum}
use Rattle.shortest.specs.Shortest.{Counted, Planned, Onward}

-- ---- filling

-- both tables, of nl and nn entries, are filled from i on
pub record Tabling (ok : ℕ → ℕ → Bool) (last nl nn : ℕ) (links next : List ℕ) (i : ℕ) : Type 0 where
  pub within : i ≤ last
  pub counted : Counted ok last i links
  pub planned : Planned ok last i next
  pub links_length : length links ≡ nl
  pub next_length : length next ≡ nn

-- an entry stored at i, and those after it as they were
stored : (P : ℕ → ℕ → Type 0) (l : List ℕ) (i v : ℕ) → i < length l → P i v → ((k : ℕ) → i < k → P k (get_or l k 0)) → (k : ℕ) → i ≤ k → P k (get_or (set l i v) k 0)
stored P l i v lt here after k ik = elim (dec_lt i k) [
  | yes q ↦ rw (get_or-set_other l i k v 0 (λ s. omega arith)) (after k q)
  | no q ↦ let s : k ≡ i = omega arith in rw (s, get_or-set_same l i v 0 lt) here
]

module _ (ok : ℕ → ℕ → Bool) (last : ℕ) where
  pub tabling_none : (links next : List ℕ) → last < length links → last < length next
      → Tabling ok last (length (set links last 0)) (length next) (set links last 0) next last
  tabling_none links next l n = record {
    within = omega arith;
    counted = record {
      links_room = rw length-set l;
      counts = λ k a b. let e : k ≡ last = omega arith in rw e (get_or-set_same links last 0 0 l ∙ sym (links_last ok last last (omega arith)));
    };
    planned = record { next_room = n; stops = λ k a b. absurd (omega arith) };
    links_length = refl;
    next_length = refl;
  }

  module _ (step : StepsValid ok) {nl nn : ℕ} {links next : List ℕ} {i : ℕ} (g : Tabling ok last nl nn links next i) (pos : 0 < i) where
    -- what the scan from the sample before i is given
    pub counted_after : Counted ok last (suc (i - 1)) links
    counted_after = let e : suc (i - 1) ≡ i = omega arith in rw e g.counted

    before_last : i - 1 < last
    before_last = omega (arith, g.within)

    module _ {b : ℕ} (is : b ≡ next_of ok last (i - 1)) where
      best : BestStop ok (links_of ok last) (i - 1) (suc last) b
      best = rw is (next_best ok last step (i - 1) before_last)

      count_of : get_or links b 0 ≡ links_of ok last b
      count_of = let e = best in g.counted.counts b (omega arith) (omega arith)

      -- the chosen stop is in the trace, and its links are no more than the samples left
      pub stop_inside : (b ≤ last) × (get_or links b 0 + b ≤ last)
      stop_inside = let e = best in (omega arith, rw count_of (links_le ok last step b (omega arith)))

      pub tabling_more : Tabling ok last nl nn (set links (i - 1) (get_or links b 0 + 1)) (set next (i - 1) b) (i - 1)
      tabling_more =
          let count : get_or links b 0 + 1 ≡ links_of ok last (i - 1) = omega (arith, count_of, links_step ok last (i - 1) before_last, ap (links_of ok last) is) in
          record {
            within = omega (arith, g.within);
            counted = record {
              links_room = rw length-set g.counted.links_room;
              counts = stored (λ k x. k ≤ last → x ≡ links_of ok last k) links (i - 1) _ (omega (arith, g.counted.links_room, g.within)) (λ _. count) (λ k q. g.counted.counts k (omega arith));
            };
            planned = record {
              next_room = rw length-set g.planned.next_room;
              stops = stored (λ k x. k < last → x ≡ next_of ok last k) next (i - 1) b (omega (arith, g.planned.next_room, g.within)) (λ _. is) (λ k q. g.planned.stops k (omega arith));
            };
            links_length = length-set links (i - 1) _ ∙ g.links_length;
            next_length = length-set next (i - 1) _ ∙ g.next_length;
          }

  -- ---- where the second leads

  module _ (step : StepsValid ok) {next : List ℕ} (p : Planned ok last 0 next) where
    planned_is : (k : ℕ) → k < last → get_or next k 0 ≡ next_of ok last k
    planned_is k lt = p.stops k (omega arith) lt

    pub planned_onward : Onward last next
    planned_onward = record { room = p.next_room; onward = table_onward ok last step (λ k. get_or next k 0) planned_is }

    pub planned_minimum : list_by (λ k. get_or next k 0) last ≡ minimum_of ok last
    planned_minimum = table_minimum ok last step (λ k. get_or next k 0) planned_is

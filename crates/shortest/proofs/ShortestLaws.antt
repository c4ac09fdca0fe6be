-- Laws of the minimum of a trace, and of the scan over the ends of the links from one sample. `Scanning` is the invariant of the scan's loop.
-- Assumes nothing.
use mathlib.Core.Path.{◌≡◌, refl, sym, ap, ◌∙◌}
use mathlib.Core.Bool.{Bool, true, false, ◌&&◌}
use mathlib.Core.List.{List}
use Prim.Native.Nat.{ℕ, ◌+◌, ◌-◌, ◌≤◌, ◌<◌}
use native.Mathlib.Omega.{arith}
use lib.IntN.{ℤ}
use lib.Dec.{leb}
use lib.ListN.{length, get_or}
use borrow.Author.Tests.{le-leb, lt-leb}
use Rattle.lists.proofs.Tests.{by_test}
use Rattle.kept.specs.Minimum.{Minimum, links_of, next_of}
use Rattle.kept.proofs.MinimumLaws.{minimum_of_lem, Choosing, choosing_none, choosing_more, chosen}
use Rattle.trace.specs.declared.Criterion.{Criterion}
use Rattle.trace.specs.declared.Start.{Start}
use Rattle.trace.specs.declared.Aim.{Aim}
use Rattle.trace.specs.declared.Across.{Across}
use Rattle.trace.specs.declared.Cone.{Cone}
use Rattle.trace.specs.Link.{Linked, valid}
use Rattle.trace.specs.Edge.{StartAt, AimTo, ReachBoth, AimSlope, AimTilt}
use Rattle.trace.specs.Cone.{cone_from, admits_edge, extended_by, closed_by, ConeFits, AcrossOf, AcrossTilt, Takes}
use Rattle.trace.proofs.Holes.{links_end_after, links_end_inside, obeys_to, obeys_past}
use Rattle.trace.proofs.Validity.{steps_valid, obeying_valid, hole_invalid}
use Rattle.trace.proofs.EdgeLaws.{reach_both, aim_from_lem, aim_tilts, edge_slope, aim_slope}
use Rattle.trace.proofs.ConeLaws.{takes_none, takes_more, takes_admits}
use Rattle.trace.proofs.ClosedCone.{across_tilts, closed_invalid}
use Rattle.shortest.specs.Shortest.{minimum_list, better_end, Scan}

-- ---- the minimum of a trace

module _ (ts : List ℕ) (vs : List ℤ) (c : Criterion) where
  pub minimum_list_lem : Minimum (valid ts vs c) (length ts - 1) (minimum_list ts vs c)
  minimum_list_lem = minimum_of_lem _ _ (steps_valid ts vs c)

-- ---- the better of two ends

module _ (x y : ℕ) (v : Bool) (j b : ℕ) where
  pub better_longer : y < x → b ≡ better_end x y v j b
  unfolding better_end
  better_longer h = rw (lt-leb x y h)

  pub better_valid : x ≤ y → v ≡ true → j ≡ better_end x y v j b
  unfolding better_end
  better_valid h e = rw (le-leb x y h, e)

  better_invalid : v ≡ false → b ≡ better_end x y v j b
  unfolding better_end
  better_invalid e = by_test (leb x y) (λ h. rw (h, e)) (λ h. rw h)

  -- both ends are the same
  better_alone : j ≡ better_end x y v j j
  unfolding better_end
  better_alone = by_test (leb x y && v) (λ h. rw h) (λ h. rw h)

-- ---- the scan from one sample

-- b is the best of the ends before j, and the cone has taken in the samples before j
pub record Scanning (ts : List ℕ) (vs : List ℤ) (c : Criterion) (i : ℕ) (cone : Cone) (b j : ℕ) : Type 0 where
  pub choosing : Choosing (valid ts vs c) (links_of (valid ts vs c) (length ts - 1)) i j b
  pub takes : Takes ts vs c i j cone
  pub fits : ConeFits cone
  pub to : j ≤ length ts

module _ {ts : List ℕ} {vs : List ℤ} {c : Criterion} {links : List ℕ} {i limit : ℕ} (s : Scan ts vs c links i limit) where
  pub end_inside : limit < length ts
  end_inside = omega (arith, s.limit_is, links_end_inside ts c.gap i s.inside)

  pub scanning_none : {st : Start} → StartAt ts vs i st → Scanning ts vs c i (cone_from c) (i + 1) (i + 1)
  scanning_none st =
      let b = s.bounded in
      let u : c.up.p ≤ 68718362625 = omega (arith, b.up.p_bound, b.up.q_bound) in
      let d : c.down.p ≤ 68718362625 = omega (arith, b.down.p_bound, b.down.q_bound) in
      record {
        choosing = choosing_none;
        takes = takes_none st;
        fits = record { low_fits = edge_slope refl (omega arith) (omega arith); high_fits = edge_slope refl (omega arith) (omega arith) };
        to = omega (arith, s.inside);
      }

  pub first_end : i + 1 ≤ limit
  first_end = omega (arith, s.limit_is, links_end_after ts c.gap i s.inside)

  -- the next end j, by the edges to it
  module _ {cone : Cone} {b j : ℕ} {st : Start} (g : Scanning ts vs c i cone b j) (to-limit : j ≤ limit) (at : StartAt ts vs i st) where
    inside : j < length ts
    inside = omega (arith, end_inside)

    jn : j ≤ length ts - 1
    jn = omega (arith, inside)

    pub ends_room : (b < length links) × (j < length links)
    ends_room = (omega (arith, g.choosing.before, jn, s.counted.links_room), omega (arith, jn, s.counted.links_room))

    pub aim_requires : ReachBoth ts vs c st j
    aim_requires = reach_both at s.trace (omega (arith, g.choosing.from)) inside s.bounded

    module _ {to : Aim} (edges : AimTo ts vs c st.sample j to) where
      pub end_tilt : AimTilt to c
      end_tilt = aim_tilts (aim_from_lem at edges) s.trace (omega (arith, g.choosing.from)) inside s.bounded

      pub end_slope : AimSlope to
      end_slope = aim_slope end_tilt

      link : Linked ts vs i j
      link = record { trace = s.trace; forward = g.choosing.from; inside = inside }

      pub end_across : {x : Across} → AcrossOf c x → AcrossTilt to x
      end_across a = across_tilts link s.bounded g.takes (aim_from_lem at edges) a

      chosen_more : {r : ℕ} → r ≡ better_end (get_or links j 0) (get_or links b 0) (admits_edge cone to) j b
          → Choosing (valid ts vs c) (links_of (valid ts vs c) (length ts - 1)) i (j + 1) r
      unfolding better_end
      chosen_more e =
          let counts = s.counted.counts in
          rw e (choosing_more g.choosing (counts j (omega (arith, g.choosing.from)) jn) (counts b (omega (arith, g.choosing.after)) (omega (arith, g.choosing.before, jn)))
          (takes_admits link s.bounded g.takes (aim_from_lem at edges) ∙ sym (obeying_valid ts vs c i j (obeys_to ts c.gap i s.inside j (omega (arith, s.limit_is))))))

      scanning_more : {r : ℕ} {next : Cone} → r ≡ better_end (get_or links j 0) (get_or links b 0) (admits_edge cone to) j b
          → (next ≡ extended_by cone to c) × ConeFits next → Scanning ts vs c i next r (j + 1)
      scanning_more e h = record {
        choosing = chosen_more e;
        takes = rw h.0 (takes_more link s.bounded g.takes (aim_from_lem at edges));
        fits = h.1;
        to = omega (arith, inside);
      }

      module _ {next : Cone} (h : (next ≡ extended_by cone to c) × ConeFits next) where
        pub scanning_valid : {v : Bool} {r : ℕ} → v ≡ admits_edge cone to → v ≡ true → r ≡ better_end (get_or links j 0) (get_or links b 0) true j b → Scanning ts vs c i next r (j + 1)
        scanning_valid a t e = scanning_more (e ∙ ap (λ (x : Bool). better_end (get_or links j 0) (get_or links b 0) x j b) (sym t ∙ a)) h

        pub scanning_invalid : {v : Bool} → v ≡ admits_edge cone to → v ≡ false → Scanning ts vs c i next b (j + 1)
        scanning_invalid a f = scanning_more (better_invalid _ _ _ j b (sym a ∙ f)) h

      -- the cone is closed by sample j: no later link is valid
      pub scanned_closed : {v w : Bool} {x : Across} → AcrossOf c x → v ≡ admits_edge cone to → v ≡ false → w ≡ closed_by cone to x → w ≡ true → b ≡ next_of (valid ts vs c) (length ts - 1) i
      scanned_closed x a f k t = chosen _ _ (chosen_more (better_invalid _ _ _ j b (sym a ∙ f))) (omega (arith, s.inside)) (omega (arith, inside, s.trace.some))
          (λ e l u. closed_invalid link s.bounded g.takes (aim_from_lem at edges) x (sym k ∙ t) e (omega arith) (omega (arith, s.trace.some)))

  -- the first end, whose link is valid
  pub scanning_first : {st : Start} {to : Aim} {next : Cone} → (at : StartAt ts vs i st) → AimTo ts vs c st.sample (i + 1) to
      → (next ≡ extended_by (cone_from c) to c) × ConeFits next → Scanning ts vs c i next (i + 1) (i + 1 + 1)
  scanning_first at edges h = scanning_more (scanning_none at) first_end at edges (better_alone _ _ _ (i + 1) (i + 1)) h

  -- the scan has taken in the last sample, or the last to which links obey the gap limit
  pub scanned_all : {cone : Cone} {b j : ℕ} → Scanning ts vs c i cone b j → limit < j → b ≡ next_of (valid ts vs c) (length ts - 1) i
  scanned_all g h = chosen _ _ g.choosing (omega (arith, s.inside)) (omega (arith, g.to, s.trace.some))
      (λ e l u. hole_invalid ts vs c i e (obeys_past ts c.gap i s.inside e (omega (arith, s.limit_is)) (omega (arith, s.inside))))

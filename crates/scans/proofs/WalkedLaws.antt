-- Laws of what is held of one tolerance: nothing is kept at the first sample, one step takes the next sample in as walk does, and closed with a
-- sample it is walk's list of the samples up to there.
-- Assumes nothing.
use mathlib.Core.Path.{◌≡◌, refl, sym, ap, ◌∙◌}
use mathlib.Core.Logic.{◌⊎◌, inl, inr, ⊎_elim}
use mathlib.Core.Bool.{Bool, true, false}
use mathlib.Core.List.{List, [], ◌∷◌, ◌++◌}
use Prim.Native.Nat.{ℕ, zero, suc, ◌+◌, ◌≤◌, ◌<◌}
use native.Mathlib.Decide.{dec_lt}
use native.Mathlib.Numerals.{add-one}
use native.Mathlib.Omega.{arith}
use lib.IntN.{ℤ}
use lib.ListN.{length, set, length-append}
use Rattle.lists.specs.Overwrite.{overwrite}
use Rattle.lists.proofs.Tests.{by_test, is_false, true_false, or_false}
use Rattle.lists.proofs.OverwriteLaws.{overwrite_snoc}
use Rattle.kept.specs.Kept.{StepsValid}
use Rattle.kept.specs.Stops.{stops}
use Rattle.kept.specs.Walk.{walk_of, walk_start}
use Rattle.kept.proofs.WalkLaws.{walk_closes, walk_start_valid, walk_open_valid, walk_start_invalid, walk_open_invalid, walk_start_before, walk_link, walk_start_first, walk_open_first}
use Rattle.trace.specs.declared.Criterion.{Criterion}
use Rattle.trace.specs.declared.Start.{Start}
use Rattle.trace.specs.Trace.{value, Trace}
use Rattle.trace.specs.Link.{Bounded, hole, obeys, valid, links_end}
use Rattle.trace.specs.Edge.{StartAt, EdgeTo, AimTo}
use Rattle.trace.proofs.Ticks.{not_earlier, span_bound}
use Rattle.trace.proofs.Level.{short, level_short}
use Rattle.trace.proofs.Products.{scaled_bound}
use Rattle.trace.proofs.Holes.{obeys_true, true_obeys, none_hole, some_hole, obeys_past}
use Rattle.trace.proofs.Validity.{steps_valid, valid_obeys, hole_invalid}
use Rattle.trace.proofs.EdgeLaws.{start_level}
use Rattle.outgoing.specs.Outgoing.{TakenIn, Next}
use Rattle.outgoing.proofs.OutgoingLaws.{next_at, next_valid, next_taken, next_tilt, taken_first, first_tilt}
use Rattle.turns.specs.declared.Sample.{Sample}
use Rattle.turns.specs.Sample.{SampleAt, edge_from, aim_from, Ahead}
use Rattle.turns.specs.Held.{Held, goes_on, further, anew, stepped, Steps}
use Rattle.turns.proofs.HeldLaws.{extended_fits, none_fits, stepped_yes, stepped_no, goes_not, goes_as}
use Rattle.scans.specs.Answers.{kept_before}
use Rattle.scans.specs.Scan.{hole_before, cut_at, links_of, Walked}

-- ---- a sample by value

-- a sample as a start
sample_start : {ts : List ℕ} {vs : List ℤ} {k : ℕ} {s : Sample} → SampleAt ts vs k s → StartAt ts vs k (record { sample = k; tick = s.tick; level = s.level; value = value vs k })
sample_start h = record { sample = refl; tick = h.tick; level_is = h.level.is; value_is = refl; range = h.level.range }

module _ {ts : List ℕ} {vs : List ℤ} {i k : ℕ} {s : Start} {to : Sample} (h : StartAt ts vs i s) (g : SampleAt ts vs k to) where
  edge_to_sample : {q : ℕ} → q ≤ 1048575 → EdgeTo ts vs q i k (edge_from q s.tick s.level to)
  edge_to_sample b = record {
    run = rw (g.tick, h.tick);
    rise = rw (g.level.is, h.level_is) (omega (arith, scaled_bound b (level_short (value vs i) h.range)));
    climb = refl;
    from = h.range;
    to = g.level.range;
  }

  aim_to_sample : {c : Criterion} → Bounded c → AimTo ts vs c i k (aim_from c s.tick s.level to)
  aim_to_sample b = record { up = edge_to_sample b.up.q_bound; down = edge_to_sample b.down.q_bound }

  ahead_of : Trace ts vs → i ≤ k → k < length ts → Ahead s.tick s.level to
  ahead_of t ik kn = record {
    from = start_level h;
    order = omega (arith, h.tick, g.tick, not_earlier t.rising ik kn);
    span = omega (arith, h.tick, g.tick, span_bound t i k ik kn, not_earlier t.rising ik kn);
    short = short g.level;
  }

-- ---- walk so far

module _ (ok : ℕ → ℕ → Bool) (step : StepsValid ok) where
  module _ (j : ℕ) where
    kept_valid : ok (walk_start ok (suc j)) (suc (suc j)) ≡ true → kept_before ok (suc (suc j)) ≡ kept_before ok (suc j)
    unfolding kept_before
    kept_valid q = walk_open_valid ok (suc j) q

    kept_invalid : ok (walk_start ok (suc j)) (suc (suc j)) ≡ false → kept_before ok (suc (suc j)) ≡ kept_before ok (suc j) ++ (suc j ∷ [])
    unfolding kept_before
    kept_invalid q = walk_open_invalid ok (suc j) q

  pub kept_first : kept_before ok 1 ≡ kept_before ok 0 ++ (0 ∷ [])
  unfolding kept_before
  kept_first = walk_open_first ok step

  kept_none : kept_before ok 0 ≡ []
  unfolding kept_before
  kept_none = refl

  -- one sample more: the sample before is kept, or not
  pub kept_more : (j : ℕ) → (kept_before ok (suc j) ≡ kept_before ok j) ⊎ (kept_before ok (suc j) ≡ kept_before ok j ++ (j ∷ []))
  kept_more zero = inr kept_first
  kept_more (suc j) = by_test (ok (walk_start ok (suc j)) (suc (suc j))) (λ q. inl (kept_valid j q)) (λ q. inr (kept_invalid j q))

  pub kept_length : (j : ℕ) → length (kept_before ok j) ≤ j
  kept_length zero = rw kept_none (omega arith)
  kept_length (suc j) = ⊎_elim
      (λ e. omega (arith, ap length e, kept_length j))
      (λ e. omega (arith, ap length e ∙ length-append (kept_before ok j) (j ∷ []), kept_length j))
      (kept_more j)

  -- sample j closes the list
  pub kept_closes : (j : ℕ) → walk_of ok j ≡ kept_before ok j ++ (j ∷ [])
  unfolding kept_before walk_of stops
  kept_closes zero = refl
  kept_closes (suc j) = walk_closes ok step j

-- ---- holes

-- the link to the next sample crosses a hole exactly if one lies before that sample or before the one before
module _ (ts : List ℕ) (g : ℕ) {i j : ℕ} (before : i ≤ j) (o : obeys ts g i (suc j) ≡ true) where
  pub uncut_obeys : cut_at ts g (suc j) ≡ false → obeys ts g i (suc (suc j)) ≡ true
  unfolding hole_before
  uncut_obeys q =
      let h = or_false (hole ts g j) (hole ts g (suc j)) q in
      obeys_true ts g i (suc (suc j)) (record {
        near = λ long k l u. elim (dec_lt k j) [
          | yes r ↦ (true_obeys ts g i (suc j) o).near (omega arith) k l (omega arith)
          | no r ↦ elim (dec_lt j k) [
            | yes p ↦ let e : k ≡ suc j = omega arith in rw e (none_hole ts g (suc j) h.1)
            | no p ↦ let e : k ≡ j = omega arith in rw e (none_hole ts g j h.0)
          ]
        ];
      })

  hole_cuts : (k : ℕ) → j ≤ k → k < suc (suc j) → hole ts g k ≡ true → obeys ts g i (suc (suc j)) ≡ false
  hole_cuts k l u h = is_false _ (λ e. absurd (omega (arith, some_hole ts g k h, (true_obeys ts g i (suc (suc j)) e).near (omega arith) k (omega arith) u)))

  pub cut_cuts : cut_at ts g (suc j) ≡ true → obeys ts g i (suc (suc j)) ≡ false
  unfolding hole_before
  cut_cuts q = by_test (hole ts g j) (λ h. hole_cuts j (omega arith) (omega arith) h) (λ h. hole_cuts (suc j) (omega arith) (omega arith) (rw h at q))

-- ---- one sample more

module _ {ts : List ℕ} {vs : List ℤ} {c : Criterion} {o : List ℕ} where
  pub walked_none : {h : Held} → h.count ≡ 0 → h.list ≡ o → Walked ts vs c o 0 h
  unfolding kept_before
  walked_none e f = record { taken = λ z. absurd (omega arith); count = e; list = f }

  module _ {j : ℕ} {h : Held} (w : Walked ts vs c o j h) where
    pub walked_count : h.count ≤ j
    walked_count = omega (arith, w.count, kept_length (valid ts vs c) (steps_valid ts vs c) j)

    -- the sample j is kept, and the open link starts from it
    module _ {before here : Sample} (t : Trace ts vs) (b : Bounded c) (inside : suc j < length ts) (g : SampleAt ts vs j before) (k : SampleAt ts vs (suc j) here) where
      start : StartAt ts vs j (record { sample = j; tick = before.tick; level = before.level; value = value vs j })
      start = sample_start g

      again : AimTo ts vs c j (j + 1) (aim_from c before.tick before.level here)
      again = rw (add-one j) (aim_to_sample start k b)

      kept_step : walk_start (valid ts vs c) (suc j) ≡ j → kept_before (valid ts vs c) (suc j) ≡ kept_before (valid ts vs c) j ++ (j ∷ []) → suc j < length o
          → Walked ts vs c o (suc j) (anew c before here j h)
      kept_step e f room =
          let s : j + 1 < length ts = omega arith in
          let fits = extended_fits (none_fits b) (first_tilt t b s start again) in
          record {
            taken = λ z. rw e (rw (add-one (j + 1), add-one j) at (taken_first t b s start again refl fits refl));
            count = rw (f, length-append, w.count);
            list = rw (f, w.list, w.count) (overwrite_snoc (kept_before (valid ts vs c) j) o j (omega (arith, kept_length (valid ts vs c) (steps_valid ts vs c) j)));
          }

      again_ahead : Ahead before.tick before.level here
      again_ahead = ahead_of start k t (omega arith) inside

-- from the first sample
module _ {ts : List ℕ} {vs : List ℤ} {c : Criterion} {o : List ℕ} {h : Held} (w : Walked ts vs c o 0 h)
    {before here : Sample} (t : Trace ts vs) (b : Bounded c) (inside : 1 < length ts) (g : SampleAt ts vs 0 before) (k : SampleAt ts vs 1 here) where
  first_cut : cut_at ts c.gap 0 ≡ true
  unfolding hole_before
  first_cut = refl

  first_steps : Steps c (cut_at ts c.gap 0) before here h
  first_steps = record {
    bounded = b;
    goes = record { ahead = λ q. true_false first_cut q; fits = λ q. true_false first_cut q };
    again = again_ahead w t b inside g k;
  }

  first_step : 1 < length o → Walked ts vs c o 1 (stepped c (cut_at ts c.gap 0) before here 0 h)
  first_step room =
      rw (stepped_no c (cut_at ts c.gap 0) before here 0 h (goes_not _ first_cut))
      (kept_step w t b inside g k (walk_start_first (valid ts vs c)) (kept_first (valid ts vs c) (steps_valid ts vs c)) room)

-- from a later one
module _ {ts : List ℕ} {vs : List ℤ} {c : Criterion} {o : List ℕ} {j : ℕ} {h : Held} (w : Walked ts vs c o (suc j) h)
    {before here : Sample} (t : Trace ts vs) (b : Bounded c) (inside : suc (suc j) < length ts) (g : SampleAt ts vs (suc j) before) (k : SampleAt ts vs (suc (suc j)) here) where
  abbrev ok : ℕ → ℕ → Bool
  ok = valid ts vs c

  abbrev i : ℕ
  i = walk_start (valid ts vs c) (suc j)

  early : i ≤ j
  early = walk_start_before ok j

  reached : obeys ts c.gap i (suc j) ≡ true
  reached = valid_obeys ts vs c i (suc j) (walk_link ok j (steps_valid ts vs c))

  held : TakenIn ts vs c i (suc (suc j)) (links_of ts vs c.gap i h)
  held = w.taken (omega arith)

  aim : AimTo ts vs c i (suc (suc j)) (aim_from c h.tick h.level here)
  aim = aim_to_sample held.start k b

  module _ (obey : obeys ts c.gap i (suc (suc j)) ≡ true) where
    reach : suc (suc j) ≤ links_end ts c.gap i
    reach = elim (dec_lt (links_end ts c.gap i) (suc (suc j))) [
      | yes q ↦ true_false obey (obeys_past ts c.gap i (omega (arith, early)) (suc (suc j)) q inside)
      | no q ↦ omega arith
    ]

    next : Next ts vs c (links_of ts vs c.gap i h) (suc (suc j))
    next = next_at held t b (omega (arith, early)) reach inside

  goes_valid : goes_on c (cut_at ts c.gap (suc j)) here h.tick h.level h.cone ≡ ok i (suc (suc j))
  goes_valid = by_test (cut_at ts c.gap (suc j))
      (λ q. goes_not _ q ∙ sym (hole_invalid ts vs c i (suc (suc j)) (cut_cuts ts c.gap early reached q)))
      (λ q. goes_as _ q (next_valid (next (uncut_obeys ts c.gap early reached q)) aim))

  later_steps : Steps c (cut_at ts c.gap (suc j)) before here h
  later_steps = record {
    bounded = b;
    goes = record { ahead = λ q. ahead_of held.start k t (omega (arith, early)) inside; fits = λ q. held.fits };
    again = again_ahead w t b inside g k;
  }

  valid_step : ok i (suc (suc j)) ≡ true → Walked ts vs c o (suc (suc j)) (further c here h)
  valid_step q =
      let n = next (valid_obeys ts vs c i (suc (suc j)) q) in
      record {
        taken = λ z. rw (walk_start_valid ok (suc j) q) (rw (add-one (suc (suc j))) at (next_taken n aim refl (extended_fits held.fits (next_tilt n aim))));
        count = rw (kept_valid ok (steps_valid ts vs c) j q) w.count;
        list = rw (kept_valid ok (steps_valid ts vs c) j q) w.list;
      }

  later_step : suc (suc j) < length o → Walked ts vs c o (suc (suc j)) (stepped c (cut_at ts c.gap (suc j)) before here (suc j) h)
  later_step room = by_test (ok i (suc (suc j)))
      (λ q. rw (stepped_yes c (cut_at ts c.gap (suc j)) before here (suc j) h (goes_valid ∙ q)) (valid_step q))
      (λ q. rw (stepped_no c (cut_at ts c.gap (suc j)) before here (suc j) h (goes_valid ∙ q))
      (kept_step w t b inside g k (walk_start_invalid ok (suc j) q) (kept_invalid ok (steps_valid ts vs c) j q) room))

-- from any sample
module _ {ts : List ℕ} {vs : List ℤ} {c : Criterion} {o : List ℕ} {h : Held} {before here : Sample} (t : Trace ts vs) (b : Bounded c) where
  pub walked_steps : (j : ℕ) → Walked ts vs c o j h → suc j < length ts → SampleAt ts vs j before → SampleAt ts vs (suc j) here → Steps c (cut_at ts c.gap j) before here h
  walked_steps zero w inside g k = first_steps w t b inside g k
  walked_steps (suc j) w inside g k = later_steps w t b inside g k

  pub walked_step : (j : ℕ) → Walked ts vs c o j h → suc j < length ts → SampleAt ts vs j before → SampleAt ts vs (suc j) here → suc j < length o
      → Walked ts vs c o (suc j) (stepped c (cut_at ts c.gap j) before here j h)
  walked_step zero w inside g k room = first_step w t b inside g k room
  walked_step (suc j) w inside g k room = later_step w t b inside g k room

-- ---- closed with a sample, the samples kept so far are walk's list of the samples up to there

module _ {ts : List ℕ} {vs : List ℤ} {c : Criterion} {o : List ℕ} {j : ℕ} {h : Held} (w : Walked ts vs c o j h) where
  pub closed_count : h.count + 1 ≡ length (walk_of (valid ts vs c) j)
  closed_count = rw (kept_closes (valid ts vs c) (steps_valid ts vs c) j, length-append, w.count)

  pub closed_list : j < length o → set h.list h.count j ≡ overwrite (walk_of (valid ts vs c) j) o
  closed_list room =
      rw (kept_closes (valid ts vs c) (steps_valid ts vs c) j, w.list, w.count)
      (overwrite_snoc (kept_before (valid ts vs c) j) o j (omega (arith, kept_length (valid ts vs c) (steps_valid ts vs c) j)))

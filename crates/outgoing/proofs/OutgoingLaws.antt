-- Laws of the links from one sample: how they begin, what they say of a link, and one sample more.
-- Assumes nothing.
use mathlib.Core.Path.{◌≡◌, sym, subst, ◌∙◌}
use mathlib.Core.Logic.{⊎_elim}
use mathlib.Core.Bool.{Bool, true, false}
use mathlib.Core.List.{List}
use Prim.Native.Nat.{ℕ, ◌+◌, ◌≤◌, ◌<◌}
use native.Mathlib.Nat.{eq-or-lt_of_le}
use native.Mathlib.Omega.{arith}
use lib.IntN.{ℤ}
use lib.ListN.{length}
use Rattle.lists.proofs.Tests.{and_true, is_false, is_true_unless, true_false}
use Rattle.trace.specs.declared.Criterion.{Criterion}
use Rattle.trace.specs.declared.Start.{Start}
use Rattle.trace.specs.declared.Edge.{Edge}
use Rattle.trace.specs.declared.Aim.{Aim}
use Rattle.trace.specs.declared.Cone.{Cone}
use Rattle.trace.specs.Trace.{Trace}
use Rattle.trace.specs.Link.{Linked, Bounded, valid, links_end}
use Rattle.trace.specs.Edge.{middle, StartAt, EdgeTo, AimTo, AimSlope, AimTilt, no_steeper}
use Rattle.trace.specs.Cone.{cone_from, admits_edge, extended_by, ConeFits}
use Rattle.trace.proofs.EdgeLaws.{aim_from_lem, tilts, aim_tilts, aim_slope, low_test, high_test}
use Rattle.trace.proofs.Holes.{obeys_to}
use Rattle.trace.proofs.Validity.{true_valid, obeying_valid, not_above, not_below}
use Rattle.trace.proofs.ConeLaws.{low_none, high_none, takes_none, takes_more, takes_admits}
use Rattle.outgoing.specs.declared.Links.{Links}
use Rattle.outgoing.specs.Outgoing.{TakenIn, Next, Beyond}

-- what has taken in the sample after its start, by its edge
module _ {ts : List ℕ} {vs : List ℤ} {c : Criterion} {i : ℕ} {s : Start} {to : Aim} (t : Trace ts vs) (b : Bounded c) (inside : i + 1 < length ts)
    (h : StartAt ts vs i s) (e : AimTo ts vs c s.sample (i + 1) to) where
  pub first_tilt : AimTilt to c
  first_tilt = aim_tilts (aim_from_lem h e) t (omega arith) inside b

  pub taken_first : {cone : Cone} {limit : ℕ} → cone ≡ extended_by (cone_from c) to c → ConeFits cone → limit ≡ links_end ts c.gap i
      → TakenIn ts vs c i (i + 1 + 1) (record { from = s; cone = cone; limit = limit })
  taken_first q f g = record {
    start = h;
    takes = rw q (takes_more (record { trace = t; forward = omega arith; inside = inside }) b (takes_none h) (aim_from_lem h e));
    fits = f;
    limit = g;
  }

-- the next sample j of links whose start is sample i
module _ {ts : List ℕ} {vs : List ℤ} {c : Criterion} {i j : ℕ} {l : Links} (h : TakenIn ts vs c i j l) where
  pub next_at : Trace ts vs → Bounded c → i < j → j ≤ links_end ts c.gap i → j < length ts → Next ts vs c l j
  next_at t b ij reach jn = record {
    trace = t;
    bounded = b;
    taken = subst (λ (k : ℕ). TakenIn ts vs c k j l) (sym h.start.sample) h;
    after = omega (arith, h.start.sample);
    reach = omega (arith, h.limit);
    inside = jn;
  }

  pub taken_at : {k : ℕ} {m : Links} → TakenIn ts vs c l.from.sample k m → TakenIn ts vs c i k m
  taken_at {k} {m} f = subst (λ (n : ℕ). TakenIn ts vs c n k m) h.start.sample f

  pub valid_at : (k : ℕ) {b : Bool} → b ≡ valid ts vs c l.from.sample k → b ≡ valid ts vs c i k
  valid_at k {b} e = subst (λ (n : ℕ). b ≡ valid ts vs c n k) h.start.sample e

-- `to` is the edge to the next sample
module _ {ts : List ℕ} {vs : List ℤ} {c : Criterion} {j : ℕ} {l : Links} {to : Aim} (n : Next ts vs c l j) (h : AimTo ts vs c l.from.sample j to) where
  link : Linked ts vs l.from.sample j
  link = record { trace = n.trace; forward = n.after; inside = n.inside }

  pub next_tilt : AimTilt to c
  next_tilt = aim_tilts h n.trace (omega (arith, n.after)) n.inside n.bounded

  pub next_slope : AimSlope to
  next_slope = aim_slope next_tilt

  pub next_valid : admits_edge l.cone to ≡ valid ts vs c l.from.sample j
  next_valid = takes_admits link n.bounded n.taken.takes h
      ∙ sym (obeying_valid ts vs c _ j (obeys_to ts c.gap _ (omega (arith, n.after, n.inside)) j (omega (arith, n.reach, n.taken.limit))))

  pub next_taken : {cone : Cone} → cone ≡ extended_by l.cone to c → ConeFits cone → TakenIn ts vs c l.from.sample (j + 1) (record { from = l.from; cone = cone; limit = l.limit })
  next_taken e f = record { start = n.taken.start; takes = rw e (takes_more link n.bounded n.taken.takes h); fits = f; limit = n.taken.limit }

-- the edge from a sample to itself
module _ {ts : List ℕ} {vs : List ℤ} {q i k : ℕ} {e : Edge} (h : EdgeTo ts vs q i k e) (same : i ≡ k) where
  own : EdgeTo ts vs q i i e
  own = subst (λ (n : ℕ). EdgeTo ts vs q i n e) (sym same) h

  own_run : e.run ≡ 0
  own_run = omega (arith, own.run)

  own_rise : e.rise ≡ middle
  own_rise = omega (arith, own.rise)

-- a link that fails a sample taken in is invalid, whatever else lies between
module _ {ts : List ℕ} {vs : List ℤ} {c : Criterion} {e : ℕ} {l : Links} {to : Aim} (n : Beyond ts vs c l e) (h : AimTo ts vs c l.from.sample e to) where
  abbrev from : ℕ
  from = l.from.sample

  pub later_slope : AimSlope to
  later_slope = aim_slope (aim_tilts h n.trace (omega (arith, n.after)) n.inside n.bounded)

  module _ (v : valid ts vs c from e ≡ true) where
    low_passes : no_steeper l.cone.low to.up ≡ true
    low_passes =
        let k = n.taken.takes in
        rw k.low_is (⊎_elim
        (λ z. low_none k.low to.up c.up.p (own_run k.low_edge z) (own_rise k.low_edge z))
        (λ lt.
        low_test n.trace k.lower_from (omega (arith, k.lower_to, n.order)) n.inside h.up k.low_edge
        (tilts k.low_edge n.trace k.lower_from (omega (arith, k.lower_to, n.order, n.inside)) n.bounded.up.q_bound n.bounded.up.p_bound).low
        ∙ is_true_unless _ (λ q. not_above ts vs c from e k.lower q ((true_valid ts vs c from e v).within.between k.lower lt (omega (arith, k.lower_to, n.order)))))
        (eq-or-lt_of_le k.lower_from))

    high_passes : no_steeper to.down l.cone.high ≡ true
    high_passes =
        let k = n.taken.takes in
        rw k.high_is (⊎_elim
        (λ z. high_none k.high to.down c.down.p (own_run k.high_edge z) (own_rise k.high_edge z))
        (λ lt.
        high_test n.trace k.upper_from (omega (arith, k.upper_to, n.order)) n.inside h.down k.high_edge c.down.p
        ∙ is_true_unless _ (λ q. not_below ts vs c from e k.upper q ((true_valid ts vs c from e v).within.between k.upper lt (omega (arith, k.upper_to, n.order)))))
        (eq-or-lt_of_le k.upper_from))

  pub later_invalid : admits_edge l.cone to ≡ false → valid ts vs c from e ≡ false
  later_invalid r = is_false _ (λ v. true_false (and_true (low_passes v) (high_passes v)) r)

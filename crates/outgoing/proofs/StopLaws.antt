-- Laws of walk over a trace: the samples that it reaches from a start, and its stop.
-- Assumes nothing.
use mathlib.Core.Path.{◌≡◌, sym, ◌∙◌}
use mathlib.Core.Bool.{Bool, true, false}
use mathlib.Core.List.{List}
use Prim.Native.Nat.{ℕ, ◌+◌, ◌-◌, ◌≤◌, ◌<◌}
use native.Mathlib.Numerals.{add-one}
use native.Mathlib.Decide.{dec_lt}
use native.Mathlib.Omega.{arith}
use lib.IntN.{ℤ}
use lib.ListN.{length}
use Rattle.kept.specs.Walk.{walk_from, walk_stop}
use Rattle.kept.proofs.WalkLaws.{from_valid, from_invalid, from_last}
use Rattle.trace.specs.declared.Criterion.{Criterion}
use Rattle.trace.specs.Trace.{Trace}
use Rattle.trace.specs.Link.{Bounded, valid, links_end}
use Rattle.trace.proofs.Holes.{links_end_after, links_end_inside, obeys_past}
use Rattle.trace.proofs.Validity.{steps_valid, hole_invalid}
use Rattle.outgoing.specs.declared.Links.{Links}
use Rattle.outgoing.specs.Outgoing.{TakenIn, Next}
use Rattle.outgoing.proofs.OutgoingLaws.{next_at, taken_at, valid_at}

-- walk from sample i has reached sample j by valid links
pub record WalkedTo (ts : List ℕ) (vs : List ℤ) (c : Criterion) (i j : ℕ) (l : Links) : Type 0 where
  pub after : i < j
  pub within : j ≤ links_end ts c.gap i
  pub inside : i + 1 < length ts
  pub links : TakenIn ts vs c i (j + 1) l
  pub stop : walk_from (valid ts vs c) i j (length ts - 1 - j) ≡ walk_stop (valid ts vs c) (length ts - 1) i

pub walked_first : {ts : List ℕ} {vs : List ℤ} {c : Criterion} {i : ℕ} {l : Links} → i + 1 < length ts → TakenIn ts vs c i (i + 1 + 1) l → WalkedTo ts vs c i (i + 1) l
walked_first {ts} {vs} {c} {i} h t = record {
  after = omega arith;
  within = omega (arith, links_end_after ts c.gap i h);
  inside = h;
  links = t;
  stop = sym (from_valid (valid ts vs c) (length ts - 1) i i (omega arith) (rw (add-one i) (steps_valid ts vs c i)));
}

module _ {ts : List ℕ} {vs : List ℤ} {c : Criterion} {i j : ℕ} {l : Links} (g : WalkedTo ts vs c i j l) where
  end_inside : links_end ts c.gap i < length ts
  end_inside = links_end_inside ts c.gap i g.inside

  pub walked_bounds : {limit : ℕ} → limit ≡ links_end ts c.gap i → (i < j) × (j ≤ limit) × (j < length ts)
  walked_bounds e = (g.after, omega (arith, g.within), omega (arith, g.within, end_inside))

  -- the last sample, or the one before a hole
  pub walked_last : {limit : ℕ} → limit ≡ links_end ts c.gap i → limit ≤ j → j ≡ walk_stop (valid ts vs c) (length ts - 1) i
  walked_last e le = elim (dec_lt j (length ts - 1)) [
    | yes lt ↦ sym (from_invalid (valid ts vs c) (length ts - 1) i j lt (hole_invalid ts vs c i (j + 1) (obeys_past ts c.gap i g.inside (j + 1) (omega arith) (omega arith)))) ∙ g.stop
    | no end ↦ sym (from_last (valid ts vs c) (length ts - 1) i j (omega arith)) ∙ g.stop
  ]

  module _ {limit : ℕ} (limit_is : limit ≡ links_end ts c.gap i) (before : j < limit) where
    lt : j < length ts - 1
    lt = omega (arith, end_inside)

    pub walked_next : Trace ts vs → Bounded c → Next ts vs c l (j + 1)
    walked_next t b = next_at g.links t b (omega (arith, g.after)) (omega arith) (omega (arith, lt))

    module _ {r b : Bool} (q : r ≡ b) (e : r ≡ valid ts vs c l.from.sample (j + 1)) where
      test : valid ts vs c i (j + 1) ≡ b
      test = sym (valid_at g.links (j + 1) e) ∙ q

    pub walked_valid : {r : Bool} {m : Links} → r ≡ true → r ≡ valid ts vs c l.from.sample (j + 1) → TakenIn ts vs c l.from.sample (j + 1 + 1) m → WalkedTo ts vs c i (j + 1) m
    walked_valid q e t = record {
      after = omega (arith, g.after);
      within = omega arith;
      inside = g.inside;
      links = taken_at g.links t;
      stop = sym (from_valid (valid ts vs c) (length ts - 1) i j lt (test q e)) ∙ g.stop;
    }

    pub walked_invalid : {r : Bool} → r ≡ false → r ≡ valid ts vs c l.from.sample (j + 1) → j ≡ walk_stop (valid ts vs c) (length ts - 1) i
    walked_invalid q e = sym (from_invalid (valid ts vs c) (length ts - 1) i j lt (test q e)) ∙ g.stop

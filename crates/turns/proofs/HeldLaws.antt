-- Laws of what is held of the tolerances: parts of the output, and one tolerance's turn.
-- Assumes nothing.
use mathlib.Core.Path.{◌≡◌, refl, sym, ap, ◌∙◌}
use mathlib.Core.Logic.{◌≢◌}
use mathlib.Core.Bool.{Bool, true, false, not, ◌&&◌}
use mathlib.Core.List.{List}
use Prim.Native.Nat.{ℕ, ◌+◌, ◌-◌, ◌*◌, ◌≤◌, ◌<◌}
use native.Mathlib.Nat.{mul-le-mul_right}
use native.Mathlib.Decide.{dec_lt}
use native.Mathlib.Omega.{arith}
use lib.ListN.{set, take, drop}
use lib.Seq.{take-set-le, take-set-lt, drop-set-lt, drop-set-add}
use Rattle.lists.proofs.Tests.{by_test}
use Rattle.trace.specs.declared.Criterion.{Criterion}
use Rattle.trace.specs.declared.Edge.{Edge}
use Rattle.trace.specs.declared.Aim.{Aim}
use Rattle.trace.specs.declared.Cone.{Cone}
use Rattle.trace.specs.Link.{Bounded}
use Rattle.trace.specs.Edge.{Slope, Tilt, AimTilt, no_steeper, lowered, raised}
use Rattle.trace.specs.Cone.{cone_from, steeper_of, flatter_of, extended_by, ConeFits}
use Rattle.trace.proofs.EdgeLaws.{edge_slope}
use Rattle.turns.specs.declared.Sample.{Sample}
use Rattle.turns.specs.declared.Step.{Step}
use Rattle.turns.specs.declared.Walk.{Walk}
use Rattle.turns.specs.Held.{Held, goes_on, further, anew, stepped, part, Inside, held_in}
use Rattle.turns.specs.Turn.{narrowed, restarted, Turning, Became}

-- ---- cones

lowered_slope : {e : Edge} {p : ℕ} → Tilt e p → Slope (lowered e p)
lowered_slope t = edge_slope refl (omega (arith, t.high)) t.run_bound

raised_slope : {e : Edge} {p : ℕ} → Tilt e p → Slope (raised e p)
raised_slope t = edge_slope refl t.high t.run_bound

steeper_slope : {a b : Edge} → Slope a → Slope b → Slope (steeper_of a b)
steeper_slope {a} {b} h k = by_test (no_steeper a b) (λ q. rw q k) (λ q. rw q h)

flatter_slope : {a b : Edge} → Slope a → Slope b → Slope (flatter_of a b)
flatter_slope {a} {b} h k = by_test (no_steeper b a) (λ q. rw q k) (λ q. rw q h)

pub extended_fits : {cone : Cone} {to : Aim} {c : Criterion} → ConeFits cone → AimTilt to c → ConeFits (extended_by cone to c)
extended_fits f t = record { low_fits = steeper_slope f.low_fits (lowered_slope t.up); high_fits = flatter_slope f.high_fits (raised_slope t.down) }

pub none_fits : {c : Criterion} → Bounded c → ConeFits (cone_from c)
none_fits b = record {
  low_fits = edge_slope refl (omega arith) (omega arith);
  high_fits = edge_slope refl (omega (arith, b.down.q_bound, b.down.p_bound)) (omega arith);
}

-- ---- parts of the output

module _ (n b k : ℕ) (o : List ℕ) (v : ℕ) (h : k < n) where
  part_here : part n b (set o (b * n + k) v) ≡ set (part n b o) k v
  part_here = ap (take n) (drop-set-add (b * n) o k v) ∙ take-set-lt n (drop (b * n) o) k v h

  drop_there : (m : ℕ) → b < m → drop (m * n) (set o (b * n + k) v) ≡ drop (m * n) o
  drop_there m lt = drop-set-lt (m * n) o (b * n + k) v (omega (arith, mul-le-mul_right n lt))

  part_there : (a : ℕ) → a ≢ b → part n a (set o (b * n + k) v) ≡ part n a o
  part_there a ne = elim (dec_lt a b) [
    | yes q ↦ let m : a * n + n ≤ b * n = omega (arith, mul-le-mul_right n q) in
        let e : b * n + k ≡ a * n + (b * n + k - a * n) = omega arith in
        ap (λ (i : ℕ). part n a (set o i v)) e ∙ ap (take n) (drop-set-add (a * n) o (b * n + k - a * n) v) ∙ take-set-le n (drop (a * n) o) (b * n + k - a * n) v (omega arith)
    | no q ↦ ap (take n) (drop_there a (omega arith))
  ]

-- ---- a turn

module _ (c : Criterion) (cut : Bool) (before here : Sample) (at : ℕ) (h : Held) where
  pub stepped_yes : goes_on c cut here h.tick h.level h.cone ≡ true → stepped c cut before here at h ≡ further c here h
  unfolding stepped
  stepped_yes q = rw q

  pub stepped_no : goes_on c cut here h.tick h.level h.cone ≡ false → stepped c cut before here at h ≡ anew c before here at h
  unfolding stepped
  stepped_no q = rw q

-- the code's two tests
pub goes_not : {cut : Bool} (b : Bool) → cut ≡ true → (not cut && b) ≡ false
goes_not b q = rw q

pub goes_as : {cut : Bool} (b : Bool) {d : Bool} → cut ≡ false → b ≡ d → (not cut && b) ≡ d
goes_as b q h = rw q h

-- the place x of part b is entry x - b n of it
module _ (n b x : ℕ) (o : List ℕ) (v : ℕ) (h : Inside n b x) where
  entry : x ≡ b * n + (x - b * n)
  entry = omega (arith, h.from)

  lt : x - b * n < n
  lt = omega (arith, h.from, h.to)

  pub place_here : part n b (set o x v) ≡ set (part n b o) (x - b * n) v
  place_here = ap (λ (k : ℕ). part n b (set o k v)) entry ∙ part_here n b (x - b * n) o v lt

  pub place_there : (a : ℕ) → a ≢ b → part n a (set o x v) ≡ part n a o
  place_there a ne = ap (λ (k : ℕ). part n a (set o k v)) entry ∙ part_there n b (x - b * n) o v lt a ne

  pub place_beyond : (m : ℕ) → b < m → drop (m * n) (set o x v) ≡ drop (m * n) o
  place_beyond m q = ap (λ (k : ℕ). drop (m * n) (set o k v)) entry ∙ drop_there n b (x - b * n) o v lt m q

module _ {step : Step} {w : Walk} {out : List ℕ} (g : Turning step w out) (n a : ℕ) (inside : Inside n a w.place) where
  abbrev goes_here : Bool
  goes_here = goes_on w.criterion step.cut step.here w.tick w.level w.cone

  abbrev next : Held
  next = stepped w.criterion step.cut step.before step.here step.at (held_in n a w out)

  pub turned_further : goes_here ≡ true → Became n a next w out (narrowed step.here w) out
  turned_further goes = record {
    criterion = refl;
    this = sym (stepped_yes w.criterion step.cut step.before step.here step.at (held_in n a w out) goes);
    place = omega arith;
    others = λ b ne. refl;
    beyond = λ m lt. refl;
  }

  pub turned_anew : {w' : Walk} {out' : List ℕ} → goes_here ≡ false → w' ≡ record (restarted step.before step.here w) { place = w.place + 1 } → out' ≡ set out w.place step.at → Became n a next w out w' out'
  turned_anew goes e f = rw (e, f) (record {
    criterion = refl;
    this =
        let e : w.place + 1 - a * n ≡ w.place - a * n + 1 = omega (arith, inside.from) in
        rw (e, place_here n a w.place out step.at inside)
        (sym (stepped_no w.criterion step.cut step.before step.here step.at (held_in n a w out) goes));
    place = omega arith;
    others = λ b ne. place_there n a w.place out step.at inside b ne;
    beyond = λ m lt. place_beyond n a w.place out step.at inside m lt;
  })

-- A record that is accepted is the one that is written for what it says: `parse b ≡ says x` gives `b ≡ encode x`, with x legal; so the
-- samples of an accepted record are those of a trace.
--   Stepped, stepped   what holds of a step from one cursor to the next
-- Assumes nothing.
use mathlib.Core.Path.{◌≡◌, refl, ap, ◌∙◌, subst}
use mathlib.Core.Bool.{Bool, true, false, not, ◌&&◌}
use mathlib.Core.List.{List, [], ◌∷◌}
use Prim.Native.Nat.{ℕ, zero, suc, ◌+◌, ◌-◌, ◌≤◌, ◌<◌}
use native.Mathlib.Nat.{add-zero}
use native.Mathlib.Omega.{arith}
use borrow.Author.Tests.{leb-true, eqb-true, ltb-true, not-true, le-leb}
use lib.Dec.{leb, eqb, ltb}
use lib.IntN.{ℤ}
use lib.ListN.{length, drop, length-drop}
use lib.Seq.{drop-drop, drop-length}
use Rattle.lists.proofs.Tests.{and_first, and_second}
use Rattle.tolerance.specs.declared.Parts.{Parts}
use Rattle.tolerance.specs.Meaning.{HeldParts}
use Rattle.format.specs.Number.{Bytes, value_of}
use Rattle.format.specs.Command.{choose, command_of, command_onto}
use Rattle.format.specs.Format.{Content, Legal, Accepted, in_limits, short, follows, moved, short_obeys, long_obeys, short_step, long_step, end_step, obey, step_of, Samples, fault, samples, onto, follow, steps, header_of, Parsed, faulty, says, attach, began, parse, tolerance_command, step_to, steps_onto, samples_onto, encode}
use Rattle.format.specs.declared.Cursor.{Cursor}
use Rattle.format.specs.declared.Command.{Command}
use Rattle.format.specs.declared.Command.TheVariants.{Tolerance, Sides, First, Short, Long, End, Invalid}
use Rattle.format.specs.declared.Step.{Step}
use Rattle.format.specs.declared.Step.TheVariants.{Sample, End as Ended, Fault}
use Rattle.format.proofs.NumberLaws.{bytes_drop, level_value, value_short}
use Rattle.format.proofs.CommandLaws.{Starts, Read, read}
use Rattle.format.proofs.RuleLaws.{in_limits_le, Follows, follows_legal}
use Rattle.format.proofs.HeaderLaws.{tolerance_size, start, by_first, by_tolerance}

-- ---- a step

-- the step from the cursor c to d is written as the record has it, and obeys the rules
pub record Stepped (b : List ℕ) (c d : Cursor) : Type 0 where
  pub bytes : drop c.at b ≡ command_onto (step_to c.tick c.level d.tick d.level) (drop d.at b)
  pub inside : d.at ≤ length b
  pub first : d.first ≡ c.first
  pub rise : c.tick < d.tick
  pub ok : in_limits c.first d.tick d.level ≡ true
  pub room : c.count < 4096
  pub count : d.count ≡ c.count + 1

moved_inv : (ok : Bool) (k : ℕ) (c : Cursor) (t l : ℕ) (d : Cursor) → moved ok k c t l ≡ Sample d
    → (ok ≡ true) × (record { at = c.at + k; first = c.first; tick = t; level = l; count = c.count + 1 } ≡ d)
moved_inv true k c t l d e = (refl, cc)
moved_inv false k c t l d e = (cc, cc)

not_sample : {k : ℕ} {d : Cursor} → ◌≡◌ {A = Step} (Fault k) (Sample d) → ⊥
not_sample e = let z : ◌≡◌ {A = ℕ} 0 1 = cc in omega arith

not_sample_end : (x y : Bool) (k m : ℕ) {d : Cursor} → choose x (choose y Ended (Fault m)) (Fault k) ≡ Sample d → ⊥
not_sample_end true true k m e = let z : ◌≡◌ {A = ℕ} 0 1 = cc in omega arith
not_sample_end true false k m e = not_sample e
not_sample_end false y k m e = not_sample e

module _ (b : List ℕ) (c d : Cursor) where
  stepped_short : (a x : ℕ) → Starts (drop c.at b) (Short a x) → short_step c a x ≡ Sample d → Stepped b c d
  unfolding short_step
  stepped_short a x w e =
      let l : ℕ = c.level + x - 128 in
      let m = moved_inv (short_obeys c a x) 3 c (c.tick + a) l d e in
      let f = and_first (leb 1 a && leb 128 (c.level + x)) (follows c (c.tick + a) l) m.0 in
      let g = and_second (leb 1 a && leb 128 (c.level + x)) (follows c (c.tick + a) l) m.0 in
      let h₁ : 1 ≤ a = leb-true 1 a (and_first (leb 1 a) (leb 128 (c.level + x)) f) in
      let h₂ : 128 ≤ c.level + x = leb-true 128 (c.level + x) (and_second (leb 1 a) (leb 128 (c.level + x)) f) in
      let o = w.operands in
      let e₁ : c.tick + a - c.tick ≡ a = omega arith in
      let e₂ : l + 128 - c.level ≡ x = omega arith in
      let e₃ : leb a 255 ≡ true = le-leb a 255 o.0 in
      let e₄ : leb c.level (l + 128) ≡ true = le-leb c.level (l + 128) (omega arith) in
      let e₅ : leb l (c.level + 127) ≡ true = le-leb l (c.level + 127) (omega arith) in
      subst (Stepped b c) m.1 (record {
        bytes = rw (e₁, e₂, e₃, e₄, e₅, ← drop-drop 3 c.at b) w.bytes;
        inside = omega (arith, w.whole, length-drop c.at b);
        first = refl;
        rise = omega arith;
        ok = and_first (in_limits c.first (c.tick + a) l) (ltb c.count 4096) g;
        room = ltb-true c.count 4096 (and_second (in_limits c.first (c.tick + a) l) (ltb c.count 4096) g);
        count = refl;
      })

  stepped_long : (a l : ℕ) → Starts (drop c.at b) (Long a l) → long_step c a l ≡ Sample d → Stepped b c d
  unfolding long_step
  stepped_long a l w e =
      let m = moved_inv (long_obeys c a l) 6 c (c.tick + a) l d e in
      let f = and_first (leb 1 a && not (short c.level a l)) (follows c (c.tick + a) l) m.0 in
      let g = and_second (leb 1 a && not (short c.level a l)) (follows c (c.tick + a) l) m.0 in
      let h₁ : 1 ≤ a = leb-true 1 a (and_first (leb 1 a) (not (short c.level a l)) f) in
      let e₁ : c.tick + a - c.tick ≡ a = omega arith in
      let e₂ : short c.level a l ≡ false = not-true (short c.level a l) (and_second (leb 1 a) (not (short c.level a l)) f) in
      subst (Stepped b c) m.1 (record {
        bytes = rw (e₁, e₂, ← drop-drop 6 c.at b) w.bytes;
        inside = omega (arith, w.whole, length-drop c.at b);
        first = refl;
        rise = omega arith;
        ok = and_first (in_limits c.first (c.tick + a) l) (ltb c.count 4096) g;
        room = ltb-true c.count 4096 (and_second (in_limits c.first (c.tick + a) l) (ltb c.count 4096) g);
        count = refl;
      })

  pub stepped : Bytes b → step_of b c ≡ Sample d → Stepped b c d
  unfolding end_step
  stepped by = go (command_of (drop c.at b)) (read (bytes_drop c.at by))
    where
      go : (m : Command) → Read (drop c.at b) m → obey (length b) c m ≡ Sample d → Stepped b c d
      go (Tolerance r) w e = absurd (not_sample e)
      go (Sides x) w e = absurd (not_sample e)
      go (First t l) w e = absurd (not_sample e)
      go (Short a x) w e = stepped_short a x w e
      go (Long a l) w e = stepped_long a l w e
      go (End m) w e = absurd (not_sample_end (eqb m c.count) (eqb (c.at + 3) (length b)) _ _ e)
      go Invalid w e = absurd (not_sample e)

-- the end of the record
module _ (b : List ℕ) (c : Cursor) where
  ended_inv : (x y : Bool) (k m : ℕ) → choose x (choose y Ended (Fault m)) (Fault k) ≡ Ended → (x ≡ true) × (y ≡ true)
  ended_inv true true k m e = (refl, refl)
  ended_inv true false k m e = (refl, cc)
  ended_inv false y k m e = (cc, cc)

  moved_ended : (ok : Bool) (k t l : ℕ) → moved ok k c t l ≡ Ended → ⊥
  moved_ended true k t l e = let z : ◌≡◌ {A = ℕ} 0 1 = cc in omega arith
  moved_ended false k t l e = let z : ◌≡◌ {A = ℕ} 0 1 = cc in omega arith

  fault_ended : {k : ℕ} → ◌≡◌ {A = Step} (Fault k) Ended → ⊥
  fault_ended e = let z : ◌≡◌ {A = ℕ} 0 1 = cc in omega arith

  ended : Bytes b → step_of b c ≡ Ended → drop c.at b ≡ command_onto (End c.count) []
  unfolding short_step long_step end_step
  ended by = go (command_of (drop c.at b)) (read (bytes_drop c.at by))
    where
      go : (m : Command) → Read (drop c.at b) m → obey (length b) c m ≡ Ended → drop c.at b ≡ command_onto (End c.count) []
      go (Tolerance r) w e = absurd (fault_ended e)
      go (Sides x) w e = absurd (fault_ended e)
      go (First t l) w e = absurd (fault_ended e)
      go (Short a x) w e = absurd (moved_ended (leb 1 a && leb 128 (c.level + x) && follows c (c.tick + a) (c.level + x - 128)) 3 (c.tick + a) (c.level + x - 128) e)
      go (Long a l) w e = absurd (moved_ended (leb 1 a && not (short c.level a l) && follows c (c.tick + a) l) 6 (c.tick + a) l e)
      go (End m) w e =
          let f = ended_inv (eqb m c.count) (eqb (c.at + 3) (length b)) _ _ e in
          let k : m ≡ c.count = eqb-true m c.count f.0 in
          let n : c.at + 3 ≡ length b = eqb-true (c.at + 3) (length b) f.1 in
          let z : drop 3 (drop c.at b) ≡ [] = drop-drop 3 c.at b ∙ ap (λ (i : ℕ). drop i b) n ∙ drop-length b in
          w.bytes ∙ rw (z, k)
      go Invalid w e = absurd (fault_ended e)

-- ---- the steps

-- what the steps from a cursor on are written as
record Tail (b : List ℕ) (c : Cursor) (ts : List ℕ) (vs : List ℤ) : Type 0 where
  bytes : drop c.at b ≡ steps_onto c.tick c.level ts vs (command_onto (End (c.count + length ts)) [])
  follows_on : Follows c.first c.tick ts vs
  few : c.count ≤ 4096 → c.count + length ts ≤ 4096

module _ (b : List ℕ) (by : Bytes b) where
  tail_more : (c d : Cursor) {ts : List ℕ} {vs : List ℤ} → Stepped b c d → Tail b d ts vs → Tail b c (d.tick ∷ ts) (value_of d.level ∷ vs)
  unfolding steps_onto
  tail_more c d {ts} {vs} s t =
      let x : d.count + length ts ≡ c.count + suc (length ts) = omega (arith, s.count) in
      let w = in_limits_le c.first d.tick d.level s.ok in
      record {
        bytes = rw (level_value d.level w.2) (s.bytes ∙ ap (command_onto (step_to c.tick c.level d.tick d.level)) (t.bytes ∙ ap (λ (m : ℕ). steps_onto d.tick d.level ts vs (command_onto (End m) [])) x));
        follows_on = (s.rise, w.0, w.1, value_short d.level w.2, rw s.first at t.follows_on);
        few = λ _. omega (arith, x, s.room, s.count, t.few (omega (arith, s.count, s.room)));
      }

  Says : Cursor → Samples → Type 0
  Says c (fault k) = Unit {0}
  Says c (samples ts vs) = Tail b c ts vs

  says_more : (c d : Cursor) → Stepped b c d → (r : Samples) → Says d r → Says c (onto d r)
  unfolding Says
  says_more c d s (fault k) t = tt
  says_more c d s (samples ts vs) t = tail_more c d s t

  says_end : (c : Cursor) → step_of b c ≡ Ended → Tail b c [] []
  unfolding steps_onto
  says_end c e = record { bytes = rw add-zero (ended b c by e); follows_on = tt; few = λ h. omega arith }

  says_steps : (n : ℕ) (c : Cursor) → Says c (steps b n c)
  unfolding steps Says
  says_steps zero c = tt
  says_steps (suc n) c = go (λ d. says_steps n d) (step_of b c) refl
    where
      go : ((d : Cursor) → Says d (steps b n d)) → (s : Step) → step_of b c ≡ s → Says c (follow s (λ d. steps b n d))
      go ih (Sample d) e = says_more c d (stepped b c d by e) (steps b n d) (ih d)
      go ih Ended e = says_end c e
      go ih (Fault k) e = tt

  tail : (n : ℕ) (c : Cursor) {ts : List ℕ} {vs : List ℤ} → steps b n c ≡ samples ts vs → Tail b c ts vs
  unfolding Says
  tail n c e = subst (Says c) e (says_steps n c)

-- ---- the whole record

module _ {b : List ℕ} (by : Bytes b) where
  Whole : Parsed → Type 0
  Whole (faulty k) = Unit {0}
  Whole (says x) = (b ≡ encode x) × Legal x

  module _ (x : Parts) (h : HeldParts x) (v : Starts b (tolerance_command x)) (t l : ℕ) (w : Starts (drop (tolerance_size x) b) (First t l)) where
    abbrev c : Cursor
    c = start (tolerance_size x) t l

    whole_content : (ts : List ℕ) (vs : List ℤ) → Tail b c ts vs → Whole (says (record { tolerance = x; ticks = t ∷ ts; values = value_of l ∷ vs }))
    unfolding Whole encode samples_onto
    whole_content ts vs s =
        let n : 1 + length ts ≡ suc (length ts) = omega arith in
        let o = w.operands in (
          rw (level_value l o.1) (v.bytes ∙ ap (command_onto (tolerance_command x))
              (w.bytes ∙ ap (command_onto (First t l))
              (drop-drop 7 (tolerance_size x) b ∙ s.bytes ∙ ap (λ (m : ℕ). steps_onto t l ts vs (command_onto (End m) [])) n))),
          follows_legal x t ts (value_of l) vs h o.0 (value_short l o.1) (omega (arith, s.few (omega arith))) s.follows_on,
        )

    whole_first : (s : Samples) → steps b 4096 c ≡ s → Whole (attach x (onto c s))
    unfolding Whole
    whole_first (fault k) e = tt
    whole_first (samples ts vs) e = whole_content ts vs (tail b by 4096 c e)

  whole : Whole (began b (header_of b))
  unfolding Whole
  whole =
      by_tolerance by (λ h. Whole (began b h)) tt
      (λ x h v. by_first by (λ h. Whole (began b h)) (tolerance_size x) x tt (λ t l w. whole_first x h v t l w (steps b 4096 (start (tolerance_size x) t l)) refl))

  -- an accepted record is the one that is written for its content, which is legal
  pub encode_parse : {x : Content} → parse b ≡ says x → Accepted b x
  unfolding parse Whole
  encode_parse e = let w = subst Whole e whole in record { parsed = e; bytes = w.0; legal = w.1 }

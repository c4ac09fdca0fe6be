-- The fault's byte: `parse b` is faulty at byte k exactly if the fault of b lies at byte k.
--   Faults           the fault of the step at a cursor
--   Ahead, AheadBy   the bytes from a cursor on are steps and an end or none, up to byte k; so they are up to a fault
--   Obeyed           the bytes before a fault are commands that obey the rules
--   Late, Past       a fault lies at byte n or after it
-- Assumes nothing.
use mathlib.Core.Path.{◌≡◌, refl, sym, ap, ◌∙◌, subst}
use mathlib.Core.Logic.{◌↔◌, inl, inr}
use mathlib.Core.Bool.{Bool, true, false}
use mathlib.Core.List.{List, [], ◌∷◌, ◌++◌}
use Prim.Native.Nat.{ℕ, zero, suc, ◌+◌, ◌≤◌}
use native.Mathlib.Nat.{add-zero}
use native.Mathlib.Omega.{arith}
use Rattle.std.specs.Prelude.{Ok}
use borrow.Author.Tests.{eqb-true}
use lib.Dec.{eqb}
use lib.IntN.{ℤ}
use lib.ListN.{length, take, drop, length-drop}
use lib.Seq.{drop-drop, length-take-le}
use Rattle.tolerance.specs.declared.Parts.{Parts}
use Rattle.tolerance.specs.Meaning.{HeldParts}
use Rattle.trace.specs.Level.{level}
use Rattle.trace.proofs.Level.{level_short}
use Rattle.format.specs.Number.{Bytes, value_of}
use Rattle.format.specs.Command.{choose, command_of, command_onto}
use Rattle.format.specs.Format.{moved, short_obeys, long_obeys, short_step, long_step, end_step, obey, step_of, Samples, fault, samples, onto, follow, steps, sample_header, header_of, Parsed, faulty, says, attach, began, parse, tolerance_command, step_to, steps_onto, encode}
use Rattle.format.specs.Fault.{Run, none, tolerance_only, unended, complete, FaultAt}
use Rattle.format.specs.declared.Cursor.{Cursor}
use Rattle.format.specs.declared.Command.{Command}
use Rattle.format.specs.declared.Command.TheVariants.{Tolerance, Sides, First, Short, Long, End, Invalid}
use Rattle.format.specs.declared.Step.{Step}
use Rattle.format.specs.declared.Step.TheVariants.{Sample, End as Ended, Fault}
use Rattle.format.proofs.NumberLaws.{bytes_drop, level_value, value_short}
use Rattle.format.proofs.CommandLaws.{Starts, Read, read, command_append, command_length, command_read, command_rest}
use Rattle.format.proofs.RuleLaws.{in_limits_le, Follows, first_sample, legal_follows, follows_legal}
use Rattle.format.proofs.HeaderLaws.{tolerance_size, start, header_written, by_first, by_tolerance}
use Rattle.format.proofs.ParseEncode.{steps_along, end_step_lem, parse_encode}
use Rattle.format.proofs.RunLaws.{EndOrNone, front, behind, Opened, opened_run, unended_opened, complete_opened}
use Rattle.format.proofs.EncodeParse.{Stepped, stepped, encode_parse}

-- ---- a step's fault

-- at the command there; or after it, where it is an end
record Faults (b : List ℕ) (c : Cursor) (k : ℕ) : Type 0 where
  end : List ℕ
  ends : EndOrNone c.count end
  bytes : drop c.at b ≡ end ++ drop k b
  order : c.at ≤ k
  inside : k ≤ length b

module _ (b : List ℕ) (c : Cursor) (k : ℕ) (within : c.at ≤ length b) where
  faults_here : c.at ≡ k → Faults b c k
  faults_here e = record { end = []; ends = inl refl; bytes = rw e; order = omega arith; inside = omega arith }

  faults_moved : (ok : Bool) (n t l : ℕ) → moved ok n c t l ≡ Fault k → Faults b c k
  faults_moved true n t l e = faults_here cc
  faults_moved false n t l e = faults_here cc

  faults_end : (m : ℕ) → Starts (drop c.at b) (End m) → end_step (length b) c m ≡ Fault k → Faults b c k
  unfolding end_step
  faults_end m w = go (eqb m c.count) refl (eqb (c.at + 3) (length b))
    where
      go : (x : Bool) → eqb m c.count ≡ x → (y : Bool) → choose x (choose y Ended (Fault (c.at + 3))) (Fault c.at) ≡ Fault k → Faults b c k
      go true f true e = faults_here cc
      go true f false e =
          let j : c.at + 3 ≡ k = cc in
          record {
            end = command_onto (End c.count) [];
            ends = inr refl;
            bytes = rw (← j, ← drop-drop 3 c.at b, ← eqb-true m c.count f) (w.bytes ∙ command_append (End m) (drop 3 (drop c.at b)));
            order = omega arith;
            inside = omega (arith, length-drop c.at b);
          }
      go false f y e = faults_here cc

  faults : Bytes b → step_of b c ≡ Fault k → Faults b c k
  unfolding short_step long_step
  faults by = go (command_of (drop c.at b)) (read (bytes_drop c.at by))
    where
      go : (m : Command) → Read (drop c.at b) m → obey (length b) c m ≡ Fault k → Faults b c k
      go (Tolerance r) w e = faults_here cc
      go (Sides x) w e = faults_here cc
      go (First t l) w e = faults_here cc
      go (Short a x) w e = faults_moved (short_obeys c a x) 3 _ _ e
      go (Long a l) w e = faults_moved (long_obeys c a l) 6 _ _ e
      go (End m) w e = faults_end m w e
      go Invalid w e = faults_here cc

-- ---- what is shown of a fault

record Ahead (b : List ℕ) (c : Cursor) (k : ℕ) : Type 0 where
  ticks : List ℕ
  values : List ℤ
  end : List ℕ
  ends : EndOrNone (c.count + length ticks) end
  bytes : drop c.at b ≡ steps_onto c.tick c.level ticks values (end ++ drop k b)
  follows_on : Follows c.first c.tick ticks values
  few : c.count + length ticks ≤ 4096
  order : c.at ≤ k
  inside : k ≤ length b

AheadBy : List ℕ → Cursor → Samples → Type 0
AheadBy b c (fault k) = Ahead b c k
AheadBy b c (samples ts vs) = Unit {0}

Obeyed : List ℕ → Parsed → Type 0
Obeyed b (faulty k) = (k ≤ length b) × Run (take k b)
Obeyed b (says x) = Unit {0}

Late : ℕ → Samples → Type 0
Late n (fault k) = n ≤ k
Late n (samples ts vs) = Unit {0}

late_onto : (n : ℕ) (c : Cursor) (s : Samples) → Late n s → Late n (onto c s)
unfolding Late
late_onto n c (fault k) h = h
late_onto n c (samples ts vs) h = tt

Past : ℕ → Parsed → Type 0
Past n (faulty k) = n ≤ k
Past n (says x) = Unit {0}

past_none : (p : Parsed) → Past 0 p
unfolding Past
past_none (faulty k) = omega arith
past_none (says x) = tt

past_attach : (n : ℕ) (x : Parts) (c : Cursor) (s : Samples) → Late n s → Past n (attach x (onto c s))
unfolding Late Past
past_attach n x c (fault k) h = h
past_attach n x c (samples ts vs) h = tt

module _ {b : List ℕ} (by : Bytes b) where
  -- ---- the steps before a fault obey the rules

  ahead_here : (c : Cursor) (k : ℕ) → c.count ≤ 4096 → Faults b c k → Ahead b c k
  unfolding steps_onto
  ahead_here c k h f = record {
    ticks = [];
    values = [];
    end = f.end;
    ends = rw add-zero f.ends;
    bytes = f.bytes;
    follows_on = tt;
    few = omega arith;
    order = f.order;
    inside = f.inside;
  }

  ahead_more : (c d : Cursor) → c.at ≤ length b → Stepped b c d → (s : Samples) → AheadBy b d s → AheadBy b c (onto d s)
  unfolding AheadBy steps_onto
  ahead_more c d h s (samples ts vs) a = tt
  ahead_more c d h s (fault k) a =
      let w = in_limits_le c.first d.tick d.level s.ok in
      let m : Command = step_to c.tick c.level d.tick d.level in
      let n : d.count + length a.ticks ≡ c.count + suc (length a.ticks) = omega arith in
      record {
        ticks = d.tick ∷ a.ticks;
        values = value_of d.level ∷ a.values;
        end = a.end;
        ends = rw (← n) a.ends;
        bytes = rw (level_value d.level w.2) (s.bytes ∙ ap (command_onto m) a.bytes);
        follows_on = (s.rise, w.0, w.1, value_short d.level w.2, rw s.first at a.follows_on);
        few = omega arith;
        order = omega (arith, ap length s.bytes ∙ command_length m (drop d.at b), length-drop c.at b, length-drop d.at b);
        inside = a.inside;
      }

  ahead : (n : ℕ) (c : Cursor) → c.at ≤ length b → c.count ≤ 4096 → AheadBy b c (steps b n c)
  unfolding steps AheadBy
  ahead zero c h i = ahead_here c c.at i (faults_here b c c.at h refl)
  ahead (suc n) c h i = go (λ d. ahead n d) (step_of b c) refl
    where
      go : ((d : Cursor) → d.at ≤ length b → d.count ≤ 4096 → AheadBy b d (steps b n d)) → (s : Step) → step_of b c ≡ s → AheadBy b c (follow s (λ d. steps b n d))
      go ih (Sample d) e = let s = stepped b c d by e in ahead_more c d h s (steps b n d) (ih d s.inside (omega arith))
      go ih Ended e = tt
      go ih (Fault k) e = ahead_here c k i (faults b c k h by e)

  -- ---- the commands before a fault obey the rules

  obeyed_none : Obeyed b (faulty 0)
  unfolding Obeyed
  obeyed_none = (omega arith, none refl)

  module _ (x : Parts) (held : HeldParts x) (v : Starts b (tolerance_command x)) where
    abbrev k₁ : ℕ
    k₁ = tolerance_size x

    obeyed_tolerance : Obeyed b (faulty k₁)
    unfolding Obeyed
    obeyed_tolerance = (v.whole, tolerance_only x held (front b k₁ _ v.whole (v.bytes ∙ command_append (tolerance_command x) (drop k₁ b))))

    module _ (t l : ℕ) (w : Starts (drop k₁ b) (First t l)) where
      obeyed_ahead : (k : ℕ) → Ahead b (start k₁ t l) k → Obeyed b (faulty k)
      unfolding Obeyed
      obeyed_ahead k a =
          let o = w.operands in
          let n : 1 + length a.ticks ≡ length (t ∷ a.ticks) = omega arith in (
            a.inside,
            opened_run x t a.ticks (value_of l) a.values b k a.inside (record {
              legal = follows_legal x t a.ticks (value_of l) a.values held o.0 (value_short l o.1) (omega arith) a.follows_on;
              end = a.end;
              ends = rw (← n) a.ends;
              bytes = rw (level_value l o.1) (v.bytes ∙ ap (command_onto (tolerance_command x)) (w.bytes ∙ ap (command_onto (First t l)) (drop-drop 7 k₁ b ∙ a.bytes)));
            }),
          )

      obeyed_steps : (s : Samples) → AheadBy b (start k₁ t l) s → Obeyed b (attach x (onto (start k₁ t l) s))
      unfolding AheadBy Obeyed
      obeyed_steps (fault k) a = obeyed_ahead k a
      obeyed_steps (samples ts vs) a = tt

      obeyed_first : Obeyed b (began b (Ok (record { tolerance = x; first = start k₁ t l })))
      obeyed_first = obeyed_steps (steps b 4096 (start k₁ t l)) (ahead 4096 (start k₁ t l) (omega (arith, w.whole, v.whole, length-drop k₁ b)) (omega arith))

  obeyed : Obeyed b (began b (header_of b))
  obeyed =
      by_tolerance by (λ h. Obeyed b (began b h)) obeyed_none
      (λ x h v. by_first by (λ h. Obeyed b (began b h)) (tolerance_size x) x (obeyed_tolerance x h v) (obeyed_first x h v))

  -- ---- no fault lies within a run of commands that obey them

  late_from : (n m : ℕ) (c : Cursor) → c.at ≤ length b → c.count ≤ 4096 → n ≤ c.at → Late n (steps b m c)
  unfolding AheadBy Late
  late_from n m c i j h = go (steps b m c) (ahead m c i j)
    where
      go : (s : Samples) → AheadBy b c s → Late n s
      go (fault k) a = omega arith
      go (samples ts vs) a = tt

  module _ (n : ℕ) (h : n ≤ length b) where
    late_end : (m : ℕ) (c : Cursor) (e : List ℕ) → c.at ≤ length b → c.count ≤ 4096 → EndOrNone c.count e → drop c.at b ≡ e ++ drop n b → Late n (steps b (suc m) c)
    unfolding Late steps
    late_end m c e i j (inl z) f =
        let g : drop c.at b ≡ drop n b = rw z at f in
        late_from n (suc m) c i j (omega (arith, ap length g, length-drop c.at b, length-drop n b))
    late_end m c e i j (inr z) f =
        let x : Command = End c.count in
        let g : drop c.at b ≡ command_onto x (drop n b) = rw z at f ∙ sym (command_append x (drop n b)) in
        rw (end_step_lem b c (drop n b) j g) (go (eqb (c.at + 3) (length b)) (omega (arith, ap length g ∙ command_length x (drop n b), length-drop c.at b, length-drop n b)))
      where
        go : (y : Bool) → n ≤ c.at + 3 → Late n (follow (choose y Ended (Fault (c.at + 3))) (λ d. steps b m d))
        go true k = tt
        go false k = k

  module _ (x : Parts) (held : HeldParts x) (xs : List ℕ) (e : b ≡ command_onto (tolerance_command x) xs) where
    abbrev k₀ : ℕ
    k₀ = tolerance_size x

    parse_tolerance : parse b ≡ began b (sample_header k₀ x (command_of (drop k₀ b)))
    unfolding parse
    parse_tolerance = ap (began b) (header_written x held b xs e)

    past_tolerance : Past k₀ (parse b)
    unfolding Past
    past_tolerance =
        rw parse_tolerance (by_first by (λ h. Past k₀ (began b h)) k₀ x (omega arith)
        (λ t l w. past_attach k₀ x (start k₀ t l) (steps b 4096 (start k₀ t l)) (late_from k₀ 4096 (start k₀ t l) (omega (arith, w.whole, ap length e ∙ command_length (tolerance_command x) xs, length-drop k₀ b)) (omega arith) (omega arith))))

  module _ (n : ℕ) (h : n ≤ length b) where
    past_opened : (x : Parts) (t : ℕ) (ts : List ℕ) (v : ℤ) (vs : List ℤ) → Opened x t ts v vs b n → Past n (parse b)
    past_opened x t ts v vs o =
        let xs : List ℕ = steps_onto t (level v) ts vs (o.end ++ drop n b) in
        let m : Command = First t (level v) in
        let i : level v ≤ 65535 = level_short v (o.legal.value_range 0) in
        let k₀ : ℕ = tolerance_size x in
        let c : Cursor = start k₀ t (level v) in
        let e₁ : drop k₀ b ≡ command_onto m xs = ap (drop k₀) o.bytes ∙ command_rest (tolerance_command x) (command_onto m xs) in
        let e₂ : drop (k₀ + 7) b ≡ xs = sym (drop-drop 7 k₀ b) ∙ ap (drop 7) e₁ ∙ command_rest m xs in
        let f : command_of (drop k₀ b) ≡ m = ap command_of e₁ ∙ command_read xs m (omega (arith, o.legal.tick_range 0)) in
        let k : length (t ∷ ts) ≤ 4096 = o.legal.trace.few in
        rw (parse_tolerance x o.legal.held (command_onto m xs) o.bytes, f) (past_attach n x c (steps b 4096 c)
        (steps_along b (o.end ++ drop n b) (length (t ∷ ts)) (λ us ws s. Late n s) (λ d us ws s. late_onto n d s)
        (λ j d i c e. late_end n h j d o.end i (omega arith) (rw (← c) at o.ends) e)
        4096 c ts vs (omega (arith, ap length e₁ ∙ command_length m xs, length-drop k₀ b)) (omega arith) (legal_follows o.legal) (omega arith) (omega arith) k e₂))

    past : Run (take n b) → Past n (parse b)
    past (none e) = let z : n ≡ 0 = omega (arith, ap length e, length-take-le n b h) in rw z (past_none (parse b))
    past (tolerance_only x held e) =
        let m : Command = tolerance_command x in
        let z : n ≡ tolerance_size x = omega (arith, ap length e ∙ command_length m [], length-take-le n b h) in
        rw z (past_tolerance x held (drop n b) (behind b n _ e ∙ sym (command_append m (drop n b))))
    past (unended x legal e) = first_sample (λ x. take n b ++ command_onto (End (length x.ticks)) [] ≡ encode x → Past n (parse b)) (λ x t ts v vs l e. past_opened x t ts v vs (unended_opened x t ts v vs b n l e)) x legal e
    past (complete x legal e) = first_sample (λ x. take n b ≡ encode x → Past n (parse b)) (λ x t ts v vs l e. past_opened x t ts v vs (complete_opened x t ts v vs b n l e)) x legal e

  -- ---- the fault's byte

  fault_at_lem : {k : ℕ} → parse b ≡ faulty k → FaultAt b k
  unfolding parse Obeyed Past
  fault_at_lem e =
      let o = subst (Obeyed b) e obeyed in
      record {
        inside = o.0;
        run = o.1;
        longest = λ n h r. subst (Past n) e (past n h r);
        no_record = λ x l f. let z : ◌≡◌ {A = ℕ} 0 1 = cc (e, ap parse f, parse_encode x l) in omega arith;
      }

  fault_parse : {k : ℕ} → FaultAt b k → parse b ≡ faulty k
  fault_parse {k} f = go (parse b) refl
    where
      go : (p : Parsed) → parse b ≡ p → p ≡ faulty k
      go (faulty j) e = let g = fault_at_lem e in let z : j ≡ k = omega (arith, f.longest j g.inside g.run, g.longest k f.inside f.run) in rw z
      go (says x) e = let a = encode_parse by e in absurd (f.no_record x a.legal a.bytes)

  pub fault_exact : (k : ℕ) → parse b ≡ faulty k ↔ FaultAt b k
  fault_exact k = (fault_at_lem, fault_parse)

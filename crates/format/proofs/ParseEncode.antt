-- What is written is read back: `parse (encode x)` is x for every legal content x.
-- Assumes nothing.
use mathlib.Core.Path.{◌≡◌, refl, sym, ap, ◌∙◌}
use mathlib.Core.Bool.{true, false}
use mathlib.Core.List.{List, [], ◌∷◌}
use Prim.Native.Nat.{ℕ, zero, suc, ◌+◌, ◌-◌, ◌≤◌, ◌<◌}
use native.Mathlib.Omega.{arith}
use borrow.Author.Tests.{le-leb, eq-eqb, lt-ltb}
use lib.Dec.{leb, eqb}
use lib.IntN.{ℤ}
use lib.ListN.{length, drop, length-drop}
use lib.Seq.{drop-drop}
use Rattle.lists.proofs.Tests.{by_test}
use Rattle.tolerance.specs.declared.Parts.{Parts}
use Rattle.trace.specs.Level.{level}
use Rattle.trace.proofs.Level.{level_short}
use Rattle.format.specs.Number.{value_of}
use Rattle.format.specs.Command.{size_of, choose, command_onto}
use Rattle.format.specs.Format.{Content, Legal, in_limits, short, short_step, long_step, end_step, step_of, Samples, samples, onto, steps, says, parse, tolerance_command, step_to, steps_onto, samples_onto, encode}
use Rattle.format.specs.declared.Cursor.{Cursor}
use Rattle.format.specs.declared.Command.{Command}
use Rattle.format.specs.declared.Command.TheVariants.{First, Short, Long, End}
use Rattle.format.specs.declared.Step.TheVariants.{Sample, End as Ended, Fault}
use Rattle.format.proofs.NumberLaws.{value_level}
use Rattle.format.proofs.CommandLaws.{command_read, command_rest, command_length}
use Rattle.format.proofs.HeaderLaws.{tolerance_size, tolerance_size_lem, start, header_written}
use Rattle.format.proofs.RuleLaws.{short_le, le_in_limits, Follows, first_sample, legal_follows}

-- the cursor after a step of k bytes
abbrev next : Cursor → ℕ → ℕ → ℕ → Cursor
next c k t l = record { at = c.at + k; first = c.first; tick = t; level = l; count = c.count + 1 }

-- where a step leads, and what is left after it
record Reaches (b : List ℕ) (c : Cursor) (t l : ℕ) (xs : List ℕ) : Type 0 where
  size : ℕ
  step : step_of b c ≡ Sample (next c size t l)
  inside : c.at + size ≤ length b
  rest : drop (c.at + size) b ≡ xs

-- the rest of a record whose part from a place on is a command and then xs
after : (b : List ℕ) (i : ℕ) (m : Command) (xs : List ℕ) → drop i b ≡ command_onto m xs → drop (i + size_of m) b ≡ xs
after b i m xs e = sym (drop-drop (size_of m) i b) ∙ ap (drop (size_of m)) e ∙ command_rest m xs

module _ (b : List ℕ) (c : Cursor) (t l : ℕ) (xs : List ℕ) (rise : c.tick < t) (long : t - c.tick ≤ 1048575) (small : l ≤ 65535) (ok : in_limits c.first t l ≡ true) (room : c.count < 4096) where
  reaches_short : short c.level (t - c.tick) l ≡ true → drop c.at b ≡ command_onto (Short (t - c.tick) (l + 128 - c.level)) xs → Reaches b c t l xs
  unfolding short_step
  reaches_short s e =
      let f = short_le c.level (t - c.tick) l s in
      let a : ℕ = t - c.tick in
      let d : ℕ = l + 128 - c.level in
      let x : c.tick + a ≡ t = omega arith in
      let y : c.level + d - 128 ≡ l = omega arith in
      let h₁ : leb 1 a ≡ true = le-leb 1 a (omega arith) in
      let h₂ : leb 128 (c.level + d) ≡ true = le-leb 128 (c.level + d) (omega arith) in
      record {
        size = 3;
        step = rw (e, command_read xs (Short a d) (omega arith), x, y, h₁, h₂, ok, lt-ltb _ _ room);
        inside = omega (arith, ap length e ∙ command_length (Short a d) xs, length-drop c.at b);
        rest = after b c.at (Short a d) xs e;
      }

  reaches_long : short c.level (t - c.tick) l ≡ false → drop c.at b ≡ command_onto (Long (t - c.tick) l) xs → Reaches b c t l xs
  unfolding long_step
  reaches_long s e =
      let a : ℕ = t - c.tick in
      let x : c.tick + a ≡ t = omega arith in
      let h₁ : leb 1 a ≡ true = le-leb 1 a (omega arith) in
      record {
        size = 6;
        step = rw (e, command_read xs (Long a l) (omega arith), x, h₁, s, ok, lt-ltb _ _ room);
        inside = omega (arith, ap length e ∙ command_length (Long a l) xs, length-drop c.at b);
        rest = after b c.at (Long a l) xs e;
      }

  reaches : drop c.at b ≡ command_onto (step_to c.tick c.level t l) xs → Reaches b c t l xs
  reaches e = by_test (short c.level (t - c.tick) l) (λ s. reaches_short s (rw s at e)) (λ s. reaches_long s (rw s at e))

-- ---- the steps, and the whole record

-- what holds of the last command's samples, and of more samples with those after them, holds of all that are written before xs
module _ (b xs : List ℕ) (n : ℕ) (P : List ℕ → List ℤ → Samples → Type 0)
    (more : (c : Cursor) (ts : List ℕ) (vs : List ℤ) (s : Samples) → P ts vs s → P (c.tick ∷ ts) (value_of c.level ∷ vs) (onto c s))
    (last : (m : ℕ) (c : Cursor) → c.at ≤ length b → c.count ≡ n → drop c.at b ≡ xs → P [] [] (steps b (suc m) c)) where
  pub steps_along : (m : ℕ) (c : Cursor) (ts : List ℕ) (vs : List ℤ) → c.at ≤ length b → c.first ≤ c.tick → Follows c.first c.tick ts vs → length ts < m → c.count + length ts ≡ n → n ≤ 4096
      → drop c.at b ≡ steps_onto c.tick c.level ts vs xs
      → P ts vs (steps b m c)
  unfolding steps steps_onto
  steps_along zero c ts vs i g f l k h e = absurd (omega arith)
  steps_along (suc m) c [] [] i g f l k h e = last m c i (omega arith) e
  steps_along (suc m) c [] (v ∷ vs) i g f l k h e = absurd f
  steps_along (suc m) c (t ∷ ts) [] i g f l k h e = absurd f
  steps_along (suc m) c (t ∷ ts) (v ∷ vs) i g f l k h e =
      let s : level v ≤ 65535 = level_short v f.3 in
      let r = reaches b c t (level v) _ f.0 (omega arith) s (le_in_limits c.first t (level v) f.1 f.2 s) (omega arith) e in
      let d : Cursor = next c r.size t (level v) in
      let p : P ts vs (steps b m d) = steps_along m d ts vs r.inside (omega arith) f.4 (omega arith) (omega arith) h r.rest in
      rw r.step (rw (value_level v f.3) at (more d ts vs (steps b m d) p))

-- an end that gives the number of samples
pub end_step_lem : (b : List ℕ) (c : Cursor) (xs : List ℕ) → c.count ≤ 4096 → drop c.at b ≡ command_onto (End c.count) xs → step_of b c ≡ choose (eqb (c.at + 3) (length b)) Ended (Fault (c.at + 3))
unfolding end_step
end_step_lem b c xs h e = rw (e, command_read xs (End c.count) (omega arith), eq-eqb c.count c.count refl)

end_read : (b : List ℕ) (m : ℕ) (c : Cursor) → c.count ≤ 4096 → drop c.at b ≡ command_onto (End c.count) [] → steps b (suc m) c ≡ samples [] []
unfolding steps
end_read b m c h e =
    let l : c.at + 3 ≡ length b = omega (arith, ap length e ∙ command_length (End c.count) [], length-drop c.at b) in
    rw (end_step_lem b c [] h e, eq-eqb (c.at + 3) (length b) l)

module _ (x : Parts) (t : ℕ) (ts : List ℕ) (v : ℤ) (vs : List ℤ) (h : Legal (record { tolerance = x; ticks = t ∷ ts; values = v ∷ vs })) where
  whole : parse (encode (record { tolerance = x; ticks = t ∷ ts; values = v ∷ vs })) ≡ says (record { tolerance = x; ticks = t ∷ ts; values = v ∷ vs })
  unfolding parse encode samples_onto
  whole =
      let b : List ℕ = encode (record { tolerance = x; ticks = t ∷ ts; values = v ∷ vs }) in
      let xs : List ℕ = steps_onto t (level v) ts vs (command_onto (End (length (t ∷ ts))) []) in
      let ys : List ℕ = command_onto (First t (level v)) xs in
      let k : ℕ = tolerance_size x in
      let c : Cursor = start k t (level v) in
      let l : level v ≤ 65535 = level_short v (h.value_range 0) in
      let ht : t ≤ 4294967295 = h.tick_range 0 in
      let e₁ : drop k b ≡ ys = command_rest (tolerance_command x) ys in
      let e₂ : drop (k + 7) b ≡ xs = sym (drop-drop 7 k b) ∙ ap (drop 7) e₁ ∙ command_rest (First t (level v)) xs in
      let n : ℕ = length (t ∷ ts) in
      let s : steps b 4096 c ≡ samples ts vs =
      steps_along b (command_onto (End n) []) n (λ us ws s. s ≡ samples us ws) (λ d us ws s e. rw e) (λ m d i k e. end_read b m d (omega (arith, h.trace.few)) (e ∙ ap (λ (j : ℕ). command_onto (End j) []) (sym k)))
      4096 c ts vs (omega (arith, ap length e₁ ∙ command_length (First t (level v)) xs, length-drop k b)) (omega arith) (legal_follows h) (omega (arith, h.trace.few)) (omega arith) h.trace.few e₂ in
      rw (header_written x h.held b ys refl, e₁, command_read xs (First t (level v)) (omega arith), s, value_level v (h.value_range 0))

-- a record has at least its tolerance's bytes
pub record_long : (x : Content) → 9 ≤ length (encode x)
unfolding encode
record_long x = omega (arith, command_length (tolerance_command x.tolerance) (samples_onto x.ticks x.values), tolerance_size_lem x.tolerance)

-- every legal content is read as it was written
pub parse_encode : (x : Content) → Legal x → parse (encode x) ≡ says x
parse_encode = first_sample (λ x. parse (encode x) ≡ says x) whole

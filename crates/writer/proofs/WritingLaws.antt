-- Laws of the record in parts: its tolerance, the first sample, a step for each next one, and the end; counted and written one after the other.
--   Counted     the bytes of the steps up to the kept sample at position i are counted
--   Putting     they are written, and the sample is at hand
-- Assumes nothing.
use mathlib.Core.Path.{◌≡◌, refl, sym, ap, ◌∙◌}
use mathlib.Core.Bool.{Bool, true, false}
use mathlib.Core.List.{List, [], ◌∷◌, ◌++◌, append_assoc}
use Prim.Native.Nat.{ℕ, zero, suc, ◌+◌, ◌-◌, ◌*◌, ◌≤◌, ◌<◌}
use native.Mathlib.Nat.{not-suc-le-zero}
use native.Mathlib.Numerals.{add-one}
use native.Mathlib.Omega.{arith}
use native.Mathlib.Decide.{dec_le}
use borrow.Author.Count.{below_more}
use borrow.Author.Tests.{le-leb}
use borrow.Rule.Slice.PartMut.{put_mid}
use lib.IntN.{ℤ, pos}
use lib.ListN.{length, take, drop, length-append, drop_of_length-le, get_or-eq_default}
use lib.Seq.{drop-cons}
use lib.Signed.{mag}
use Rattle.lists.specs.Overwrite.{overwrite}
use Rattle.lists.specs.Part.{overwrite_from}
use Rattle.lists.proofs.OverwriteLaws.{overwrite_length}
use Rattle.lists.proofs.PartLaws.{written_part, written_from, written_within}
use Rattle.lists.proofs.SelectLaws.{select_length}
use Rattle.tolerance.specs.declared.Parts.{Parts}
use Rattle.trace.specs.Trace.{tick, value}
use Rattle.trace.specs.Level.{level}
use Rattle.format.specs.declared.Command.{Command}
use Rattle.format.specs.declared.Command.TheVariants.{First, Short, Long, End}
use Rattle.format.specs.Number.{bytes_onto}
use Rattle.format.specs.Command.{size_of, choose, command_onto}
use Rattle.format.specs.Format.{Content, Legal, short, tolerance_command, step_to, steps_onto, samples_onto, encode}
use Rattle.format.proofs.CommandLaws.{command_append, command_length}
use Rattle.format.proofs.HeaderLaws.{tolerance_size_lem}
use Rattle.format.proofs.ParseEncode.{parse_encode}
use Rattle.writer.specs.declared.Sample.{Sample}
use Rattle.writer.specs.Writing.{Kept, kept_ticks, kept_values, selected, WrittenAt, SampleAt, step_from, step_at, kept_samples, rest_of, RestLength, SamplesLength, LengthOf, most_bytes}
use Rattle.writer.proofs.SelectedLaws.{list_some, kept_trace, step_same}

-- ---- a record's parts

module _ (ts : List ℕ) (vs : List ℤ) (same : length vs ≡ length ts) where
  rest_step : (i : ℕ) → i + 1 < length ts → rest_of ts vs i ≡ command_onto (step_at ts vs i) [] ++ rest_of ts vs (i + 1)
  unfolding rest_of steps_onto
  rest_step i h =
      let a : suc i < length ts = omega arith in
      let b : suc i < length vs = omega arith in
      rw (add-one i, drop-cons ts (suc i) 0 a, drop-cons vs (suc i) (pos 0) b) (command_append (step_to (tick ts i) (level (value vs i)) (tick ts (suc i)) (level (value vs (suc i)))) (rest_of ts vs (suc i)))

  rest_end : (i : ℕ) → length ts ≤ i + 1 → rest_of ts vs i ≡ command_onto (End (length ts)) []
  unfolding rest_of steps_onto
  rest_end i h = rw (drop_of_length-le ts {i = suc i} (omega arith))

samples_parts : (ts : List ℕ) (vs : List ℤ) → length vs ≡ length ts → 1 ≤ length ts → samples_onto ts vs ≡ command_onto (First (tick ts 0) (level (value vs 0))) [] ++ rest_of ts vs 0
unfolding samples_onto rest_of
samples_parts [] vs e h = absurd (not-suc-le-zero h)
samples_parts (t ∷ ts) [] e h = absurd (omega arith)
samples_parts (t ∷ ts) (v ∷ vs) e h = command_append (First t (level v)) _

-- a record is its tolerance's command and the samples' commands
pub record_parts : (x : Parts) (ts : List ℕ) (vs : List ℤ) (l : List ℕ) → encode (selected x ts vs l) ≡ command_onto (tolerance_command x) [] ++ kept_samples ts vs l
unfolding encode
record_parts x ts vs l = command_append (tolerance_command x) (kept_samples ts vs l)

-- so is its length
pub record_length : (x : Parts) (ts : List ℕ) (vs : List ℤ) (l : List ℕ) → length (encode (selected x ts vs l)) ≡ size_of (tolerance_command x) + length (kept_samples ts vs l)
unfolding encode
record_length x ts vs l = command_length (tolerance_command x) (kept_samples ts vs l)

pub whole_length : {ts : List ℕ} {vs : List ℤ} {l : List ℕ} {n m k : ℕ} (x : Parts) → n ≡ size_of (tolerance_command x) → SamplesLength ts vs l m → k ≡ n + m → LengthOf x ts vs l k
whole_length {ts} {vs} {l} x e s f = record { is = omega (arith, e, f, s.is, record_length x ts vs l); range = s.range }

module _ {ts : List ℕ} {vs : List ℤ} {l : List ℕ} (kept : Kept ts vs l) where
  -- the samples' commands are that of the first kept sample, and the rest
  pub kept_parts : {s : Sample} → SampleAt ts vs l 0 s → kept_samples ts vs l ≡ command_onto (First s.tick s.level) [] ++ rest_of (kept_ticks ts l) (kept_values vs l) 0
  kept_parts p =
      let t = kept_trace kept in
      rw (p.tick_is, p.level_is.is) (samples_parts (kept_ticks ts l) (kept_values vs l) t.same t.some)

  pub kept_length : length (kept_samples ts vs l) ≡ 7 + length (rest_of (kept_ticks ts l) (kept_values vs l) 0)
  kept_length =
      let t = kept_trace kept in
      let m : Command = First (tick (kept_ticks ts l) 0) (level (value (kept_values vs l) 0)) in
      ap length (samples_parts (kept_ticks ts l) (kept_values vs l) t.same t.some) ∙ length-append (command_onto m []) (rest_of (kept_ticks ts l) (kept_values vs l) 0) ∙ omega (arith, command_length m [])

  pub samples_length : {n k : ℕ} → RestLength ts vs l n → k ≡ 7 + n → SamplesLength ts vs l k
  samples_length r e = record { is = omega (arith, e, r.is, kept_length); range = r.range }

  module _ {i : ℕ} {a b : Sample} (h : i + 1 < length l) (p : SampleAt ts vs l i a) (q : SampleAt ts vs l (i + 1) b) where
    step_bytes : rest_of (kept_ticks ts l) (kept_values vs l) i ≡ command_onto (step_from a b) [] ++ rest_of (kept_ticks ts l) (kept_values vs l) (i + 1)
    step_bytes = rw (step_same kept p q) (rest_step (kept_ticks ts l) (kept_values vs l) (kept_trace kept).same i (rw (select_length 0 ts l) h))

    step_length : length (rest_of (kept_ticks ts l) (kept_values vs l) i) ≡ size_of (step_from a b) + length (rest_of (kept_ticks ts l) (kept_values vs l) (i + 1))
    step_length =
        ap length step_bytes ∙ length-append (command_onto (step_from a b) []) (rest_of (kept_ticks ts l) (kept_values vs l) (i + 1)) ∙ omega (arith, command_length (step_from a b) [])

  end_bytes : (i : ℕ) → length l ≤ i + 1 → rest_of (kept_ticks ts l) (kept_values vs l) i ≡ command_onto (End (length l)) []
  end_bytes i h =
      rest_end (kept_ticks ts l) (kept_values vs l) (kept_trace kept).same i (rw (select_length 0 ts l) h) ∙ ap (λ (n : ℕ). command_onto (End n) []) (select_length 0 ts l)

  end_length : (i : ℕ) → length l ≤ i + 1 → length (rest_of (kept_ticks ts l) (kept_values vs l) i) ≡ 3
  end_length i h = ap length (end_bytes i h) ∙ command_length (End (length l)) []

-- ---- the longest record

step_size : (t l t' l' : ℕ) → size_of (step_to t l t' l') ≤ 6
step_size t l t' l' = go (short l (t' - t) l')
  where
    go : (b : Bool) → size_of (choose b (Short (t' - t) (l' + 128 - l)) (Long (t' - t) l')) ≤ 6
    go true = omega arith
    go false = omega arith

module _ {ts : List ℕ} {vs : List ℤ} {l : List ℕ} (kept : Kept ts vs l) where
  rest_most : (n i : ℕ) → i + 1 + n ≡ length l → length (rest_of (kept_ticks ts l) (kept_values vs l) i) ≤ 6 * n + 3
  rest_most zero i e = omega (arith, end_length kept i (omega arith))
  rest_most (suc n) i e =
      let m : Command = step_at (kept_ticks ts l) (kept_values vs l) i in
      let r = rest_of (kept_ticks ts l) (kept_values vs l) (i + 1) in
      let f = ap length (rest_step (kept_ticks ts l) (kept_values vs l) (kept_trace kept).same i (rw (select_length 0 ts l) (omega arith))) in
      omega (
        arith,
        f ∙ length-append (command_onto m []) r,
        command_length m [],
        step_size (tick (kept_ticks ts l) i) (level (value (kept_values vs l) i)) (tick (kept_ticks ts l) (i + 1)) (level (value (kept_values vs l) (i + 1))),
        rest_most n (i + 1) (omega arith),
      )

  pub record_most : (x : Parts) → length (encode (selected x ts vs l)) ≤ most_bytes x (length l)
  record_most x = omega (arith, record_length x ts vs l, kept_length kept, rest_most (length l - 1) 0 (omega (arith, list_some kept)), list_some kept)

-- with parts that differ too
pub most_bytes_lem : (x : Parts) (n : ℕ) → most_bytes x n ≤ 21 + 6 * n
most_bytes_lem x n = omega (arith, tolerance_size_lem x)

-- ---- counted

pub record Counted (ts : List ℕ) (vs : List ℤ) (l : List ℕ) (s : Sample) (total i : ℕ) : Type 0 where
  pub within : i < length l
  pub sample : SampleAt ts vs l i s
  pub small : total ≤ 6 * i
  pub is : length (rest_of (kept_ticks ts l) (kept_values vs l) 0) ≡ total + length (rest_of (kept_ticks ts l) (kept_values vs l) i)
  pub range : (k : ℕ) → k < i + 1 → mag (value (kept_values vs l) k) < 32768

module _ {ts : List ℕ} {vs : List ℤ} {l : List ℕ} (kept : Kept ts vs l) where
  pub counts : {s : Sample} {total i : ℕ} → Counted ts vs l s total i → i + 1 < length l → {b : Sample} → SampleAt ts vs l (i + 1) b → {k : ℕ} → k ≡ size_of (step_from s b) → k ≤ 6
      → Counted ts vs l b (total + k) (i + 1)
  counts c h q e small = record {
    within = h;
    sample = q;
    small = omega (arith, c.small);
    is = c.is ∙ omega (arith, step_length kept h c.sample q);
    range = below_more _ _ c.range q.level_is.range;
  }

  pub count_ends : {s : Sample} {total i : ℕ} → Counted ts vs l s total i → length l ≤ i + 1 → RestLength ts vs l (total + 3)
  count_ends {i = i} c h = record {
    is = omega (arith, c.is, end_length kept i h);
    range = λ k. elim (dec_le (suc k) (i + 1)) [
      | yes q ↦ c.range k q
      | no q ↦ rw (get_or-eq_default (kept_values vs l) (pos 0) {n = k} (omega (arith, select_length (pos 0) vs l))) (omega arith)
    ];
  }

-- ---- written

pub record Putting (ts : List ℕ) (vs : List ℤ) (l : List ℕ) (o part : List ℕ) (s : Sample) (at i : ℕ) (w : List ℕ) : Type 0 where
  pub within : i < length l
  pub sample : SampleAt ts vs l i s
  pub rest : rest_of (kept_ticks ts l) (kept_values vs l) 0 ≡ w ++ rest_of (kept_ticks ts l) (kept_values vs l) i
  pub over : part ≡ overwrite w o
  pub long : length w ≡ at
  pub room : length (rest_of (kept_ticks ts l) (kept_values vs l) 0) ≤ length o

module _ {ts : List ℕ} {vs : List ℤ} {l : List ℕ} (kept : Kept ts vs l) where
  module _ {o part : List ℕ} {s : Sample} {at i : ℕ} {w : List ℕ} (g : Putting ts vs l o part s at i w) where
    total : length (rest_of (kept_ticks ts l) (kept_values vs l) 0) ≡ at + length (rest_of (kept_ticks ts l) (kept_values vs l) i)
    total = ap length g.rest ∙ length-append w (rest_of (kept_ticks ts l) (kept_values vs l) i) ∙ omega (arith, g.long)

    pub same_long : length part ≡ length o
    same_long = ap length g.over ∙ overwrite_length w o (omega (arith, g.room, g.long, total))

    module _ (h : i + 1 < length l) {b : Sample} (q : SampleAt ts vs l (i + 1) b) where
      -- there is room for the next step
      pub step_room : at + size_of (step_from s b) ≤ length part
      step_room = omega (arith, same_long, g.room, total, step_length kept h g.sample q)

      pub puts : {k : ℕ} → k ≡ size_of (step_from s b) → {ys : List ℕ} → ys ≡ overwrite (command_onto (step_from s b) []) (take (length part - at) (drop at part))
          → Putting ts vs l o (put_mid at (length part - at) part ys) b (at + k) (i + 1) (w ++ command_onto (step_from s b) [])
      puts e {ys} y = record {
        within = h;
        sample = q;
        rest = g.rest ∙ ap (λ (x : List ℕ). w ++ x) (step_bytes kept h g.sample q) ∙ sym (append_assoc w (command_onto (step_from s b) []) (rest_of (kept_ticks ts l) (kept_values vs l) (i + 1)));
        over = written_part part o w (command_onto (step_from s b) []) ys at g.over g.long y;
        long = length-append w (command_onto (step_from s b) []) ∙ omega (arith, g.long, command_length (step_from s b) []);
        room = g.room;
      }

    -- and for the end
    pub end_room : length l ≤ i + 1 → at + 3 ≤ length part
    end_room h = omega (arith, same_long, g.room, total, end_length kept i h)

    pub put_ends : length l ≤ i + 1 → {ys : List ℕ} → ys ≡ overwrite (command_onto (End (length l)) []) (take (length part - at) (drop at part))
        → put_mid at (length part - at) part ys ≡ overwrite (rest_of (kept_ticks ts l) (kept_values vs l) 0) o
    put_ends h {ys} y =
        let e : rest_of (kept_ticks ts l) (kept_values vs l) 0 ≡ w ++ command_onto (End (length l)) [] = g.rest ∙ ap (λ (x : List ℕ). w ++ x) (end_bytes kept i h) in
        written_part part o w (command_onto (End (length l)) []) ys at g.over g.long y ∙ ap (λ (x : List ℕ). overwrite x o) (sym e)

-- ---- the outcome

module _ (x : Content) (o : List ℕ) (place : ℕ) {n : ℕ} (e : n ≡ length (encode x)) where
  pub wrote : Legal x → place ≤ length o → n ≤ length o - place → {ys : List ℕ} → ys ≡ overwrite (encode x) (take (length o - place) (drop place o))
      → WrittenAt x o place n (put_mid place (length o - place) o ys)
  wrote legal p h {ys} y =
      let f : put_mid place (length o - place) o ys ≡ overwrite_from place (encode x) o = written_from o (encode x) ys place y in
      let w : take n (drop place (put_mid place (length o - place) o ys)) ≡ encode x = rw (f, e) (written_within (encode x) o place p) in
      record {
        rows = rw (← e, le-leb n (length o - place) h);
        count = e;
        content = f;
        accepted = rw w (record { parsed = parse_encode x legal; bytes = refl; legal = legal });
      }

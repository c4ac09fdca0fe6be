-- What a pass over the steps of a record has come to at each cursor: the samples before the cursor's are passed, and with those to come they
-- are the whole.
--   Passed     the samples w, v are passed
--   Copying    and are written over two lent lists
-- Assumes nothing.
use mathlib.Core.Path.{◌≡◌, refl, sym, ap, ◌∙◌, subst}
use mathlib.Core.Bool.{true, false}
use mathlib.Core.List.{List, [], ◌∷◌, ◌++◌, append_assoc}
use Prim.Native.Nat.{ℕ, suc, ◌+◌, ◌-◌, ◌≤◌, ◌<◌}
use native.Mathlib.Omega.{arith}
use Rattle.std.specs.Prelude.{Ok}
use lib.IntN.{ℤ}
use lib.ListN.{length, set, length-append}
use Rattle.lists.specs.Overwrite.{overwrite}
use Rattle.lists.proofs.Tests.{true_false}
use Rattle.lists.proofs.OverwriteLaws.{overwrite_length, overwrite_snoc}
use Rattle.tolerance.specs.declared.Parts.{Parts}
use Rattle.format.specs.declared.Cursor.{Cursor}
use Rattle.format.specs.declared.Step.{Step}
use Rattle.format.specs.declared.Step.TheVariants.{Sample, End as Ended, Fault}
use Rattle.format.specs.Number.{Bytes, value_of}
use Rattle.format.specs.Format.{step_of, Samples, fault, samples, onto, steps, samples_from, attach}
use Rattle.format.proofs.RuleLaws.{in_limits_le}
use Rattle.format.proofs.EncodeParse.{stepped}
use Rattle.commands.specs.Passing.{record_verdict, is_sample, closed_by, CursorOk, AfterFirst, Entry, Fitting, Filled}

-- samples before the others
abbrev prepend : List ℕ → List ℤ → Samples → Samples
prepend w v (fault k) = fault k
prepend w v (samples ts vs) = samples (w ++ ts) (v ++ vs)

prepend_none : (r : Samples) → prepend [] [] r ≡ r
prepend_none (fault k) = refl
prepend_none (samples ts vs) = refl

prepend_onto : (w : List ℕ) (v : List ℤ) (c : Cursor) (r : Samples) → prepend w v (onto c r) ≡ prepend (w ++ (c.tick ∷ [])) (v ++ (value_of c.level ∷ [])) r
prepend_onto w v c (fault k) = refl
prepend_onto w v c (samples ts vs) = rw (append_assoc w (c.tick ∷ []) ts, append_assoc v (value_of c.level ∷ []) vs)

pub record Passed (b : List ℕ) (start c : Cursor) (w : List ℕ) (v : List ℤ) : Type 0 where
  pub ready : CursorOk (length b) c
  pub ticks : length w + 1 ≡ c.count
  pub values : length v + 1 ≡ c.count
  pub all : samples_from b start ≡ prepend w v (onto c (steps b (4097 - c.count) c))

module _ {b : List ℕ} {start : Cursor} where
  pub begins : AfterFirst (length b) start → Passed b start start [] []
  begins h =
      let n : 4097 - start.count ≡ 4096 = omega (arith, h.one) in
      record { ready = h.ready; ticks = sym h.one; values = sym h.one; all = rw n (sym (prepend_none (samples_from b start))) }

  module _ {c : Cursor} {w : List ℕ} {v : List ℤ} (p : Passed b start c w v) where
    more : 4097 - c.count ≡ suc (4096 - c.count)
    more = omega (arith, p.ready)

    pub falls : {d : Cursor} → Bytes b → step_of b c ≡ Sample d → 4097 - d.count < 4097 - c.count
    falls {d} by e = let s = stepped b c d by e in omega (arith, s.room, s.count)

    pub goes_on_lem : {d : Cursor} → Bytes b → step_of b c ≡ Sample d → Passed b start d (w ++ (c.tick ∷ [])) (v ++ (value_of c.level ∷ []))
    unfolding steps
    goes_on_lem {d} by e =
        let s = stepped b c d by e in
        let l = in_limits_le c.first d.tick d.level s.ok in
        let n : 4096 - c.count ≡ 4097 - d.count = omega (arith, s.count) in
        let f : steps b (4097 - c.count) c ≡ onto d (steps b (4097 - d.count) d) = rw (more, e, n) in
        record {
          ready = record { at = s.inside; begun = omega (arith, s.rise, s.first, p.ready.begun); tick = l.0; level = l.2; count = omega (arith, s.room, s.count) };
          ticks = rw length-append (omega (arith, p.ticks, s.count));
          values = rw length-append (omega (arith, p.values, s.count));
          all = p.all ∙ ap (λ (r : Samples). prepend w v (onto c r)) f ∙ prepend_onto w v c (onto d (steps b (4097 - d.count) d));
        }

    pub ends : step_of b c ≡ Ended → samples_from b start ≡ samples (w ++ (c.tick ∷ [])) (v ++ (value_of c.level ∷ []))
    unfolding steps
    ends e =
        let f : steps b (4097 - c.count) c ≡ samples [] [] = rw (more, e) in
        p.all ∙ ap (λ (r : Samples). prepend w v (onto c r)) f

    pub faults : {k : ℕ} → step_of b c ≡ Fault k → samples_from b start ≡ fault k
    unfolding steps
    faults {k} e =
        let f : steps b (4097 - c.count) c ≡ fault k = rw (more, e) in
        p.all ∙ ap (λ (r : Samples). prepend w v (onto c r)) f

    pub counts : length (w ++ (c.tick ∷ [])) ≡ c.count
    counts = rw length-append p.ticks

    -- no sample follows: the verdict is that of the whole
    pub closes : (x : Parts) → is_sample (step_of b c) ≡ false → closed_by x c (step_of b c) ≡ record_verdict (attach x (samples_from b start))
    closes x q = go (step_of b c) refl
      where
        go : (s : Step) → step_of b c ≡ s → closed_by x c s ≡ record_verdict (attach x (samples_from b start))
        go (Sample d) e = true_false (ap is_sample e) q
        go Ended e = rw (ends e) (ap (λ (n : ℕ). Ok (record { samples = n; tolerance = x })) (sym counts))
        go (Fault k) e = rw (faults e)

-- ---- copying

pub record Copying (b : List ℕ) (start : Cursor) (n : ℕ) (o : List ℕ) (u : List ℤ) (ts : List ℕ) (vs : List ℤ) (c : Cursor) (w : List ℕ) (v : List ℤ) : Type 0 where
  pub passed : Passed b start c w v
  pub fitting : Fitting (samples_from b start) n (length o) (length u)
  pub ticks : ts ≡ overwrite w o
  pub values : vs ≡ overwrite v u

fitting_more : (w : List ℕ) (v : List ℤ) (c : Cursor) (r : Samples) (n k m : ℕ) → Fitting (prepend w v (onto c r)) n k m → (length w < n) × (n ≤ k) × (n ≤ m)
fitting_more w v c (fault j) n k m f = absurd f
fitting_more w v c (samples ts vs) n k m f =
    let e : length (w ++ (c.tick ∷ ts)) ≡ length w + suc (length ts) = length-append w (c.tick ∷ ts) in
    (omega (arith, f.0), f.1, f.2)

module _ {b : List ℕ} {start : Cursor} {n : ℕ} {o : List ℕ} {u : List ℤ} where
  module _ {ts : List ℕ} {vs : List ℤ} {c : Cursor} {w : List ℕ} {v : List ℤ} (f : Copying b start n o u ts vs c w v) where
    -- the samples passed and the one at the cursor are among the n
    among : {w' : List ℕ} {v' : List ℤ} {d : Cursor} → Passed b start d w' v' → (length w' < n) × (n ≤ length o) × (n ≤ length u)
    among {w'} {v'} {d} p = fitting_more w' v' d (steps b (4097 - d.count) d) n (length o) (length u) (subst (λ (s : Samples). Fitting s n (length o) (length u)) p.all f.fitting)

    room : (length w < length o) × (length w < length u)
    room = (omega (arith, among f.passed), omega (arith, among f.passed))

    pub lengths : (length ts ≡ length o) × (length vs ≡ length u)
    lengths =
        let p = f.passed in (
          ap length f.ticks ∙ overwrite_length w o (omega (arith, room.0)),
          ap length f.values ∙ overwrite_length v u (omega (arith, room.1, p.ticks, p.values)),
        )

    pub entry : Entry c (length ts) (length vs)
    entry =
        let p = f.passed in
        record {
          some = omega (arith, p.ticks);
          ticks = omega (arith, lengths.0, room.0, p.ticks);
          values = omega (arith, lengths.1, room.1, p.ticks);
          tick = p.ready.tick;
          level = p.ready.level;
        }

    -- the sample at the cursor is stored there
    module _ {ts' : List ℕ} {vs' : List ℤ} (et : ts' ≡ set ts (c.count - 1) c.tick) (ev : vs' ≡ set vs (c.count - 1) (value_of c.level)) where
      stored : (ts' ≡ overwrite (w ++ (c.tick ∷ [])) o) × (vs' ≡ overwrite (v ++ (value_of c.level ∷ [])) u)
      stored =
          let p = f.passed in
          let n : c.count - 1 ≡ length w = omega (arith, p.ticks) in
          let m : c.count - 1 ≡ length v = omega (arith, p.values) in (
            et ∙ rw (n, f.ticks) (overwrite_snoc w o c.tick room.0),
            ev ∙ rw (m, f.values) (overwrite_snoc v u (value_of c.level) (omega (arith, room.1, n, m))),
          )

      pub fills : {d : Cursor} → Bytes b → step_of b c ≡ Sample d → Copying b start n o u ts' vs' d (w ++ (c.tick ∷ [])) (v ++ (value_of c.level ∷ []))
      fills by e = record { passed = goes_on_lem f.passed by e; fitting = f.fitting; ticks = stored.0; values = stored.1 }

    not_faulty : {k : ℕ} → step_of b c ≡ Fault k → ⊥
    not_faulty e = subst (λ (s : Samples). Fitting s n (length o) (length u)) (faults f.passed e) f.fitting

    -- fewer than n samples: one follows
    pub more_follow : c.count < n → is_sample (step_of b c) ≡ true
    more_follow h = go (step_of b c) refl
      where
        go : (s : Step) → step_of b c ≡ s → is_sample s ≡ true
        go (Sample d) e = refl
        go Ended e =
            let g = subst (λ (s : Samples). Fitting s n (length o) (length u)) (ends f.passed e) f.fitting in
            absurd (omega (arith, g.0, counts f.passed))
        go (Fault k) e = absurd (not_faulty e)

    -- all n: the record ends
    all_ended : Bytes b → n ≤ c.count → step_of b c ≡ Ended
    all_ended by h = go (step_of b c) refl
      where
        go : (s : Step) → step_of b c ≡ s → s ≡ Ended
        go (Sample d) e = let p = goes_on_lem f.passed by e in absurd (omega (arith, (among p).0, counts f.passed))
        go Ended e = refl
        go (Fault k) e = absurd (not_faulty e)

    pub filled : {ts' : List ℕ} {vs' : List ℤ} → ts' ≡ set ts (c.count - 1) c.tick → vs' ≡ set vs (c.count - 1) (value_of c.level) → Bytes b → n ≤ c.count
        → Filled (samples_from b start) o u ts' vs'
    filled et ev by h = rw (ends f.passed (all_ended by h)) (stored et ev)

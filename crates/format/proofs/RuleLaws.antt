-- Laws of the rules: what each test says, and that samples which follow one another by the rules are those of a trace.
--   Follows     each sample after one at a tick t rises and is within the limits of a trace that starts at a tick first
-- Assumes nothing.
use mathlib.Core.Path.{◌≡◌, refl, ap}
use mathlib.Core.Bool.{true, ◌&&◌}
use mathlib.Core.List.{List, [], ◌∷◌}
use Prim.Native.Nat.{ℕ, zero, suc, ◌+◌, ◌-◌, ◌*◌, ◌≤◌, ◌<◌}
use native.Mathlib.Omega.{arith}
use borrow.Author.Tests.{le-leb, leb-true, eqb-true, eq-eqb}
use lib.Dec.{leb, eqb}
use lib.IntN.{ℤ}
use lib.ListN.{length}
use lib.Signed.{mag}
use Rattle.lists.proofs.Tests.{and_first, and_second}
use Rattle.ratio.specs.declared.Ratio.{Ratio}
use Rattle.ratio.specs.Gcd.{gcd}
use Rattle.tolerance.specs.declared.Parts.{Parts}
use Rattle.tolerance.specs.Meaning.{Held, HeldParts, allowed_ratio}
use Rattle.trace.specs.Trace.{tick, value, Rising}
use Rattle.trace.proofs.Ticks.{not_earlier}
use Rattle.format.specs.Format.{Content, Legal, is_held, in_limits, short}

-- ---- tests

pub in_limits_le : (first t l : ℕ) → in_limits first t l ≡ true → (t ≤ 4294967295) × (t ≤ first + 1048575) × (l ≤ 65535)
in_limits_le first t l e =
    let f = and_first (leb t 4294967295 && leb t (first + 1048575)) (leb l 65535) e in
    (leb-true _ _ (and_first (leb t 4294967295) _ f), leb-true _ _ (and_second (leb t 4294967295) _ f), leb-true _ _ (and_second (leb t 4294967295 && leb t (first + 1048575)) (leb l 65535) e))

pub le_in_limits : (first t l : ℕ) → t ≤ 4294967295 → t ≤ first + 1048575 → l ≤ 65535 → in_limits first t l ≡ true
le_in_limits first t l a b c = rw (le-leb _ _ a, le-leb _ _ b, le-leb _ _ c)

pub short_le : (level a next : ℕ) → short level a next ≡ true → (a ≤ 255) × (level ≤ next + 128) × (next ≤ level + 127)
short_le level a next e =
    let f = and_first (leb a 255 && leb level (next + 128)) (leb next (level + 127)) e in
    (leb-true _ _ (and_first (leb a 255) _ f), leb-true _ _ (and_second (leb a 255) _ f), leb-true _ _ (and_second (leb a 255 && leb level (next + 128)) (leb next (level + 127)) e))

module _ (r : Ratio) where
  pub is_held_true : is_held r ≡ true → Held r
  unfolding is_held
  is_held_true e =
      let f = and_first (allowed_ratio r.p r.q) (eqb (gcd r.p r.q) 1) e in
      let g = and_first (leb 1 r.q && leb r.q 1048575) (leb r.p (65535 * r.q)) f in
      record {
        positive = leb-true _ _ (and_first (leb 1 r.q) _ g);
        q_bound = leb-true _ _ (and_second (leb 1 r.q) _ g);
        p_bound = leb-true _ _ (and_second (leb 1 r.q && leb r.q 1048575) _ f);
        coprime = eqb-true _ _ (and_second (allowed_ratio r.p r.q) _ e);
      }

  pub held_is_held : Held r → is_held r ≡ true
  unfolding is_held
  held_is_held h = rw (le-leb _ _ h.positive, le-leb _ _ h.q_bound, le-leb _ _ h.p_bound, eq-eqb _ _ h.coprime)

-- ---- samples

abbrev pub Follows : ℕ → ℕ → List ℕ → List ℤ → Type 0
Follows first t [] [] = Unit {0}
Follows first t [] (v' ∷ vs) = ⊥
Follows first t (t' ∷ ts) [] = ⊥
Follows first t (t' ∷ ts) (v' ∷ vs) = (t < t') × (t' ≤ 4294967295) × (t' ≤ first + 1048575) × (mag v' < 32768) × Follows first t' ts vs

-- a legal content has a first sample
pub first_sample : (P : Content → Type 0) → ((x : Parts) (t : ℕ) (ts : List ℕ) (v : ℤ) (vs : List ℤ)
    → Legal (record { tolerance = x; ticks = t ∷ ts; values = v ∷ vs }) → P (record { tolerance = x; ticks = t ∷ ts; values = v ∷ vs })) → (y : Content) → Legal y → P y
first_sample P f y = go y.tolerance y.ticks y.values
  where
    go : (x : Parts) (ts : List ℕ) (vs : List ℤ) → Legal (record { tolerance = x; ticks = ts; values = vs }) → P (record { tolerance = x; ticks = ts; values = vs })
    go x [] vs h = absurd (omega (arith, h.trace.some))
    go x (t ∷ ts) [] h = absurd (omega (arith, h.trace.same))
    go x (t ∷ ts) (v ∷ vs) h = f x t ts v vs h

rising_tail : {t : ℕ} {ts : List ℕ} → Rising (t ∷ ts) → Rising ts
rising_tail r = record { rises = λ k h. r.rises (suc k) (omega arith) }

follows_from : (first t : ℕ) (ts : List ℕ) (vs : List ℤ) → length vs ≡ length ts → Rising (t ∷ ts) → tick (t ∷ ts) (length ts) ≤ first + 1048575
    → ((k : ℕ) → tick ts k ≤ 4294967295) → ((k : ℕ) → mag (value vs k) < 32768) → Follows first t ts vs
follows_from first t [] [] e r s a b = tt
follows_from first t [] (v' ∷ vs) e r s a b = absurd (omega arith)
follows_from first t (t' ∷ ts) [] e r s a b = absurd (omega arith)
follows_from first t (t' ∷ ts) (v' ∷ vs) e r s a b = (
  r.rises 0 (omega arith),
  a 0,
  omega (arith, not_earlier (rising_tail r) {i = 0} {j = length ts} (omega arith) (omega arith)),
  b 0,
  follows_from first t' ts vs (omega arith) (rising_tail r) s (λ k. a (suc k)) (λ k. b (suc k)),
)

-- the samples of a legal content follow by the rules
pub legal_follows : {x : Parts} {t : ℕ} {ts : List ℕ} {v : ℤ} {vs : List ℤ} → Legal (record { tolerance = x; ticks = t ∷ ts; values = v ∷ vs }) → Follows t t ts vs
legal_follows {t = t} {ts = ts} {vs = vs} h =
    let e : suc (length ts) - 1 ≡ length ts = omega arith in
    follows_from t t ts vs (omega (arith, h.trace.same)) h.trace.rising (rw e at h.trace.span) (λ k. h.tick_range (suc k)) (λ k. h.value_range (suc k))

follows_length : (first t : ℕ) (ts : List ℕ) (vs : List ℤ) → Follows first t ts vs → length vs ≡ length ts
follows_length first t [] [] f = refl
follows_length first t [] (v' ∷ vs) f = absurd f
follows_length first t (t' ∷ ts) [] f = absurd f
follows_length first t (t' ∷ ts) (v' ∷ vs) f = ap suc (follows_length first t' ts vs f.4)

follows_rises : (first t : ℕ) (ts : List ℕ) (vs : List ℤ) → Follows first t ts vs → (k : ℕ) → suc k < length (t ∷ ts) → tick (t ∷ ts) k < tick (t ∷ ts) (suc k)
follows_rises first t [] vs f k h = absurd (omega arith)
follows_rises first t (t' ∷ ts) [] f k h = absurd f
follows_rises first t (t' ∷ ts) (v' ∷ vs) f zero h = f.0
follows_rises first t (t' ∷ ts) (v' ∷ vs) f (suc k) h = follows_rises first t' ts vs f.4 k (omega arith)

follows_span : (first t : ℕ) (ts : List ℕ) (vs : List ℤ) → t ≤ first + 1048575 → Follows first t ts vs → tick (t ∷ ts) (length ts) ≤ first + 1048575
follows_span first t [] vs h f = h
follows_span first t (t' ∷ ts) [] h f = absurd f
follows_span first t (t' ∷ ts) (v' ∷ vs) h f = follows_span first t' ts vs f.2 f.4

follows_ticks : (first t : ℕ) (ts : List ℕ) (vs : List ℤ) → t ≤ 4294967295 → Follows first t ts vs → (k : ℕ) → tick (t ∷ ts) k ≤ 4294967295
follows_ticks first t ts vs h f zero = h
follows_ticks first t [] vs h f (suc k) = omega arith
follows_ticks first t (t' ∷ ts) [] h f (suc k) = absurd f
follows_ticks first t (t' ∷ ts) (v' ∷ vs) h f (suc k) = follows_ticks first t' ts vs f.1 f.4 k

follows_values : (first t : ℕ) (ts : List ℕ) (v : ℤ) (vs : List ℤ) → mag v < 32768 → Follows first t ts vs → (k : ℕ) → mag (value (v ∷ vs) k) < 32768
follows_values first t ts v vs h f zero = h
follows_values first t ts v [] h f (suc k) = omega arith
follows_values first t [] v (v' ∷ vs) h f (suc k) = absurd f
follows_values first t (t' ∷ ts) v (v' ∷ vs) h f (suc k) = follows_values first t' ts v' vs f.3 f.4 k

-- samples that follow by the rules, at most 4,096 of them, are those of a trace
pub follows_legal : (x : Parts) (t : ℕ) (ts : List ℕ) (v : ℤ) (vs : List ℤ) → HeldParts x → t ≤ 4294967295 → mag v < 32768 → length ts ≤ 4095 → Follows t t ts vs
    → Legal (record { tolerance = x; ticks = t ∷ ts; values = v ∷ vs })
follows_legal x t ts v vs h a b n f =
    let e : suc (length ts) - 1 ≡ length ts = omega arith in
    record {
      held = h;
      trace = record {
        same = ap suc (follows_length t t ts vs f);
        some = omega arith;
        few = omega arith;
        rising = record { rises = follows_rises t t ts vs f };
        span = rw e (follows_span t t ts vs (omega arith) f);
      };
      tick_range = follows_ticks t t ts vs a f;
      value_range = follows_values t t ts v vs b f;
    }

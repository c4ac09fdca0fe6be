-- The lines of a list pass through its samples and stay between its least and its greatest value, so these are the extremes of the lines.
-- Assumes nothing.
use mathlib.Core.Path.{◌≡◌, refl, sym, subst}
use mathlib.Core.Logic.{inl, inr, ⊎_elim}
use mathlib.Core.List.{List, [], ◌∷◌}
use Prim.Native.Nat.{ℕ, ◌+◌, ◌-◌, ◌*◌, ◌≤◌, ◌<◌}
use native.Mathlib.Nat.{mul-le-mul_right, eq-or-lt_of_le}
use native.Mathlib.Omega.{arith}
use lib.Dec.{leb}
use lib.IntN.{ℤ}
use lib.ListN.{length}
use lib.Signed.{◌≤ℤ◌}
use borrow.Author.Tests.{le-leb, lt-leb, leb-true, leb-false}
use Rattle.lists.proofs.Tests.{by_test}
use Rattle.kept.specs.Kept.{LinksFrom, final, KeptList}
use Rattle.kept.proofs.KeptLaws.{rise_le}
use Rattle.trace.specs.Trace.{tick, value, Rising, Trace}
use Rattle.trace.proofs.Ticks.{later, not_earlier}
use Rattle.trace.proofs.Difference.{times, alike, parts}
use Rattle.trace.proofs.Deviation.{line}
use Rattle.trace.proofs.Offsets.{offset_of_diff}
use Rattle.heights.specs.Heights.{link_at, line_from, line_at, OnTrace, Equals, Between, higher, lower, joined, of_samples, peak, trough, Attained, Extremes}
use Rattle.heights.proofs.Order.{order, order_refl, order_trans, higher_left, higher_right, higher_one, lower_left, lower_right, lower_one}
use Rattle.heights.proofs.Entries.{Entry, entry_inside, kept_entry}
use Rattle.heights.proofs.LineLaws.{link_den, link_num, link_positive}

-- ---- the values of a list's samples, joined

-- each is in relation to what they come to
module _ (vs : List ℤ) (f : ℤ → ℤ → ℤ) (R : ℤ → ℤ → Type 0) (self : (x : ℤ) → R x x) (trans : (x y z : ℤ) → R x y → R y z → R x z)
    (left : (x y : ℤ) → R x (f x y)) (right : (x y : ℤ) → R y (f x y)) where
  joined_bound : (k : ℕ) (s : List ℕ) (i : ℕ) → Entry k (i ∷ s) → R (value vs k) (joined f vs i s)
  unfolding joined
  joined_bound k [] i e = ⊎_elim (λ q. rw q (self (value vs i))) (λ z. absurd z) e
  joined_bound k (j ∷ s) i e = ⊎_elim (λ q. rw q (left (value vs i) (joined f vs j s)))
      (λ m. trans (value vs k) (joined f vs j s) _ (joined_bound k s j m) (right (value vs i) (joined f vs j s))) e

  bound : (l : List ℕ) (k : ℕ) → Entry k l → R (value vs k) (of_samples f vs l)
  bound [] k e = absurd e
  bound (i ∷ s) k e = joined_bound k s i e

-- a sample of the list has the value v
pub record Sampled (vs : List ℤ) (l : List ℕ) (v : ℤ) : Type 0 where
  pub sample : ℕ
  pub entry : Entry sample l
  pub is : value vs sample ≡ v

module _ (vs : List ℤ) (f : ℤ → ℤ → ℤ) (one : (P : ℤ → Type 0) (x y : ℤ) → P x → P y → P (f x y)) where
  joined_sampled : (s : List ℕ) (i : ℕ) → Sampled vs (i ∷ s) (joined f vs i s)
  unfolding joined
  joined_sampled [] i = record { sample = i; entry = inl refl; is = refl }
  joined_sampled (j ∷ s) i =
      let m = joined_sampled s j in
      one (Sampled vs (i ∷ j ∷ s)) (value vs i) (joined f vs j s) (record { sample = i; entry = inl refl; is = refl }) (record { sample = m.sample; entry = inr m.entry; is = m.is })

  sampled : {last : ℕ} (l : List ℕ) → KeptList last l → Sampled vs l (of_samples f vs l)
  sampled [] k = absurd k.spans
  sampled (i ∷ s) k = joined_sampled s i

module _ (vs : List ℤ) (l : List ℕ) where
  pub peak_bound : (k : ℕ) → Entry k l → value vs k ≤ℤ peak vs l
  peak_bound = bound vs higher ◌≤ℤ◌ order_refl order_trans higher_left higher_right l

  pub trough_bound : (k : ℕ) → Entry k l → trough vs l ≤ℤ value vs k
  trough_bound = bound vs lower (λ x y. y ≤ℤ x) order_refl (λ x y z h k. order_trans z y x k h) lower_left lower_right l

  pub peak_sampled : {last : ℕ} → KeptList last l → Sampled vs l (peak vs l)
  peak_sampled = sampled vs higher higher_one l

  pub trough_sampled : {last : ℕ} → KeptList last l → Sampled vs l (trough vs l)
  trough_sampled = sampled vs lower lower_one l

-- ---- the line of a link

-- at its ends, over levels
at_start : (b c u s t base : ℕ) → u ≡ 0 → t ≡ u + s → line b c u s + base * t ≡ b * t + base * t
at_start b c u s t base eu et = rw (et, eu) (omega arith)

at_end : (b c u s t base : ℕ) → s ≡ 0 → t ≡ u + s → line b c u s + base * t ≡ c * t + base * t
at_end b c u s t base es et = rw (et, es) (omega arith)

-- between two bounds, each x - y
mean_most : (b c u s t base x y : ℕ) → t ≡ u + s → b + y ≤ x + base → c + y ≤ x + base → line b c u s + y * t ≤ x * t + base * t
mean_most b c u s t base x y et h k = rw et (omega (arith, mul-le-mul_right s h, mul-le-mul_right u k))

mean_least : (b c u s t base x y : ℕ) → t ≡ u + s → x + base ≤ b + y → x + base ≤ c + y → x * t + base * t ≤ line b c u s + y * t
mean_least b c u s t base x y et h k = rw et (omega (arith, mul-le-mul_right s h, mul-le-mul_right u k))

module _ (ts : List ℕ) (vs : List ℤ) (i j : ℕ) (rises : tick ts i < tick ts j) where
  link_start : Equals (link_at ts vs i j (tick ts i) 1) (value vs i)
  link_start =
      let h : 1 * tick ts i ≤ tick ts i = omega arith in
      let k : tick ts i ≤ 1 * tick ts j = omega arith in
      record {
        positive = link_positive ts vs i j (tick ts i) 1 (omega arith) rises;
        is = alike (link_num ts vs i j (tick ts i) 1 h k (offset_of_diff vs i) (offset_of_diff vs j)) (times (offset_of_diff vs i) _)
            (at_start _ _ _ _ _ _ (omega arith) (link_den ts vs i j (tick ts i) 1 h k));
      }

  link_end : Equals (link_at ts vs i j (tick ts j) 1) (value vs j)
  link_end =
      let h : 1 * tick ts i ≤ tick ts j = omega arith in
      let k : tick ts j ≤ 1 * tick ts j = omega arith in
      record {
        positive = link_positive ts vs i j (tick ts j) 1 (omega arith) rises;
        is = alike (link_num ts vs i j (tick ts j) 1 h k (offset_of_diff vs i) (offset_of_diff vs j)) (times (offset_of_diff vs j) _)
            (at_end _ _ _ _ _ _ (omega arith) (link_den ts vs i j (tick ts j) 1 h k));
      }

  link_between : {a d : ℕ} {low high : ℤ} → 1 ≤ d → d * tick ts i ≤ a → a ≤ d * tick ts j
      → low ≤ℤ value vs i → low ≤ℤ value vs j → value vs i ≤ℤ high → value vs j ≤ℤ high → Between low high (link_at ts vs i j a d)
  link_between {a} {d} {low} {high} some from to li lj hi hj =
      let x = (parts low).2 in
      let y = (parts high).2 in
      let den = link_den ts vs i j a d from to in
      let num = link_num ts vs i j a d from to (offset_of_diff vs i) (offset_of_diff vs j) in
      record {
        positive = link_positive ts vs i j a d some rises;
        from = (order (times x _) num).1 (mean_least _ _ _ _ _ _ _ _ den ((order x (offset_of_diff vs i)).0 li) ((order x (offset_of_diff vs j)).0 lj));
        to = (order num (times y _)).1 (mean_most _ _ _ _ _ _ _ _ den ((order (offset_of_diff vs i) y).0 hi) ((order (offset_of_diff vs j) y).0 hj));
      }

-- ---- the lines of a list

-- a sample alone
module _ (v : ℤ) where
  alone : Equals (record { num = v; den = 1 }) v
  alone = let d = (parts v).2 in record { positive = omega arith; is = alike d (times d 1) (omega arith) }

  alone_between : {low high : ℤ} → low ≤ℤ v → v ≤ℤ high → Between low high (record { num = v; den = 1 })
  alone_between {low} {high} h k =
      let d = (parts v).2 in
      let x = (parts low).2 in
      let y = (parts high).2 in
      record {
        positive = omega arith;
        from = (order (times x 1) d).1 (omega (arith, (order x d).0 h));
        to = (order d (times y 1)).1 (omega (arith, (order d y).0 k));
      }

module _ {ts : List ℕ} (rising : Rising ts) (vs : List ℤ) where
  from_through : (k : ℕ) (s : List ℕ) (i : ℕ) → LinksFrom ◌<◌ i s → final i s < length ts → Entry k (i ∷ s) → Equals (line_from ts vs i s (tick ts k) 1) (value vs k)
  unfolding line_from
  from_through k [] i r inside e = ⊎_elim (λ q. rw q (alone (value vs i))) (λ z. absurd z) e
  from_through k (j ∷ s) i r inside e =
      let tj : tick ts i < tick ts j = later rising j r.0 (omega (arith, rise_le j s r.1)) in
      ⊎_elim (λ q. rw (q, le-leb (tick ts i) (1 * tick ts j) (omega arith)) (link_start ts vs i j tj))
      (λ m. ⊎_elim (λ q. rw (← q, le-leb (tick ts j) (1 * tick ts j) (omega arith)) (link_end ts vs i j tj))
      (λ jk. rw (lt-leb (tick ts k) (1 * tick ts j) (omega (arith, later rising k jk (omega (arith, entry_inside k s j r.1 m))))) (from_through k s j r.1 inside m))
      (eq-or-lt_of_le (entry_inside k s j r.1 m).0))
      e

  module _ (a d : ℕ) (some : 1 ≤ d) (low high : ℤ) where
    from_between : (s : List ℕ) (i : ℕ) → LinksFrom ◌<◌ i s → final i s < length ts → ((k : ℕ) → Entry k (i ∷ s) → (low ≤ℤ value vs k) × (value vs k ≤ℤ high))
        → d * tick ts i ≤ a → a ≤ d * tick ts (final i s) → Between low high (line_from ts vs i s a d)
    unfolding line_from
    from_between [] i r inside h from to = alone_between (value vs i) (h i (inl refl)).0 (h i (inl refl)).1
    from_between (j ∷ s) i r inside h from to = by_test (leb a (d * tick ts j))
        (λ e. rw e (link_between ts vs i j (later rising j r.0 (omega (arith, rise_le j s r.1))) some from (leb-true a (d * tick ts j) e)
        (h i (inl refl)).0 (h j (inr (inl refl))).0 (h i (inl refl)).1 (h j (inr (inl refl))).1))
        (λ e. rw e (from_between s j r.1 inside (λ k m. h k (inr m)) (omega (arith, leb-false a (d * tick ts j) e)) to))

module _ {ts : List ℕ} {vs : List ℤ} (t : Trace ts vs) where
  -- the lines of a kept list pass through its samples
  pub line_through : (l : List ℕ) → KeptList (length ts - 1) l → (k : ℕ) → Entry k l → Equals (line_at ts vs l (tick ts k) 1) (value vs k)
  line_through [] kl k e = absurd e
  line_through (i ∷ s) kl k e = from_through t.rising vs k s i kl.rises (omega (arith, kl.spans.1, t.some)) e

  line_between : (l : List ℕ) → KeptList (length ts - 1) l → (a d : ℕ) → OnTrace ts a d → Between (trough vs l) (peak vs l) (line_at ts vs l a d)
  line_between [] kl a d on = absurd kl.spans
  line_between (i ∷ s) kl a d on =
      from_between t.rising vs a d on.positive _ _ s i kl.rises (omega (arith, kl.spans.1, t.some))
      (λ k e. (trough_bound vs (i ∷ s) k e, peak_bound vs (i ∷ s) k e))
      (subst (λ (n : ℕ). d * tick ts n ≤ a) (sym kl.spans.0) on.from) (subst (λ (n : ℕ). a ≤ d * tick ts n) (sym kl.spans.1) on.to)

  -- each sample's tick is on the trace
  pub sample_on : (k : ℕ) → k ≤ length ts - 1 → OnTrace ts (tick ts k) 1
  sample_on k h = record {
    positive = omega arith;
    from = omega (arith, not_earlier t.rising {i = 0} {j = k} (omega arith) (omega (arith, t.some)));
    to = omega (arith, not_earlier t.rising {i = k} {j = length ts - 1} h (omega (arith, t.some)));
  }

  attained : (l : List ℕ) → KeptList (length ts - 1) l → {v : ℤ} → Sampled vs l v → Attained ts vs l v
  attained l kl {v} m = record {
    sample = m.sample;
    inside = kept_entry l kl m.entry;
    on = sample_on m.sample (kept_entry l kl m.entry);
    at = subst (Equals (line_at ts vs l (tick ts m.sample) 1)) m.is (line_through l kl m.sample m.entry);
  }

  -- the greatest and the least value of its samples are those of its lines
  pub line_extremes : (l : List ℕ) → KeptList (length ts - 1) l → Extremes ts vs l
  line_extremes l kl = record {
    between = line_between l kl;
    highest = attained l kl (peak_sampled vs l kl);
    lowest = attained l kl (trough_sampled vs l kl);
  }

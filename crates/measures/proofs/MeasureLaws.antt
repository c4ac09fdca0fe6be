-- Laws of a link's measure: its sample deviates by the error, none before it does, and its side is the deviation's sign; what is said of an
-- invalid link names what makes it invalid. `Leads` and `Straying` are the invariants of the pass that finds it.
-- Assumes nothing.
use mathlib.Core.Path.{◌≡◌, refl, sym, ap, subst, ◌∙◌}
use mathlib.Core.Bool.{Bool, true, false, cond}
use mathlib.Core.List.{List}
use Prim.Native.Nat.{ℕ, zero, suc, ◌+◌, ◌-◌, ◌*◌, ◌≤◌, ◌<◌}
use native.Mathlib.Nat.{mul-lt-mul_of_pos_right, mul-le-mul_right}
use native.Mathlib.Decide.{dec_le}
use native.Mathlib.Omega.{arith}
use lib.Dec.{leb, eqb}
use lib.IntN.{ℤ, pos, negsuc, nat_abs}
use borrow.Author.Count.{below_more}
use borrow.Author.Tests.{eq-eqb, ne_eqb, le-leb, lt-leb}
use Rattle.lists.specs.First.{first}
use Rattle.lists.proofs.Tests.{by_test, true_false}
use Rattle.lists.proofs.FirstLaws.{first_at, first_found}
use Rattle.ratio.specs.declared.Ratio.{Ratio}
use Rattle.ratio.specs.Gcd.{lowest}
use Rattle.ratio.specs.Order.{over}
use Rattle.ratio.proofs.Laws.{lowest_equal}
use Rattle.trace.specs.declared.Criterion.{Criterion}
use Rattle.trace.specs.declared.Side.TheVariants.{Gap}
use Rattle.trace.specs.Trace.{tick}
use Rattle.trace.specs.Link.{deviation, greatest, farthest, link_error, hole, Within, AllWithin, all_within, valid, Linked, Bounded, parted, limited, criterion, side_of}
use Rattle.trace.proofs.Ticks.{later, span_bound}
use Rattle.trace.proofs.Difference.{size}
use Rattle.trace.proofs.Deviation.{diff}
use Rattle.trace.proofs.Offsets.{offset_of, offset_of_diff}
use Rattle.trace.proofs.Holes.{none_hole, some_hole, first_obeys}
use Rattle.trace.proofs.Validity.{all_within_true, true_all_within, obeying_valid, equal_parts, within_wider}
use Rattle.trace.proofs.Errors.{greatest_each, each_greatest, link_error_pos, both_bounded}
use Rattle.measures.specs.declared.Stray.{Stray}
use Rattle.measures.specs.declared.Measure.{Measure}
use Rattle.measures.specs.Measure.{worst_sample, deviation_of, stray_of, measure_of, gap_of, fault_of, Strays, Cut, Outside, OffendsOn, Offends}

-- ---- the first of the greatest

-- of f at the numbers from a on and below k, p is the greatest and s the first that has it
pub record Leads (f : ℕ → ℕ) (a k p s : ℕ) : Type 0 where
  pub from : a ≤ s
  pub before : s < k
  pub there : f s ≡ p
  pub first : (m : ℕ) → a ≤ m → m < s → f m < p
  pub most : (m : ℕ) → a ≤ m → m < k → f m ≤ p

module _ {f : ℕ → ℕ} {a : ℕ} where
  pub leads_none : f a ≡ 0 → Leads f a (a + 1) 0 a
  leads_none z = record {
    from = omega arith;
    before = omega arith;
    there = z;
    first = λ m l u. absurd (omega arith);
    most = λ m l u. let e : m ≡ a = omega arith in rw (e, z) (omega arith);
  }

  pub leads_same : {k p s : ℕ} → Leads f a k p s → f k ≤ p → Leads f a (k + 1) p s
  leads_same {k} {p} h le = record {
    from = h.from;
    before = omega (arith, h.before);
    there = h.there;
    first = h.first;
    most = λ m l u. below_more (λ (m : ℕ). a ≤ m → f m ≤ p) k (λ m u l. h.most m l u) (λ l. le) m u l;
  }

  pub leads_more : {k p s d : ℕ} → Leads f a k p s → d ≡ f k → p < d → Leads f a (k + 1) d k
  leads_more {k} {p} {s} {d} h e lt = record {
    from = omega (arith, h.from, h.before);
    before = omega arith;
    there = sym e;
    first = λ m l u. omega (arith, h.most m l u);
    most = λ m l u. below_more (λ (m : ℕ). a ≤ m → f m ≤ d) k (λ m u l. omega (arith, h.most m l u)) (λ l. omega arith) m u l;
  }

  -- there is one
  leads_some : f a ≡ 0 → (n : ℕ) → (p : ℕ) × (s : ℕ) × Leads f a (suc (a + n)) p s
  leads_some z zero = let e : a + 1 ≡ suc (a + 0) = omega arith in (0, a, subst (λ (k : ℕ). Leads f a k 0 a) e (leads_none z))
  leads_some z (suc n) =
      let ih = leads_some z n in
      let e : suc (a + n) + 1 ≡ suc (a + suc n) = omega arith in
      elim (dec_le (f (suc (a + n))) ih.0) [
        | yes q ↦ (ih.0, ih.1, subst (λ (k : ℕ). Leads f a k ih.0 ih.1) e (leads_same ih.2 q))
        | no q ↦ (f (suc (a + n)), suc (a + n), subst (λ (k : ℕ). Leads f a k (f (suc (a + n))) (suc (a + n))) e (leads_more ih.2 refl (omega arith)))
      ]

  leads_greatest : {b p s : ℕ} → f a ≡ 0 → Leads f a b p s → p ≡ greatest (suc a) (b - suc a) f
  leads_greatest {b} {p} {s} z h = elim (dec_le s a) [
    | yes q ↦ let e : s ≡ a = omega (arith, h.from) in let zero-p : p ≡ 0 = sym h.there ∙ ap f e ∙ z in omega (arith, above)
    | no q ↦ omega (arith, above, greatest_each f 1 (greatest (suc a) (b - suc a) f) (b - suc a) (suc a) (omega arith) s (omega arith) (omega (arith, h.before)), h.there)
  ]
    where
      above : greatest (suc a) (b - suc a) f * 1 ≤ p
      above = each_greatest f 1 p (b - suc a) (suc a) (λ m l u. omega (arith, h.most m (omega arith) (omega arith)))

  leads_first : {b p s : ℕ} → Leads f a b p s → first (λ k. eqb (f k) p) a b ≡ s
  leads_first {p = p} h =
      first_at h.from h.before (record { none = λ m l u. ne_eqb (f m) p (λ e. omega (arith, h.first m l u)) }) (eq-eqb (f _) p h.there)

-- ---- the deviations of a link's samples

-- |deviation| of sample k, times the link's ticks
abbrev strayed : List ℕ → List ℤ → ℕ → ℕ → ℕ → ℕ
strayed ts vs i j k = nat_abs (deviation ts vs i j k)

-- s has the greatest deviation of the samples of the link i to j before k, and the first that has it
pub record Straying (ts : List ℕ) (vs : List ℤ) (i j k : ℕ) (s : Stray) : Type 0 where
  pub low : i < k
  pub high : k ≤ j
  pub run : s.q ≡ tick ts j - tick ts i
  pub leads : Leads (strayed ts vs i j) i k s.p s.sample
  pub bound : s.p ≤ 65535 * (tick ts j - tick ts i)

module _ {ts : List ℕ} {vs : List ℤ} {i j : ℕ} (h : Linked ts vs i j) where
  -- the first sample lies on the line
  start_on : strayed ts vs i j i ≡ 0
  start_on =
      let d = diff ts vs i j i 0 0 (offset_of_diff vs i) (offset_of_diff vs j) (offset_of_diff vs i) (omega arith) (omega (arith, later h.trace.rising j h.forward h.inside)) in
      let none : tick ts i - tick ts i ≡ 0 = omega arith in
      omega (arith, size d, ap (λ (x : ℕ). offset_of vs j * x) none)

  pub straying_none : {q : ℕ} → q ≡ tick ts j - tick ts i → Straying ts vs i j (i + 1) (record { p = 0; q = q; sample = i })
  straying_none e = record { low = omega arith; high = omega (arith, h.forward); run = e; leads = leads_none start_on; bound = omega arith }

  leads_farthest : {p n : ℕ} → Leads (strayed ts vs i j) i j p n → p ≡ farthest ts vs i j
  unfolding farthest
  leads_farthest l = leads_greatest start_on l

  leads_worst : {p n : ℕ} → Leads (strayed ts vs i j) i j p n → n ≡ worst_sample ts vs i j
  unfolding worst_sample
  leads_worst l = sym (leads_first l) ∙ ap (λ (x : ℕ). first (λ k. eqb (strayed ts vs i j k) x) i j) (leads_farthest l)

  pub straying_all : {k : ℕ} {s : Stray} → Straying ts vs i j k s → j ≤ k → s ≡ stray_of ts vs i j
  straying_all {k} {s} m le =
      let e : k ≡ j = omega (arith, m.high) in
      let l : Leads (strayed ts vs i j) i j s.p s.sample = subst (λ (n : ℕ). Leads (strayed ts vs i j) i n s.p s.sample) e m.leads in
      rw (← (leads_farthest l), ← (leads_worst l), ← m.run)

  pub straying_allowed : {k : ℕ} {s : Stray} → Straying ts vs i j k s → Bounded (criterion (deviation_of s))
  straying_allowed m = both_bounded (record {
    positive = omega (arith, m.run, later h.trace.rising j h.forward h.inside);
    q_bound = rw m.run (span_bound h.trace i j (omega (arith, h.forward)) h.inside);
    p_bound = rw m.run m.bound;
  })

pub straying_more : {ts : List ℕ} {vs : List ℤ} {i j k d : ℕ} {s r : Stray} → Straying ts vs i j k s → k < j
    → (d ≡ strayed ts vs i j k) × (d ≤ 65535 * (tick ts j - tick ts i)) → r ≡ cond (leb d s.p) s (record { p = d; q = s.q; sample = k }) → Straying ts vs i j (k + 1) r
straying_more {ts} {vs} {i} {j} {k} {d} {s} m lt e f = elim (dec_le d s.p) [
  | yes q ↦ rw (f, le-leb d s.p q) (record {
    low = omega (arith, m.low);
    high = omega arith;
    run = m.run;
    leads = leads_same m.leads (omega (arith, e.0));
    bound = m.bound;
  })
  | no q ↦ rw (f, lt-leb d s.p (omega arith)) (record {
    low = omega (arith, m.low);
    high = omega arith;
    run = m.run;
    leads = leads_more m.leads e.0 (omega arith);
    bound = e.1;
  })
]

module _ {ts : List ℕ} {vs : List ℤ} {i j : ℕ} (h : Linked ts vs i j) where
  worst_leads : Leads (strayed ts vs i j) i j (farthest ts vs i j) (worst_sample ts vs i j)
  worst_leads =
      let some = leads_some {f = strayed ts vs i j} {a = i} (start_on h) (j - suc i) in
      let e : suc (i + (j - suc i)) ≡ j = omega (arith, h.forward) in
      let l : Leads (strayed ts vs i j) i j some.0 some.1 = subst (λ (k : ℕ). Leads (strayed ts vs i j) i k some.0 some.1) e some.2 in
      rw (leads_farthest h l, leads_worst h l) at l

  pub stray_inside : {s : Stray} → s ≡ stray_of ts vs i j → (i ≤ s.sample) × (s.sample ≤ j)
  stray_inside e = rw e (worst_leads.from, omega (arith, worst_leads.before))

  -- the measure's sample deviates by the error, and none before it does
  pub measure_strays : Strays ts vs i j (measure_of ts vs i j)
  unfolding link_error
  measure_strays =
      let l = worst_leads in
      let g = farthest ts vs i j in
      let run = tick ts j - tick ts i in
      let equal = lowest_equal g run in
      let q-pos : 0 < (lowest g run).q = link_error_pos h in
      record {
        from = l.from;
        before = l.before;
        there = rw l.there (sym equal);
        first = λ k a b. omega (arith, equal, mul-lt-mul_of_pos_right (l.first k a b) q-pos);
        most = λ k a b. omega (arith, equal, mul-le-mul_right (lowest g run).q (l.most k a b));
        side = refl;
      }

  -- an error of 0 gives the first sample
  pub worst_none : farthest ts vs i j ≡ 0 → worst_sample ts vs i j ≡ i
  worst_none z = elim (dec_le (worst_sample ts vs i j) i) [
    | yes q ↦ omega (arith, worst_leads.from)
    | no q ↦ absurd (omega (arith, worst_leads.first i (omega arith) (omega arith)))
  ]

-- ---- invalid links

module _ {ts : List ℕ} {vs : List ℤ} {i j : ℕ} (h : Linked ts vs i j) (c : Criterion) where
  -- if the worst sample is within a tolerance, each is
  worst_within : (g : ℕ) (r : Ratio) → Within ts vs (limited g r) i j (worst_sample ts vs i j) → AllWithin ts vs (limited g r) i j
  worst_within g r w = record {
    between = λ k l u. (equal_parts ts vs g r i j k).1 (omega (
      arith,
      (equal_parts ts vs g r i j (worst_sample ts vs i j)).0 w,
      mul-le-mul_right r.q ((worst_leads h).most k (omega arith) u),
      ap (λ (x : ℕ). x * r.q) (worst_leads h).there,
    ));
  }

  -- where the worst sample is on the line, each is
  worst_on : deviation ts vs i j (worst_sample ts vs i j) ≡ pos 0 → AllWithin ts vs c i j
  worst_on e = within_wider {c = limited c.gap (over 0 1)} (record { up_some = omega arith; down_some = omega arith; up = omega arith; down = omega arith })
      (worst_within c.gap (over 0 1) ((equal_parts ts vs c.gap (over 0 1) i j (worst_sample ts vs i j)).1 (rw e (omega arith))))

  far_offends : all_within ts vs c i j ≡ false → Offends ts vs c i j (measure_of ts vs i j)
  far_offends e = go (deviation ts vs i j (worst_sample ts vs i j)) refl
    where
      some : AllWithin ts vs c i j → ⊥
      some w = true_false (all_within_true ts vs c i j w) e

      outside : Outside ts vs c i j (measure_of ts vs i j)
      outside = record {
        strays = measure_strays h;
        some = some;
        named = λ q w.
            let k : limited c.gap c.up ≡ c = ap (λ (d : Ratio). parted c.gap c.up d) q in
            some (subst (λ (x : Criterion). AllWithin ts vs x i j) k
            (worst_within c.gap c.up (subst (λ (x : Criterion). Within ts vs x i j (worst_sample ts vs i j)) (sym k) w)));
      }

      go : (d : ℤ) → deviation ts vs i j (worst_sample ts vs i j) ≡ d → OffendsOn (side_of d) ts vs c i j (measure_of ts vs i j)
      go (pos zero) q = some (worst_on q)
      go (pos (suc n)) q = outside
      go (negsuc n) q = outside

  gap_cut : all_within ts vs c i j ≡ true → valid ts vs c i j ≡ false → Cut ts vs c i j (first (hole ts c.gap) i j)
  gap_cut w e =
      let f = first_found (hole ts c.gap) i j (omega (arith, h.forward)) in
      let inside : first (hole ts c.gap) i j < j = elim (dec_le j (first (hole ts c.gap) i j)) [
        | yes q ↦ true_false (obeying_valid ts vs c i j (first_obeys ts c.gap i j h.forward refl q) ∙ w) e
        | no q ↦ omega arith
      ] in
      record {
        within = true_all_within ts vs c i j w;
        from = f.from;
        before = inside;
        there = some_hole ts c.gap _ (f.here inside);
        first = λ n l u. none_hole ts c.gap n (f.clear.none n l u);
      }

  -- what is said of an invalid link
  within_fault : all_within ts vs c i j ≡ true → fault_of ts vs c i j ≡ gap_of ts vs c.gap i j
  unfolding fault_of
  within_fault w = ap (λ (b : Bool). cond b (gap_of ts vs c.gap i j) (measure_of ts vs i j)) w

  far_fault : all_within ts vs c i j ≡ false → fault_of ts vs c i j ≡ measure_of ts vs i j
  unfolding fault_of
  far_fault w = ap (λ (b : Bool). cond b (gap_of ts vs c.gap i j) (measure_of ts vs i j)) w

  -- it has the link's error, and is its measure unless it says "gap"
  pub fault_error : (fault_of ts vs c i j).error ≡ link_error ts vs i j
  fault_error = by_test (all_within ts vs c i j) (λ w. ap (λ (m : Measure). m.error) (within_fault w)) (λ w. ap (λ (m : Measure). m.error) (far_fault w))

  pub fault_measure : ((fault_of ts vs c i j).side ≡ Gap → ⊥) → fault_of ts vs c i j ≡ measure_of ts vs i j
  fault_measure n = by_test (all_within ts vs c i j) (λ w. absurd (n (ap (λ (m : Measure). m.side) (within_fault w)))) far_fault

  -- it names what makes it invalid
  pub fault_offends : valid ts vs c i j ≡ false → Offends ts vs c i j (fault_of ts vs c i j)
  fault_offends e = by_test (all_within ts vs c i j) (λ w. rw (within_fault w) (gap_cut w e)) (λ w. rw (far_fault w) (far_offends w))

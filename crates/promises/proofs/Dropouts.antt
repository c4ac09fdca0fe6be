-- Gap limits, from the definitions that the contracts name:
--   lists_as_before, rows_as_before   with the gap limit at its largest, every list and every answer is as without one
--   shortest_obeying                  the shortest kept list that obeys a gap limit has both ends and the samples on either side of each hole
--   beside_kept                       every kept list that obeys it has these samples
--   holes_only, holes_then            least is refused with 16 only where every kept list that obeys the gap limit has more than m samples; and
--                                     there it is, where the checks before pass
-- Assumes nothing.
use Rattle.std.specs.Prelude.{Err, Ok, Result}
use mathlib.Core.Path.{◌≡◌, refl, ap, fun_ext}
use mathlib.Core.Logic.{◌⊎◌, inl, inr, ⊎_elim, ◌↔◌}
use mathlib.Core.Bool.{true, ◌&&◌, ◌||◌}
use mathlib.Core.List.Memᴰ
use mathlib.Core.List.{List, [], ◌∷◌, Memᴰ}
use Prim.Native.Nat.{ℕ, zero, suc, ◌+◌, ◌-◌, ◌≤◌, ◌<◌, max}
use native.Mathlib.Decide.{dec_le, dec_lt}
use native.Mathlib.Nat.{eq-or-lt_of_le}
use native.Mathlib.Omega.{arith}
use lib.IntN.{ℤ}
use lib.ListN.{length}
use lib.Dec.{leb, eqb}
use borrow.Author.Tests.{lt-ltb, le-ltb, le-leb, leb-true, eq-eqb, eqb-true}
use Rattle.lists.specs.First.{first}
use Rattle.lists.proofs.Tests.{true_false, and_first, or_first, or_second, or_cases}
use Rattle.lists.proofs.FirstLaws.{first_found}
use Rattle.ratio.specs.declared.Ratio.{Ratio}
use Rattle.refusal.specs.declared.Refusal.{Refusal}
use Rattle.refusal.specs.declared.Refusal.TheVariants.{Length, Tick, Span, Allowance, Room, Gap, Holes}
use Rattle.refusal.specs.Table.{number_of, room_row}
use Rattle.refusal.proofs.TableLaws.{row_fine, row_refused, then_refused, then_nothing, then_assoc, then_skip}
use Rattle.kept.specs.Kept.{KeptList, AllValid, LinksFrom, final}
use Rattle.kept.proofs.KeptLaws.{links_at}
use Rattle.kept.specs.Stops.{stops}
use Rattle.kept.specs.Walk.{walk_of}
use Rattle.kept.specs.Gallop.{gallop_of, gallop_probes}
use Rattle.kept.specs.Minimum.{minimum_of}
use Rattle.kept.specs.Least.{obeying_error, least_of}
use Rattle.tolerance.specs.declared.Tolerance.{Tolerance}
use Rattle.tolerance.specs.Meaning.{meaning}
use Rattle.trace.specs.Trace.{Trace, length_row, falls_at, tick_row, beyond_at, trace_rows}
use Rattle.trace.specs.Link.{hole, obeys, links_end, link_error}
use Rattle.trace.proofs.TraceLaws.{rows_trace}
use Rattle.trace.proofs.Holes.{some_hole, true_obeys, widest_obeys}
use Rattle.trace.proofs.Validity.{widest_valid}
use Rattle.closest.specs.Closest.{obeying_list, fewest_samples}
use Rattle.allowance.specs.Rows.{allowance_row, holes_row, allowed_rows, least_rows}
use Rattle.closest.proofs.ClosestLaws.{obeying_kept, obeying_obeys, obeying_fewest}
use Rattle.allowance.proofs.RowLaws.{holes_exact}
use Rattle.limits.specs.Prepare.{tolerance_row, gap_row, common_rows, output_rows}
use Rattle.engine.specs.Least.{LeastOutcome}
use Rattle.reporting.specs.Report.{crate_rows}
use Rattle.promises.specs.Pedestals.{Exactly}
use Rattle.promises.specs.Dropouts.{ListsAsBefore, RowsAsBefore, beside_hole, ShortestObeying}
use Rattle.closest.specs.declared.Found.{Found}

-- ---- the largest gap limit

pub lists_as_before : {ts : List ℕ} {vs : List ℤ} → Trace ts vs → (r : Ratio) → ListsAsBefore ts vs r
lists_as_before {ts} {vs} t r =
    let e = widest_valid t r in
    let last = length ts - 1 in
    record {
      link = e;
      walk = ap (λ ok. walk_of ok last) e;
      gallop = ap (λ ok. gallop_of ok last) e;
      probes = ap (λ ok. gallop_probes ok last) e;
      minimum = ap (λ ok. minimum_of ok last) e;
      least = λ m. ap (λ err. least_of err last m) (fun_ext (λ i. fun_ext (λ j. plain i j)));
    }
  where
    plain : (i j : ℕ) → obeying_error (obeys ts 1048575) (link_error ts vs) i j ≡ link_error ts vs i j
    plain i j = rw (widest_obeys t i j)

-- of the largest gap limit the trace has no hole: both ends are a list that obeys it
few_widest : {ts : List ℕ} {vs : List ℤ} → Trace ts vs → fewest_samples ts 1048575 ≤ 2
few_widest {ts} t = elim (dec_lt 0 (length ts - 1)) [
  | yes q ↦ obeying_fewest ts 1048575 (0 ∷ (length ts - 1) ∷ []) (record { spans = (refl, refl); rises = (q, tt) }) (widest_obeys t 0 (length ts - 1), tt)
  | no q ↦ omega (arith, obeying_fewest ts 1048575 (0 ∷ []) (record { spans = (refl, omega arith); rises = tt }) tt)
]

pub rows_as_before : (ts : List ℕ) (vs : List ℤ) (t : Tolerance) → RowsAsBefore ts vs t
unfolding common_rows output_rows crate_rows least_rows allowed_rows
rows_as_before ts vs t =
    let held = then_nothing (tolerance_row (meaning t)) in
    record {
      common = rw held;
      output = λ room. rw held (then_assoc (trace_rows 4096 ts vs) (tolerance_row (meaning t)) (room_row (length ts) room));
      report = λ ls room. rw held;
      least = λ m room. then_skip (trace_rows 256 ts vs) (allowance_row m) (holes_row ts 1048575 m) (room_row (length ts) room) (no_holes m);
    }
  where
    no_holes : (m : ℕ) → trace_rows 256 ts vs ≡ Ok tt → allowance_row m ≡ Ok tt → holes_row ts 1048575 m ≡ Ok tt
    no_holes m e a =
        let two = leb-true 2 m (and_first _ _ (row_fine _ _ a)) in
        rw (le-leb (fewest_samples ts 1048575) m (omega (arith, few_widest (rows_trace 256 ts vs (omega arith) e).0)))

-- ---- the shortest list that obeys a gap limit

module _ (ts : List ℕ) (g : ℕ) where
  abbrev last : ℕ
  last = length ts - 1

  -- what a list from sample i on has
  abbrev Marked : ℕ → ℕ → Type 0
  Marked i k = (k ≡ i) ⊎ ((k ≡ last) ⊎ ((hole ts g k ≡ true) ⊎ ((i < k) × (hole ts g (k - 1) ≡ true))))

  -- the link from i ends one step on, across a hole, or before the next hole
  record Next (i j : ℕ) : Type 0 where
    after : i < j
    inside : j ≤ last
    at : Marked i j
    none : (k : ℕ) → i < k → k < j → Marked i k → ⊥

  next_is : (i : ℕ) → i < last → Next i (links_end ts g i)
  unfolding links_end
  next_is i lt =
      let e : ℕ = first (hole ts g) i last in
      let f = first_found (hole ts g) i last (omega arith) in
      let clear : (k : ℕ) → i ≤ k → k < e → hole ts g k ≡ true → ⊥ = λ k l u h. true_false h (f.clear.none k l u) in
      elim (dec_lt i e) [
        | yes q ↦
            let is : max (suc i) e ≡ e = omega arith in
            rw is (record {
              after = q;
              inside = f.to;
              at = ⊎_elim (λ z. inr (inl z)) (λ u. inr (inr (inl (f.here u)))) (eq-or-lt_of_le f.to);
              none = λ k l u m.
                  ⊎_elim (λ z. absurd (omega arith)) (λ n. ⊎_elim (λ z. absurd (omega (arith, f.to)))
                  (λ n. ⊎_elim (λ h. clear k (omega arith) u h) (λ h. clear (k - 1) (omega arith) (omega arith) h.1) n) n) m;
            })
        | no q ↦
            let at_i : e ≡ i = omega (arith, f.from) in
            let is : max (suc i) e ≡ suc i = omega arith in
            let back : suc i - 1 ≡ i = omega arith in
            rw is (record {
              after = omega arith;
              inside = lt;
              at = inr (inr (inr (omega arith, rw back (rw at_i at (f.here (omega arith))))));
              none = λ k l u m. absurd (omega arith);
            })
      ]

  later_marked : {i j : ℕ} → Next i j → (k : ℕ) → Marked j k → Marked i k
  later_marked {i} {j} n k m =
      ⊎_elim (λ e. rw e n.at) (λ m. ⊎_elim (λ e. inr (inl e)) (λ m. ⊎_elim (λ h. inr (inr (inl h))) (λ h. inr (inr (inr (omega (arith, n.after, h.0), h.1)))) m) m) m

  marked_later : {i j : ℕ} → Next i j → (k : ℕ) → j ≤ k → Marked i k → Marked j k
  marked_later {i} {j} n k le m = elim (dec_lt j k) [
    | yes q ↦ ⊎_elim (λ e. absurd (omega (arith, n.after))) (λ m. ⊎_elim (λ e. inr (inl e)) (λ m. ⊎_elim (λ h. inr (inr (inl h))) (λ h. inr (inr (inr (q, h.1)))) m) m) m
    | no q ↦ inl (omega arith)
  ]

  from_entries : (n i : ℕ) → i ≤ last → last ≤ i + n → (k : ℕ) → Memᴰ k (i ∷ stops (links_end ts g) last i n) ↔ (i ≤ k) × (k ≤ last) × Marked i k
  unfolding stops
  from_entries zero i le en k = (
    λ e. let is = Memᴰ.eq_of_singleton e in (omega arith, omega arith, inl is),
    λ m. Memᴰ.head {x = i} (omega (arith, m.0, m.1)),
  )
  from_entries (suc n) i le en k = elim (dec_lt i last) [
    | no q ↦ rw (le-ltb i last (omega arith)) (
      λ e. let is = Memᴰ.eq_of_singleton e in (omega arith, omega arith, inl is),
      λ m. Memᴰ.head {x = i} (omega (arith, m.0, m.1)),
    )
    | yes q ↦
        let j = next_is i q in
        let on = from_entries n (links_end ts g i) j.inside (omega (arith, j.after)) k in
        rw (lt-ltb i last q) (
          λ e. ⊎_elim (λ is. (omega arith, omega arith, inl is)) (λ f. let m = on.0 f in (omega (arith, m.0, j.after), m.1, later_marked j k m.2)) (Memᴰ.cases_cons e),
          λ m. elim (dec_lt i k) [
            | no z ↦ Memᴰ.head {x = i} (omega (arith, m.0))
            | yes z ↦ Memᴰ.tail {xs = links_end ts g i ∷ stops (links_end ts g) last (links_end ts g i) n} (elim (dec_le (links_end ts g i) k) [
              | yes y ↦ on.1 (y, m.1, marked_later j k y m.2)
              | no y ↦ absurd (j.none k z (omega arith) m.2)
            ])
          ],
        )
  ]

  -- from the first sample on, as a test
  marked_beside : (k : ℕ) → Marked 0 k → beside_hole ts g k ≡ true
  marked_beside k m =
      ⊎_elim (λ z. or_first (eqb k 0 || eqb k last) _ (or_first _ _ (eq-eqb k 0 z)))
      (λ m. ⊎_elim (λ z. or_first (eqb k 0 || eqb k last) _ (or_second (eqb k 0) _ (eq-eqb k last z)))
      (λ m. or_second (eqb k 0 || eqb k last) _ (⊎_elim (λ h. or_first _ _ h) (λ h. or_second (hole ts g k) _ h.1) m)) m) m

  beside_marked : (k : ℕ) → beside_hole ts g k ≡ true → Marked 0 k
  beside_marked k h = elim (dec_lt 0 k) [
    | no z ↦ inl (omega arith)
    | yes z ↦ ⊎_elim
        (λ e. ⊎_elim (λ e. inl (eqb-true k 0 e)) (λ e. inr (inl (eqb-true k last e))) (or_cases (eqb k 0) _ e))
        (λ e. inr (inr (⊎_elim inl (λ e. inr (z, e)) (or_cases (hole ts g k) _ e))))
        (or_cases (eqb k 0 || eqb k last) _ h)
  ]

  module _ (some : 1 ≤ length ts) where
    entries : Exactly (beside_hole ts g) (length ts) (obeying_list ts g)
    unfolding obeying_list
    entries =
        let on = from_entries last 0 (omega arith) (omega arith) in
        record {
          only = λ c e. let m = (on c).0 e in (omega (arith, m.1), marked_beside c m.2);
          each = λ c u h. (on c).1 (omega arith, omega arith, beside_marked c h);
          rises = λ i u. links_at ◌<◌ (obeying_list ts g) (obeying_kept ts g).rises i u;
        }

    pub shortest_obeying : ShortestObeying ts g (obeying_list ts g)
    shortest_obeying = record { kept = obeying_kept ts g; obeying = obeying_obeys ts g; fewest = obeying_fewest ts g; entries = entries }

  -- ---- every list that obeys a gap limit

  from_kept : (s : List ℕ) (i : ℕ) → LinksFrom (λ i j. obeys ts g i j ≡ true) i s → (k : ℕ) → i ≤ k → k < final i s → hole ts g k ≡ true
      → Memᴰ k (i ∷ s) × Memᴰ (suc k) (i ∷ s)
  from_kept [] i o k l u h = absurd (omega arith)
  from_kept (j ∷ s) i o k l u h = elim (dec_lt k j) [
    | yes q ↦ elim (dec_lt (suc i) j) [
      | yes long ↦ absurd (omega (arith, some_hole ts g k h, (true_obeys ts g i j o.0).near long k l q))
      | no one ↦ (Memᴰ.head {x = i} (omega arith), Memᴰ.tail {xs = j ∷ s} (Memᴰ.head {x = j} (omega arith)))
    ]
    | no q ↦
        let m = from_kept s j o.1 k (omega arith) u h in
        (Memᴰ.tail {xs = j ∷ s} m.0, Memᴰ.tail {xs = j ∷ s} m.1)
  ]

  -- it has the samples on either side of each hole
  pub beside_kept : (l : List ℕ) → KeptList last l → AllValid (obeys ts g) l → (k : ℕ) → k < last → hole ts g k ≡ true → Memᴰ k l × Memᴰ (suc k) l
  beside_kept [] kept o k u h = absurd kept.spans
  beside_kept (i ∷ s) kept o k u h = from_kept s i o k (omega (arith, kept.spans.0)) (omega (arith, kept.spans.1)) h

-- ---- 16

before_16 : {x : Refusal} → x ≡ Holes → number_of x < 16 → ⊥
before_16 e lt = absurd (omega (arith, ap number_of e))

no_row_of_trace : (ts : List ℕ) (vs : List ℤ) → trace_rows 256 ts vs ≡ Err Holes → ⊥
unfolding trace_rows
no_row_of_trace ts vs e =
    ⊎_elim (λ a. before_16 {x = Length} (row_refused (leb 1 (length ts) && leb (length ts) 256 && eqb (length vs) (length ts)) _ a) (omega arith))
    (λ e. ⊎_elim (λ a. before_16 {x = Tick (first (falls_at ts) 1 (length ts))} (row_refused (leb (length ts) (first (falls_at ts) 1 (length ts))) _ a) (omega arith))
    (λ a. before_16 {x = Span (first (beyond_at ts) 0 (length ts))} (row_refused (leb (length ts) (first (beyond_at ts) 0 (length ts))) _ a) (omega arith)) (then_refused (tick_row ts) _ e))
    (then_refused (length_row 256 ts vs) _ e)

abbrev AllLonger : List ℕ → ℕ → ℕ → Type 0
AllLonger ts g m = (h : List ℕ) → KeptList (length ts - 1) h → AllValid (obeys ts g) h → m < length h

module _ (ts : List ℕ) (vs : List ℤ) (g m : ℕ) {o o' : List ℕ} where
  pub holes_only : LeastOutcome ts vs g m o (Err Holes) o' → AllLonger ts g m
  unfolding least_rows allowed_rows
  holes_only w =
      ⊎_elim (λ a. absurd (no_row_of_trace ts vs a))
      (λ e. ⊎_elim (λ a. absurd (before_16 {x = Gap} (row_refused (leb 1 g && leb g 1048575) _ a) (omega arith)))
      (λ e. ⊎_elim (λ a. absurd (before_16 {x = Allowance} (row_refused (leb 2 m && leb m 4096) _ a) (omega arith)))
      (λ e. ⊎_elim (λ a. (holes_exact ts g m).0 a) (λ a. absurd (before_16 {x = Room (length ts)} (row_refused (leb (length ts) (length o)) _ a) (omega arith))) (then_refused (holes_row ts g m) _ e))
      (then_refused (allowance_row m) _ e))
      (then_refused (gap_row g) _ e))
      (then_refused (trace_rows 256 ts vs) _ w.0)

  pub holes_then : trace_rows 256 ts vs ≡ Ok tt → gap_row g ≡ Ok tt → allowance_row m ≡ Ok tt → AllLonger ts g m → (r : Result Found Refusal) → LeastOutcome ts vs g m o r o' → (r ≡ Err Holes) × (o' ≡ o)
  unfolding least_rows allowed_rows
  holes_then t a b all r w = go r w (rw (t, a, b, (holes_exact ts g m).1 all))
    where
      go : (r : Result Found Refusal) → LeastOutcome ts vs g m o r o' → least_rows ts vs g m (length o) ≡ Err Holes → (r ≡ Err Holes) × (o' ≡ o)
      go (Ok f) w rows =
          let h : least_rows ts vs g m (length o) ≡ Ok tt = w.rows in
          let z : ◌≡◌ {A = ℕ} 0 1 = cc in
          absurd (omega arith)
      go (Err x) w rows =
          let h : least_rows ts vs g m (length o) ≡ Err x = w.0 in
          let e : x ≡ Holes = cc in
          (ap Err e, w.1)

-- Laws of `judge_greedy`: what the cone of a link says of it and of the next; a list is passed exactly if it is greedy, so the size bound holds of it;
-- a no names the first fault.
-- Assumes nothing.
use Rattle.std.specs.Prelude.{Result, Ok}
use mathlib.Core.Path.{◌≡◌, sym, ap, ◌∙◌}
use mathlib.Core.Logic.{◌↔◌}
use mathlib.Core.Bool.{true, false, not}
use mathlib.Core.List.{List}
use Prim.Native.Nat.{ℕ, suc, ◌+◌, ◌-◌, ◌≤◌, ◌<◌}
use native.Mathlib.Decide.{dec_le, dec_lt}
use native.Mathlib.Numerals.{add-one}
use native.Mathlib.Omega.{arith}
use lib.Dec.{ltb}
use lib.IntN.{ℤ}
use lib.ListN.{length}
use borrow.Author.Tests.{le-leb, lt-leb, lt-ltb, le-ltb, ltb-true, not-false}
use Rattle.lists.proofs.Tests.{by_test, and_first, and_second, or_false}
use Rattle.lists.proofs.FirstLaws.{Searching, searching_more, searched_at, searched_none, first_found, first_none}
use Rattle.refusal.specs.declared.Refusal.{Refusal}
use Rattle.kept.specs.Kept.{KeptList, Greedy}
use Rattle.kept.proofs.KeptLaws.{links_at, links_of_lem, kept_links}
use Rattle.limits.specs.declared.Limits.{Limits}
use Rattle.limits.specs.Prepare.{criterion_of}
use Rattle.trace.specs.declared.Criterion.{Criterion}
use Rattle.trace.specs.Link.{Linked, Bounded, all_within, valid, links_end, NoLonger}
use Rattle.trace.proofs.Holes.{links_end_inside, obeys_to, obeys_past}
use Rattle.trace.proofs.Validity.{hole_invalid, obeying_valid}
use Rattle.trace.proofs.Half.{greedy_short}
use Rattle.outgoing.specs.declared.Links.{Links}
use Rattle.outgoing.specs.Outgoing.{TakenIn, Next}
use Rattle.outgoing.proofs.OutgoingLaws.{next_at}
use Rattle.proposed.specs.Proposed.{entry}
use Rattle.judging.specs.Judge.{judge_rows}
use Rattle.judging.proofs.JudgeLaws.{rows_are_trace, rows_kept}
use Rattle.greedy.specs.declared.GreedyVerdict.{GreedyVerdict}
use Rattle.greedy.specs.declared.GreedyVerdict.TheVariants.{Yes, Link, Stop}
use Rattle.greedy.specs.Greedy.{further, faulty_at, first_faulty, fault_at, list_greedy, judge_greedy_of, FirstAt, LinkFault, StopFault, JudgeGreedyOutcome}
use Rattle.refusal.proofs.TableLaws.{then_given}

-- ---- the test of a link and of the next

module _ {ts : List ℕ} {vs : List ℤ} (c : Criterion) {i j : ℕ} (link : Linked ts vs i j) where
  start_inside : i + 1 < length ts
  start_inside = omega (arith, link.forward, link.inside)

  -- a link past the limit is invalid, and one to the limit is valid if its samples are within the parts
  pub past_invalid : links_end ts c.gap i < j → valid ts vs c i j ≡ false
  past_invalid h = hole_invalid ts vs c i j (obeys_past ts c.gap i start_inside j h link.inside)

  pub limit_valid : j ≤ links_end ts c.gap i → valid ts vs c i j ≡ all_within ts vs c i j
  limit_valid h = obeying_valid ts vs c i j (obeys_to ts c.gap i start_inside j h)

  -- no link goes further than the limit
  pub no_further : links_end ts c.gap i ≤ j → further ts vs c i j ≡ false
  no_further h = elim (dec_lt j (length ts - 1)) [
    | yes lt ↦ rw (lt-ltb j (length ts - 1) lt) (hole_invalid ts vs c i (suc j) (obeys_past ts c.gap i start_inside (suc j) (omega arith) (omega arith)))
    | no end ↦ rw (le-ltb j (length ts - 1) (omega arith))
  ]

  -- before the limit there is a next sample
  module _ (before : j < links_end ts c.gap i) where
    next_inside : j + 1 < length ts
    next_inside = omega (arith, links_end_inside ts c.gap i start_inside)

    -- links that are ready for the end, and for the sample after it
    module _ {l : Links} (b : Bounded c) where
      pub next_ready : TakenIn ts vs c i (j + 1) l → Next ts vs c l (j + 1)
      next_ready h = next_at h link.trace b (omega (arith, link.forward)) (omega arith) next_inside

    pub further_valid : further ts vs c i j ≡ valid ts vs c i (j + 1)
    further_valid = rw (lt-ltb j (length ts - 1) (omega (arith, next_inside)), add-one j)

-- ---- the first fault

module _ (ts : List ℕ) (vs : List ℤ) (l : List ℕ) (c : Criterion) where
  greedy_yes : length l - 1 ≤ first_faulty ts vs c l → list_greedy ts vs l c ≡ Yes
  unfolding list_greedy
  greedy_yes h = rw (le-leb (length l - 1) (first_faulty ts vs c l) h)

  greedy_no : first_faulty ts vs c l < length l - 1 → list_greedy ts vs l c ≡ fault_at ts vs c l (first_faulty ts vs c l)
  unfolding list_greedy
  greedy_no h = rw (lt-leb (length l - 1) (first_faulty ts vs c l) h)

  -- a pass over the links that has reached position k and found no fault
  abbrev pub Sound : ℕ → Type 0
  Sound = Searching (faulty_at ts vs c l) 0 (length l - 1)

  pub found_none : {k : ℕ} → Sound k → length l - 1 ≤ k → Yes ≡ list_greedy ts vs l c
  unfolding first_faulty
  found_none s le = sym (greedy_yes (omega (arith, searched_none s le)))

  -- what the test of the link at position k tells
  module _ {k : ℕ} (s : Sound k) (lt : k < length l - 1) where
    found : faulty_at ts vs c l k ≡ true → fault_at ts vs c l k ≡ list_greedy ts vs l c
    unfolding first_faulty
    found f = let q = searched_at s lt f in sym (greedy_no (omega (arith, q)) ∙ ap (fault_at ts vs c l) (sym q))

    pub found_link : valid ts vs c (entry l k) (entry l (suc k)) ≡ false → Link k ≡ list_greedy ts vs l c
    found_link v = rw v at (found (rw v))

    module _ (v : valid ts vs c (entry l k) (entry l (suc k)) ≡ true) where
      pub found_stop : further ts vs c (entry l k) (entry l (suc k)) ≡ true → Stop k ≡ list_greedy ts vs l c
      found_stop f = rw v at (found (rw v f))

      pub sound_more : further ts vs c (entry l k) (entry l (suc k)) ≡ false → Sound (k + 1)
      sound_more f = searching_more s lt (rw v f)

  -- a link that is not at fault, and the other way round
  sound_at : (k : ℕ) → faulty_at ts vs c l k ≡ false
      → (valid ts vs c (entry l k) (entry l (suc k)) ≡ true) × (entry l (suc k) < length ts - 1 → valid ts vs c (entry l k) (suc (entry l (suc k))) ≡ false)
  sound_at k h =
      let o = or_false (not (valid ts vs c (entry l k) (entry l (suc k)))) _ h in
      (not-false _ o.0, λ lt. rw (lt-ltb (entry l (suc k)) (length ts - 1) lt) at o.1)

  at_sound : (k : ℕ) → valid ts vs c (entry l k) (entry l (suc k)) ≡ true → (entry l (suc k) < length ts - 1 → valid ts vs c (entry l k) (suc (entry l (suc k))) ≡ false)
      → faulty_at ts vs c l k ≡ false
  at_sound k v m = rw v (elim (dec_lt (entry l (suc k)) (length ts - 1)) [
    | yes lt ↦ rw (lt-ltb (entry l (suc k)) (length ts - 1) lt) (m lt)
    | no end ↦ rw (le-ltb (entry l (suc k)) (length ts - 1) (omega arith))
  ])

  -- no link before the first fault is at fault
  before_first : (k : ℕ) → k < first_faulty ts vs c l → faulty_at ts vs c l k ≡ false
  unfolding first_faulty
  before_first k h = (first_found (faulty_at ts vs c l) 0 (length l - 1) (omega arith)).clear.none k (omega arith) h

  -- ---- what the verdict says

  yes_sound : list_greedy ts vs l c ≡ Yes → length l - 1 ≤ first_faulty ts vs c l
  yes_sound e = elim (dec_le (length l - 1) (first_faulty ts vs c l)) [
    | yes q ↦ q
    | no q ↦ let h = sym (greedy_no (omega arith)) ∙ e in by_test (valid ts vs c (entry l (first_faulty ts vs c l)) (entry l (suc (first_faulty ts vs c l))))
        (λ v. let g = rw v at h in let z : ◌≡◌ {A = ℕ} 0 1 = cc in absurd (omega arith))
        (λ v. let g = rw v at h in let z : ◌≡◌ {A = ℕ} 0 1 = cc in absurd (omega arith))
  ]

  -- yes exactly if a kept list is greedy
  greedy_list : KeptList (length ts - 1) l → list_greedy ts vs l c ≡ Yes ↔ Greedy (valid ts vs c) (length ts - 1) l
  unfolding first_faulty
  greedy_list kept = (
    λ e. let s = yes_sound e in record {
      kept = kept;
      valid = links_of_lem (λ i j. valid ts vs c i j ≡ true) l (λ k h. (sound_at k (before_first k (omega (arith, s)))).0);
      maximal = links_of_lem (λ i j. j < length ts - 1 → valid ts vs c i (suc j) ≡ false) l (λ k h. (sound_at k (before_first k (omega (arith, s)))).1);
    },
    λ g. greedy_yes (omega (
      arith,
      first_none {f = faulty_at ts vs c l} {a = 0} {b = length l - 1} (omega arith) (record {
        none = λ k a h. at_sound k (links_at (λ i j. valid ts vs c i j ≡ true) l g.valid k (omega arith)) (links_at (λ i j. j < length ts - 1 → valid ts vs c i (suc j) ≡ false) l g.maximal k (omega arith));
      }),
    )),
  )

  -- a no is the fault at the first position that has one
  no_named : {v : GreedyVerdict} → list_greedy ts vs l c ≡ v → (v ≡ Yes → ⊥) → (first_faulty ts vs c l < length l - 1) × (fault_at ts vs c l (first_faulty ts vs c l) ≡ v)
  no_named e not_yes = elim (dec_le (length l - 1) (first_faulty ts vs c l)) [
    | yes q ↦ absurd (not_yes (sym e ∙ greedy_yes q))
    | no q ↦ (omega arith, sym (greedy_no (omega arith)) ∙ e)
  ]

  -- every link before it is a greedy stop
  first_at : KeptList (length ts - 1) l → {k : ℕ} → first_faulty ts vs c l ≡ k → first_faulty ts vs c l < length l - 1 → FirstAt ts vs c l k
  first_at kept {k} e h = record {
    position = omega arith;
    before = λ m lt.
        let s = sound_at m (before_first m (omega arith)) in
        let link = links_at (λ i j. (i < j) × (j ≤ length ts - 1)) l (kept_links (length ts - 1) l kept) m (omega arith) in
        record { after = link.0; within = link.1; valid = s.0; maximal = s.1 };
  }

  -- a valid link at fault: the next sample is reached
  first_further : first_faulty ts vs c l < length l - 1 → {k : ℕ} → first_faulty ts vs c l ≡ k → valid ts vs c (entry l k) (entry l (suc k)) ≡ true → further ts vs c (entry l k) (entry l (suc k)) ≡ true
  unfolding first_faulty
  first_further h e v = rw v at (rw e at ((first_found (faulty_at ts vs c l) 0 (length l - 1) (omega arith)).here h))

  module _ (kept : KeptList (length ts - 1) l) {k : ℕ} where
    link_fault : list_greedy ts vs l c ≡ Link k → LinkFault ts vs c l k
    link_fault e =
        let n = no_named e (λ q. let z : ◌≡◌ {A = ℕ} 0 1 = cc in omega arith) in
        by_test (valid ts vs c (entry l (first_faulty ts vs c l)) (entry l (suc (first_faulty ts vs c l))))
        (λ v. let g = rw v at n.1 in let z : ◌≡◌ {A = ℕ} 0 1 = cc in absurd (omega arith))
        (λ v. let g = rw v at n.1 in let at : first_faulty ts vs c l ≡ k = cc in record { first = first_at kept at n.0; invalid = rw at at v })

    stop_fault : list_greedy ts vs l c ≡ Stop k → StopFault ts vs c l k
    stop_fault e =
        let n = no_named e (λ q. let z : ◌≡◌ {A = ℕ} 0 1 = cc in omega arith) in
        by_test (valid ts vs c (entry l (first_faulty ts vs c l)) (entry l (suc (first_faulty ts vs c l))))
        (λ v.
        let g = rw v at n.1 in
        let at : first_faulty ts vs c l ≡ k = cc in
        let f = first_further n.0 at (rw at at v) in
        record { first = first_at kept at n.0; link_valid = rw at at v; not_last = ltb-true _ _ (and_first _ _ f); next_valid = and_second (ltb (entry l (suc k)) (length ts - 1)) _ f })
        (λ v. let g = rw v at n.1 in let z : ◌≡◌ {A = ℕ} 0 1 = cc in absurd (omega arith))

-- ---- the answer

module _ (ts : List ℕ) (vs : List ℤ) (l : List ℕ) where
  module _ (t : Limits) where
    -- the verdict behind an answer that is no refusal
    pub answered : {w : GreedyVerdict} → judge_greedy_of ts vs l t ≡ Ok w → (judge_rows ts vs l t ≡ Ok tt) × (list_greedy ts vs l (criterion_of t) ≡ w)
    unfolding judge_greedy_of
    answered e = then_given (judge_rows ts vs l t) e

    passes : judge_greedy_of ts vs l t ≡ Ok Yes ↔ (judge_rows ts vs l t ≡ Ok tt) × Greedy (valid ts vs (criterion_of t)) (length ts - 1) l
    unfolding judge_greedy_of
    passes = (
      λ e. let d = answered e in (d.0, (greedy_list ts vs l (criterion_of t) (rows_kept ts vs l t d.0)).0 d.1),
      λ h. rw (h.0, (greedy_list ts vs l (criterion_of t) h.1.kept).1 h.1),
    )

    -- demand 3: one theorem for walk's lists, gallop's and these
    short : judge_greedy_of ts vs l t ≡ Ok Yes → NoLonger ts vs (criterion_of t) (length l)
    short e = let p = passes.0 e in greedy_short ts vs (criterion_of t) (rows_are_trace ts vs l t p.0) p.1

    at_link : (k : ℕ) → judge_greedy_of ts vs l t ≡ Ok (Link k) → LinkFault ts vs (criterion_of t) l k
    at_link k e = let d = answered e in link_fault ts vs l (criterion_of t) (rows_kept ts vs l t d.0) d.1

    at_stop : (k : ℕ) → judge_greedy_of ts vs l t ≡ Ok (Stop k) → StopFault ts vs (criterion_of t) l k
    at_stop k e = let d = answered e in stop_fault ts vs l (criterion_of t) (rows_kept ts vs l t d.0) d.1

    -- the contract, from the answer
    pub greedy_outcome : {r : Result GreedyVerdict Refusal} → r ≡ judge_greedy_of ts vs l t → JudgeGreedyOutcome ts vs l t r
    greedy_outcome e = record { is = e; passed = rw e passes; size = rw e short; link = rw e at_link; stop = rw e at_stop }

-- Sums, from the contract alone:
--   rows_swap, sum_swap                         a call is accepted exactly if it is with the traces and their lists exchanged, and then writes the same
--   zeros_accepted, sum_zeros, zeros_answered   a trace and its list, added to zeros with the list of both ends, are accepted and given back
--   sum_judged, sum_link_row                    at every tolerance of which neither part is below 2 (T1 + T2) judge passes the joined list, and write does not refuse it as 7
--   sum_kept                                    no more samples are kept than by both lists together, the ends counted once
-- Assumes nothing.
use Rattle.std.specs.Prelude.{Err, Ok, Result, ℕ}
use mathlib.Core.Path.{◌≡◌, refl, sym, ◌∙◌, ap, subst}
use mathlib.Core.Logic.{◌↔◌, ⊎_elim}
use mathlib.Core.Bool.{Bool, true, false, cond, ◌&&◌, ◌||◌}
use mathlib.Core.List.{List, [], ◌∷◌}
use Prim.Native.Nat.{ℕ, zero, suc, ◌+◌, ◌-◌, ◌≤◌, ◌<◌}
use native.Mathlib.Omega.{arith}
use lib.Dec.{leb, eqb}
use lib.IntN.{ℤ, pos, +ℤ_comm, +ℤ_idr}
use lib.ListN.{length, take, length-append, length-replicate, get_or-replicate}
use borrow.Author.Tests.{le-leb, leb-true, leb-false, eqb-true}
use Rattle.lists.specs.Listed.{listed}
use Rattle.lists.specs.Overwrite.{overwrite}
use Rattle.lists.proofs.Tests.{by_test, and_true, or_cases, true_false}
use Rattle.ratio.specs.declared.Ratio.{Ratio}
use Rattle.ratio.specs.Order.{AtMost}
use Rattle.kept.specs.Kept.{KeptList, AllValid}
use Rattle.kept.proofs.KeptLaws.{each_map}
use Rattle.trace.specs.Trace.{value, Trace, trace_rows}
use Rattle.trace.specs.Link.{valid, parted, limited}
use Rattle.trace.proofs.TraceLaws.{rows_trace, trace_rows_lem}
use Rattle.trace.proofs.Validity.{NoWider, valid_wider}
use Rattle.heights.specs.Budget.{StandsFor}
use Rattle.proposed.specs.Proposed.{list_row, first_invalid}
use Rattle.proposed.proofs.ProposedLaws.{row_kept, all_valid}
use Rattle.summed.specs.Sum.{sums_of, outside, sum_rows, is_entry, joined_of, parts_sum, Summable, Joinable}
use Rattle.summed.proofs.EntryLaws.{first_entry, last_entry, entries_listed}
use Rattle.summed.proofs.JoinLaws.{joined_swap, joined_part}
use Rattle.summed.proofs.SumLaws.{sums_swap}
use Rattle.summed.proofs.RowLaws.{rows_addable, addable_fine}
use Rattle.limits.specs.declared.Limits.{Limits}
use Rattle.judging.specs.declared.Verdict.{Verdict}
use Rattle.judging.specs.declared.Verdict.TheVariants.{Yes}
use Rattle.limits.specs.Prepare.{limit_rows, common_rows, criterion_of}
use Rattle.judging.specs.Judge.{judge_rows, JudgeOutcome}
use Rattle.engine.specs.Write.{link_row}
use Rattle.engine.specs.Sum.{Summed, SumOutcome}
use Rattle.engine.proofs.SumLaws.{sum_outcome}
use Rattle.promises.specs.Sums.{zeros, ends}
use Rattle.promises.proofs.Standing.{sum_stands}
use Rattle.refusal.specs.declared.Refusal.{Refusal}

-- ---- exchanged

module _ (ts us : List ℕ) (vs ws : List ℤ) (l m : List ℕ) (room room' : ℕ) where
  pub rows_swap : sum_rows ts vs us ws l m room room' ≡ Ok tt → sum_rows us ws ts vs m l room room' ≡ Ok tt
  rows_swap e =
      let a = rows_addable ts vs us ws l m room room' e in
      let t = a.trace in
      let s = a.summable in
      let j = a.joinable in
      let trace : Trace ts ws = record { same = s.same ∙ t.same; some = t.some; few = t.few; rising = t.rising; span = t.span } in
      let sums : Summable ws vs room = record {
        same = sym s.same;
        fits = record { none = λ k lo hi. ap outside (+ℤ_comm (value ws k) (value vs k)) ∙ s.fits.none k lo (omega (arith, s.same)) };
        entries = omega (arith, s.same, s.entries);
      } in
      let lists : Joinable (length ts) m l room' = record { some = j.some; few = j.few; first = j.second; second = j.first; entries = j.entries } in
      subst (λ (x : List ℕ). sum_rows x ws ts vs m l room room' ≡ Ok tt) (sym a.ticks) (addable_fine trace sums lists)

module _ {ts us : List ℕ} {vs ws : List ℤ} {l m : List ℕ} {o : List ℤ} {p : List ℕ} {n : ℕ} {o' : List ℤ} {p' : List ℕ} where
  swapped : Summed ts vs us ws l m o p n o' p' → Summed us ws ts vs m l o p n o' p'
  swapped s =
      let ticks = (rows_addable ts vs us ws l m (length o) (length p) s.rows).ticks in
      sum_outcome us ws ts vs m l o p (rows_swap ts us vs ws l m (length o) (length p) s.rows) (rw (sums_swap ws vs) s.sums) (rw (joined_swap (length us) m l, ticks) s.joined)

pub sum_swap : {ts us : List ℕ} {vs ws : List ℤ} {l m : List ℕ} {o : List ℤ} {p : List ℕ} {n : ℕ} {o' : List ℤ} {p' : List ℕ}
    → SumOutcome ts vs us ws l m o p (Ok n) o' p' ↔ SumOutcome us ws ts vs m l o p (Ok n) o' p'
sum_swap = (swapped, swapped)

-- ---- zeros and both ends

pub ends_kept : (n : ℕ) → 1 ≤ n → KeptList (n - 1) (ends n)
ends_kept n some = by_test (leb n 1)
    (λ t. rw t (record { spans = (refl, omega (arith, leb-true n 1 t)); rises = tt }))
    (λ t. rw t (record { spans = (refl, refl); rises = (omega (arith, leb-false n 1 t), tt) }))

-- every kept list has both ends
module _ (n : ℕ) {l : List ℕ} (kept : KeptList (n - 1) l) where
  ends_part : (k : ℕ) → is_entry (ends n) k ≡ true → is_entry l k ≡ true
  ends_part k h = by_test (leb n 1)
      (λ t. ⊎_elim begins (λ e. true_false e refl) (or_cases (eqb k 0) _ (rw t at h)))
      (λ t. ⊎_elim begins (λ e. ⊎_elim closes (λ f. true_false f refl) (or_cases (eqb k (n - 1)) _ e)) (or_cases (eqb k 0) _ (rw t at h)))
    where
      begins : eqb k 0 ≡ true → is_entry l k ≡ true
      begins e = rw (eqb-true k 0 e) (first_entry l kept)

      closes : eqb k (n - 1) ≡ true → is_entry l k ≡ true
      closes e = rw (eqb-true k (n - 1) e) (last_entry l kept)

sums_zeros : (vs : List ℤ) → sums_of vs (zeros (length vs)) ≡ vs
sums_zeros [] = refl
sums_zeros (v ∷ vs) = rw (+ℤ_idr v, sums_zeros vs)

module _ (ts : List ℕ) (vs : List ℤ) (l : List ℕ) where
  -- a trace and its list that pass on their own, with values in range, are accepted
  pub zeros_accepted : (room room' : ℕ) → trace_rows 4096 ts vs ≡ Ok tt → list_row (length ts) l ≡ Ok tt → ((k : ℕ) → k < length vs → outside (value vs k) ≡ false)
      → length ts ≤ room → length ts ≤ room' → sum_rows ts vs ts (zeros (length ts)) l (ends (length ts)) room room' ≡ Ok tt
  zeros_accepted room room' trace list inside fits fits' =
      let t = (rows_trace 4096 ts vs (omega arith) trace).0 in
      addable_fine t
      (record {
        same = length-replicate (length ts) (pos 0) ∙ sym t.same;
        fits = record { none = λ k a u. rw (get_or-replicate (length ts) k (pos 0) (pos 0) (omega (arith, t.same)), +ℤ_idr (value vs k)) (inside k u) };
        entries = omega (arith, t.same);
      })
      (record { some = t.some; few = t.few; first = (row_kept t.some l).0 list; second = ends_kept (length ts) t.some; entries = fits' })

  module _ {o : List ℤ} {p : List ℕ} {o' : List ℤ} {p' : List ℕ} where
    pub sum_zeros : {n : ℕ} → SumOutcome ts vs ts (zeros (length ts)) l (ends (length ts)) o p (Ok n) o' p' → (n ≡ length l) × (o' ≡ overwrite vs o) × (p' ≡ overwrite l p)
    sum_zeros s =
        let a = rows_addable ts vs ts (zeros (length ts)) l (ends (length ts)) (length o) (length p) s.rows in
        let kept = a.joinable.first in
        let joined = joined_part a.joinable.some kept (ends (length ts)) (ends_part (length ts) kept) in
        let sums : sums_of vs (zeros (length ts)) ≡ vs = rw (← a.trace.same) (sums_zeros vs) in
        (s.joined.count ∙ ap length joined, rw sums at s.sums, rw joined at s.joined.content)

  -- so whatever such a call answers
  module _ (trace : trace_rows 4096 ts vs ≡ Ok tt) (list : list_row (length ts) l ≡ Ok tt) (inside : (k : ℕ) → k < length vs → outside (value vs k) ≡ false) (o o' : List ℤ) (p p' : List ℕ) where
    pub zeros_answered : length ts ≤ length o → length ts ≤ length p
        → (r : Result ℕ Refusal) → SumOutcome ts vs ts (zeros (length ts)) l (ends (length ts)) o p r o' p' → (r ≡ Ok (length l)) × (o' ≡ overwrite vs o) × (p' ≡ overwrite l p)
    zeros_answered fits fits' (Ok n) s = let x = sum_zeros s in (ap Ok x.0, x.1, x.2)
    zeros_answered fits fits' (Err c) s =
        let fine = zeros_accepted (length o) (length p) trace list inside fits fits' in
        let refused = s.0 in
        let z : ◌≡◌ {A = ℕ} 0 1 = cc in
        absurd (omega arith)

-- ---- at the bound

-- the lists are within U1, D1 and U2, D2 and obey g; t has an allowed tolerance of which neither part is below their sum, and a gap limit that is not below g
module _ {ts us : List ℕ} {vs ws : List ℤ} {l m : List ℕ} {o o' : List ℤ} {p p' : List ℕ} {n : ℕ} (u d v e : Ratio) (g : ℕ) (s : SumOutcome ts vs us ws l m o p (Ok n) o' p')
    (first : StandsFor ts vs (parted g u d) l) (second : StandsFor us ws (parted g v e) m)
    (t : Limits) (allowed : limit_rows t ≡ Ok tt) (above : AtMost (parts_sum u d v e) (criterion_of t).up) (below : AtMost (parts_sum u d v e) (criterion_of t).down) (limit : g ≤ (criterion_of t).gap) where
  joined_stands : StandsFor ts (sums_of vs ws) (limited g (parts_sum u d v e)) (take n p')
  joined_stands = sum_stands u d v e g s first second

  joined_valid : AllValid (valid ts (sums_of vs ws) (criterion_of t)) (take n p')
  joined_valid =
      let wide : NoWider (limited g (parts_sum u d v e)) (criterion_of t)
      = record { up_some = joined_stands.up_positive; down_some = joined_stands.down_positive; up = above; down = below } in
      each_map (valid_wider ts (sums_of vs ws) (limited g (parts_sum u d v e)) (criterion_of t) wide limit) (take n p') joined_stands.within

  pub sum_judged : (r : Result Verdict Refusal) → JudgeOutcome ts (sums_of vs ws) (take n p') t r → r ≡ Ok Yes
  unfolding judge_rows common_rows
  sum_judged r h =
      let k = joined_stands in
      let trace = trace_rows_lem 4096 ts (sums_of vs ws) k.trace k.trace.few in
      h.passed.1 (rw (trace, allowed) ((row_kept k.trace.some (take n p')).1 k.kept), k.kept, joined_valid)

  pub sum_link_row : link_row ts (sums_of vs ws) (take n p') t ≡ Ok tt
  sum_link_row = rw (le-leb (length (take n p') - 1) (first_invalid ts (sums_of vs ws) (criterion_of t) (take n p')) ((all_valid ts (sums_of vs ws) (criterion_of t) (take n p')).1 joined_valid))

-- ---- how many samples are kept

-- a number that f and g hold of is counted once
counted_once : (f g h : ℕ → Bool) → ((k : ℕ) → h k ≡ true → (f k && g k) ≡ true) → (n : ℕ) → length (listed (λ k. f k || g k) n) + length (listed h n) ≤ length (listed f n) + length (listed g n)
counted_once f g h both zero = omega arith
counted_once f g h both (suc n) = simp length-append (omega (arith, counted_once f g h both n, one (f n) (g n) (h n) (both n)))
  where
    one : (a b c : Bool) → (c ≡ true → (a && b) ≡ true) → length (cond (a || b) (n ∷ []) []) + length (cond c (n ∷ []) []) ≤ length (cond a (n ∷ []) []) + length (cond b (n ∷ []) [])
    one true true true e = omega arith
    one true true false e = omega arith
    one true false false e = omega arith
    one false true false e = omega arith
    one false false false e = omega arith
    one true false true e = true_false (e refl) refl
    one false b true e = true_false (e refl) refl

pub sum_kept : {ts us : List ℕ} {vs ws : List ℤ} {l m : List ℕ} {o : List ℤ} {p : List ℕ} {n : ℕ} {o' : List ℤ} {p' : List ℕ}
    → SumOutcome ts vs us ws l m o p (Ok n) o' p' → n + length (ends (length ts)) ≤ length l + length m
unfolding joined_of
sum_kept {ts} {us} {vs} {ws} {l} {m} {o} {p} s =
    let j = (rows_addable ts vs us ws l m (length o) (length p) s.rows).joinable in
    let both = counted_once (is_entry l) (is_entry m) (is_entry (ends (length ts))) (λ k e. and_true (ends_part (length ts) j.first k e) (ends_part (length ts) j.second k e)) (length ts) in
    rw s.joined.count (rw (entries_listed j.some j.first, entries_listed j.some j.second, entries_listed j.some (ends_kept (length ts) j.some)) at both)

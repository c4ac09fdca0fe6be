-- Laws of `judge`: a list is passed exactly if each of its links is valid, and a no names what makes the first invalid link invalid.
-- Assumes nothing.
use Rattle.std.specs.Prelude.{Result, Ok}
use mathlib.Core.Path.{◌≡◌, sym, ◌∙◌}
use mathlib.Core.Logic.{◌↔◌}
use mathlib.Core.List.{List}
use mathlib.Core.Bool.{false}
use Prim.Native.Nat.{ℕ, suc, ◌-◌, ◌≤◌, ◌<◌}
use native.Mathlib.Decide.{dec_le}
use native.Mathlib.Omega.{arith}
use lib.IntN.{ℤ}
use lib.ListN.{length}
use borrow.Author.Tests.{le-leb, lt-leb, not-true}
use Rattle.lists.proofs.FirstLaws.{first_found}
use Rattle.refusal.specs.declared.Refusal.{Refusal}
use Rattle.refusal.proofs.TableLaws.{then_fine, then_given}
use Rattle.kept.specs.Kept.{KeptList, AllValid}
use Rattle.limits.specs.declared.Limits.{Limits}
use Rattle.trace.specs.declared.Criterion.{Criterion}
use Rattle.measures.specs.declared.Measure.{Measure}
use Rattle.trace.specs.Trace.{Trace}
use Rattle.trace.specs.Link.{valid}
use Rattle.measures.specs.Measure.{Offends}
use Rattle.measures.proofs.MeasureLaws.{fault_offends}
use Rattle.proposed.specs.Proposed.{entry, invalid_at, first_invalid, fault_at}
use Rattle.proposed.proofs.ProposedLaws.{row_kept, kept_link, all_valid}
use Rattle.judging.specs.declared.Verdict.{Verdict}
use Rattle.judging.specs.declared.Verdict.TheVariants.{Yes, No}
use Rattle.limits.specs.Prepare.{common_rows, criterion_of}
use Rattle.judging.specs.Judge.{judge_rows, list_verdict, judge_of, JudgeOutcome}
use Rattle.limits.proofs.PrepareLaws.{common_trace}

-- ---- the verdict

module _ (ts : List ℕ) (vs : List ℤ) (l : List ℕ) (c : Criterion) where
  pub invalid_bound : first_invalid ts vs c l ≤ length l - 1
  unfolding first_invalid
  invalid_bound = (first_found (invalid_at ts vs c l) 0 (length l - 1) (omega arith)).to

  pub verdict_yes : length l - 1 ≤ first_invalid ts vs c l → list_verdict ts vs l c ≡ Yes
  unfolding list_verdict
  verdict_yes h = rw (le-leb (length l - 1) (first_invalid ts vs c l) h)

  verdict_no : first_invalid ts vs c l < length l - 1 → list_verdict ts vs l c ≡ No (first_invalid ts vs c l) (fault_at ts vs c l (first_invalid ts vs c l))
  unfolding list_verdict
  verdict_no h = rw (lt-leb (length l - 1) (first_invalid ts vs c l) h)

  pub no_made : {k : ℕ} {m : Measure} → first_invalid ts vs c l < length l - 1 → k ≡ first_invalid ts vs c l → m ≡ fault_at ts vs c l k → No k m ≡ list_verdict ts vs l c
  no_made h e d = rw (d, e) (sym (verdict_no h))

  yes_verdict : list_verdict ts vs l c ≡ Yes → length l - 1 ≤ first_invalid ts vs c l
  yes_verdict e = elim (dec_le (length l - 1) (first_invalid ts vs c l)) [
    | yes q ↦ q
    | no q ↦ let h = sym (verdict_no (omega arith)) ∙ e in let z : ◌≡◌ {A = ℕ} 0 1 = cc in absurd (omega arith)
  ]

  no_verdict : {k : ℕ} {m : Measure} → list_verdict ts vs l c ≡ No k m → (k < length l - 1) × (first_invalid ts vs c l ≡ k) × (m ≡ fault_at ts vs c l k)
  no_verdict {k} {m} e = elim (dec_le (length l - 1) (first_invalid ts vs c l)) [
    | yes q ↦ let h = sym (verdict_yes q) ∙ e in let z : ◌≡◌ {A = ℕ} 0 1 = cc in absurd (omega arith)
    | no q ↦
        let h = sym (verdict_no (omega arith)) ∙ e in
        let position : first_invalid ts vs c l ≡ k = cc in
        let fault : fault_at ts vs c l (first_invalid ts vs c l) ≡ m = cc in
        (omega arith, position, sym fault ∙ rw position)
  ]

  -- the first invalid link is invalid
  first_is_invalid : {k : ℕ} → first_invalid ts vs c l ≡ k → k < length l - 1 → valid ts vs c (entry l k) (entry l (suc k)) ≡ false
  unfolding first_invalid
  first_is_invalid e h = not-true _ (rw e at ((first_found (invalid_at ts vs c l) 0 (length l - 1) (omega arith)).here (rw e h)))

  -- so a no names what makes it invalid
  no_offends : Trace ts vs → KeptList (length ts - 1) l → (k : ℕ) (m : Measure) → list_verdict ts vs l c ≡ No k m → Offends ts vs c (entry l k) (entry l (suc k)) m
  no_offends t kept k m e =
      let v = no_verdict e in
      rw v.2 (fault_offends (kept_link k t kept v.0) c (first_is_invalid v.1 v.0))

-- ---- the answer

module _ (ts : List ℕ) (vs : List ℤ) (l : List ℕ) where
  -- what the rows say of a trace and a list that none of them refuses
  pub rows_are_trace : (t : Limits) → judge_rows ts vs l t ≡ Ok tt → Trace ts vs
  unfolding judge_rows
  rows_are_trace t h = common_trace ts vs t (then_fine (common_rows ts vs t) _ h).0

  pub rows_kept : (t : Limits) → judge_rows ts vs l t ≡ Ok tt → KeptList (length ts - 1) l
  unfolding judge_rows
  rows_kept t h =
      let a = then_fine (common_rows ts vs t) _ h in
      (row_kept (common_trace ts vs t a.0).some l).0 a.1

  -- demand 2: a list is passed exactly if each of its links is within the tolerance
  pub judge_passes : (t : Limits) → judge_of ts vs l t ≡ Ok Yes ↔ (judge_rows ts vs l t ≡ Ok tt) × KeptList (length ts - 1) l × AllValid (valid ts vs (criterion_of t)) l
  unfolding judge_of
  judge_passes t = (
    λ e. let d = then_given (judge_rows ts vs l t) e in
        (d.0, rows_kept t d.0, (all_valid ts vs (criterion_of t) l).0 (yes_verdict ts vs l (criterion_of t) d.1)),
    λ h. rw (h.0, verdict_yes ts vs l (criterion_of t) ((all_valid ts vs (criterion_of t) l).1 h.2)),
  )

  pub judge_fault : (t : Limits) {k : ℕ} {m : Measure} → judge_of ts vs l t ≡ Ok (No k m) → m ≡ fault_at ts vs (criterion_of t) l k
  unfolding judge_of
  judge_fault t e = (no_verdict ts vs l (criterion_of t) (then_given (judge_rows ts vs l t) e).1).2

  judge_names : (t : Limits) (k : ℕ) (m : Measure) → judge_of ts vs l t ≡ Ok (No k m) → Offends ts vs (criterion_of t) (entry l k) (entry l (suc k)) m
  unfolding judge_of
  judge_names t k m e =
      let d = then_given (judge_rows ts vs l t) e in
      no_offends ts vs l (criterion_of t) (rows_are_trace t d.0) (rows_kept t d.0) k m d.1

-- the contract, from the answer
pub judge_outcome : (ts : List ℕ) (vs : List ℤ) (l : List ℕ) (t : Limits) {r : Result Verdict Refusal} → r ≡ judge_of ts vs l t → JudgeOutcome ts vs l t r
judge_outcome ts vs l t e = record { is = e; passed = rw e (judge_passes ts vs l t); named = rw e (judge_names ts vs l t) }

-- Judge's second question (document 02, "Lists from other labs"), from the contracts alone:
--   walk_passes, gallop_passes   the lists of walk and gallop pass always
--   greedy_judged                a list that passes is passed by judge's first question too
--   link_judged                  where the fault is an invalid link, judge's first question names the same position, with its measure
-- What a call wrote is read from its output: the first n entries, n being the number that it returned.
-- Assumes nothing.
use Rattle.std.specs.Prelude.{Ok, Result}
use mathlib.Core.Path.{◌≡◌, refl, sym, ◌∙◌}
use mathlib.Core.List.{List}
use Prim.Native.Nat.{ℕ, ◌-◌}
use native.Mathlib.Omega.{arith}
use lib.IntN.{ℤ}
use lib.ListN.{length, take}
use Rattle.lists.specs.Overwrite.{Wrote}
use Rattle.lists.proofs.FirstLaws.{first_at}
use Rattle.lists.proofs.OverwriteLaws.{wrote_read}
use Rattle.refusal.proofs.TableLaws.{then_fine}
use Rattle.kept.specs.Kept.{Greedy}
use Rattle.limits.specs.declared.Limits.{Limits}
use Rattle.limits.specs.Prepare.{common_rows, criterion_of, output_rows}
use Rattle.limits.proofs.PrepareLaws.{common_trace}
use Rattle.proposed.specs.Proposed.{invalid_at, first_invalid, fault_at}
use Rattle.proposed.proofs.ProposedLaws.{row_kept}
use Rattle.reduction.specs.declared.Galloped.{Galloped}
use Rattle.judging.specs.declared.Verdict.{Verdict}
use Rattle.judging.specs.declared.Verdict.TheVariants.{Yes, No}
use Rattle.judging.specs.Judge.{judge_rows, judge_of, JudgeOutcome}
use Rattle.judging.proofs.JudgeLaws.{no_made}
use Rattle.greedy.specs.declared.GreedyVerdict.{GreedyVerdict}
use Rattle.greedy.specs.declared.GreedyVerdict.TheVariants.{Yes as Passed, Link}
use Rattle.greedy.specs.Greedy.{JudgeGreedyOutcome}
use Rattle.greedy.proofs.GreedyLaws.{answered}
use Rattle.engine.specs.Reduce.{ok_of, GreedyList, WalkOutcome, GallopOutcome}
use Rattle.refusal.specs.declared.Refusal.{Refusal}

module _ (ts : List ℕ) (vs : List ℤ) (t : Limits) where
  -- a greedy list passes where the rows before 6 do
  greedy_passes : {l : List ℕ} → common_rows ts vs t ≡ Ok tt → Greedy (ok_of ts vs t) (length ts - 1) l → (r : Result GreedyVerdict Refusal) → JudgeGreedyOutcome ts vs l t r → r ≡ Ok Passed
  unfolding judge_rows
  greedy_passes {l} rows g r h = h.passed.1 (rw rows ((row_kept (common_trace ts vs t rows).some l).1 g.kept), g)

  written_passes : {l o o' : List ℕ} {n : ℕ} → output_rows ts vs t (length o) ≡ Ok tt → Wrote l o n o' → GreedyList ts vs t l → (r : Result GreedyVerdict Refusal) → JudgeGreedyOutcome ts vs (take n o') t r → r ≡ Ok Passed
  unfolding output_rows
  written_passes e w g = greedy_passes (then_fine (common_rows ts vs t) _ e).0 (rw (wrote_read w) (record { kept = g.kept; valid = g.within; maximal = g.maximal }))

  pub walk_passes : {o o' : List ℕ} {n : ℕ} → WalkOutcome ts vs t o (Ok n) o' → (r : Result GreedyVerdict Refusal) → JudgeGreedyOutcome ts vs (take n o') t r → r ≡ Ok Passed
  walk_passes h = written_passes h.rows h.wrote h.list

  pub gallop_passes : {o o' : List ℕ} {g : Galloped} → GallopOutcome ts vs t o (Ok g) o' → (r : Result GreedyVerdict Refusal) → JudgeGreedyOutcome ts vs (take g.kept o') t r → r ≡ Ok Passed
  gallop_passes h = written_passes h.rows h.wrote h.list

  pub greedy_judged : {l : List ℕ} → JudgeGreedyOutcome ts vs l t (Ok Passed) → (r : Result Verdict Refusal) → JudgeOutcome ts vs l t r → r ≡ Ok Yes
  greedy_judged h r o = let p = h.passed.0 refl in o.passed.1 (p.0, p.1.kept, p.1.valid)

  pub link_judged : {l : List ℕ} {k : ℕ} → JudgeGreedyOutcome ts vs l t (Ok (Link k)) → (r : Result Verdict Refusal) → JudgeOutcome ts vs l t r → r ≡ Ok (No k (fault_at ts vs (criterion_of t) l k))
  unfolding judge_of first_invalid
  link_judged {l} {k} h r o =
      let rows = (answered ts vs l t (sym h.is)).0 in
      let f = h.link k refl in
      let e : first_invalid ts vs (criterion_of t) l ≡ k
      = first_at {f = invalid_at ts vs (criterion_of t) l} (omega arith) f.first.position (record { none = λ m a lt. rw (f.first.before m lt).valid }) (rw f.invalid) in
      o.is ∙ rw (rows, sym (no_made ts vs l (criterion_of t) (omega (arith, f.first.position)) (sym e) refl))

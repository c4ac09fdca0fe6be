-- What `measure` and `judge` say of where a line strays, from their contracts alone.
--   measure_within   each sample of a link is within p/q exactly if the error that `measure` gives is at most p/q
--   no_error         the error beside judge's no is the one that `measure` gives of the link
--   no_measure       all that is beside it is what `measure` gives, unless it says "gap"
-- Assumes nothing.
use Rattle.std.specs.Prelude.{Ok}
use mathlib.Core.Path.{◌≡◌, refl, sym, ap, ◌∙◌}
use mathlib.Core.Logic.{◌↔◌}
use mathlib.Core.List.{List}
use Prim.Native.Nat.{ℕ, suc}
use lib.IntN.{ℤ}
use Rattle.ratio.specs.declared.Ratio.{Ratio}
use Rattle.ratio.specs.Order.{AtMost}
use Rattle.measures.specs.declared.Measure.{Measure}
use Rattle.trace.specs.declared.Side.TheVariants.{Gap}
use Rattle.trace.specs.Link.{AllWithin, criterion}
use Rattle.trace.proofs.Errors.{within_link_error}
use Rattle.measures.proofs.MeasureLaws.{fault_error, fault_measure}
use Rattle.proposed.specs.Proposed.{entry}
use Rattle.limits.specs.declared.Limits.{Limits}
use Rattle.judging.specs.declared.Verdict.TheVariants.{No}
use Rattle.limits.specs.Prepare.{criterion_of}
use Rattle.judging.specs.Measure.{MeasureOutcome}
use Rattle.judging.specs.Judge.{JudgeOutcome}
use Rattle.judging.proofs.MeasureLaws.{measure_is}
use Rattle.judging.proofs.JudgeLaws.{judge_fault}

pub measure_within : {ts : List ℕ} {vs : List ℤ} {i j : ℕ} {m : Measure} → MeasureOutcome ts vs i j (Ok m) → (r : Ratio) → AllWithin ts vs (criterion r) i j ↔ AtMost m.error r
measure_within {ts} {vs} {i} {j} {m} o r = rw (measure_is ts vs i j o.is) (within_link_error (o.strays m refl).0 r 1048575)

module _ {ts : List ℕ} {vs : List ℤ} {l : List ℕ} {t : Limits} {k : ℕ} {m n : Measure} (no : JudgeOutcome ts vs l t (Ok (No k m))) (o : MeasureOutcome ts vs (entry l k) (entry l (suc k)) (Ok n)) where
  pub no_error : m.error ≡ n.error
  no_error =
      ap (λ (x : Measure). x.error) (judge_fault ts vs l t (sym no.is)) ∙ fault_error (o.strays n refl).0 (criterion_of t)
      ∙ ap (λ (x : Measure). x.error) (sym (measure_is ts vs (entry l k) (entry l (suc k)) o.is))

  pub no_measure : (m.side ≡ Gap → ⊥) → m ≡ n
  no_measure other =
      let e = judge_fault ts vs l t (sym no.is) in
      e ∙ fault_measure (o.strays n refl).0 (criterion_of t) (λ g. other (ap (λ (x : Measure). x.side) e ∙ g)) ∙ sym (measure_is ts vs (entry l k) (entry l (suc k)) o.is)

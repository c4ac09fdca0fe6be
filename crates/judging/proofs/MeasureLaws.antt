-- Laws of `measure`: what its rows do not refuse is a link of a trace, and what they say by cases.
-- Assumes nothing.
use Rattle.std.specs.Prelude.{Result, Ok}
use mathlib.Core.Path.{◌≡◌, sym}
use mathlib.Core.List.{List}
use Prim.Native.Nat.{ℕ}
use native.Mathlib.Omega.{arith}
use lib.IntN.{ℤ}
use Rattle.refusal.specs.declared.Refusal.{Refusal}
use Rattle.refusal.proofs.TableLaws.{then_fine, then_given}
use Rattle.measures.specs.declared.Measure.{Measure}
use Rattle.trace.specs.Link.{Linked}
use Rattle.measures.specs.Measure.{measure_of, Strays}
use Rattle.trace.proofs.TraceLaws.{rows_trace}
use Rattle.measures.proofs.MeasureLaws.{measure_strays}
use Rattle.proposed.proofs.ProposedLaws.{ends_linked}
use Rattle.judging.specs.Measure.{own_rows, measure_rows, measured_by, MeasureOutcome}

module _ (ts : List ℕ) (vs : List ℤ) (i j : ℕ) where
  rows_link : measure_rows ts vs i j ≡ Ok tt → Linked ts vs i j
  unfolding measure_rows
  rows_link h =
      let a = then_fine (own_rows ts vs) _ h in
      ends_linked i j (rows_trace 4096 ts vs (omega arith) a.0).0 a.1

  measure_says : (m : Measure) → measured_by ts vs i j ≡ Ok m → Linked ts vs i j × Strays ts vs i j m
  unfolding measured_by
  measure_says m e =
      let d = then_given (measure_rows ts vs i j) e in
      let link = rows_link d.0 in
      (link, rw (← d.1) (measure_strays link))

  -- what is measured is the link's measure
  pub measure_is : {m : Measure} → Ok m ≡ measured_by ts vs i j → m ≡ measure_of ts vs i j
  unfolding measured_by
  measure_is e = sym (then_given (measure_rows ts vs i j) (sym e)).1

  -- the contract, from the answer
  pub measure_outcome : {r : Result Measure Refusal} → r ≡ measured_by ts vs i j → MeasureOutcome ts vs i j r
  measure_outcome e = record { is = e; strays = rw e measure_says }

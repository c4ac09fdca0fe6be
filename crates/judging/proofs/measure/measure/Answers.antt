-- `judging::measure::measure` meets its contract. Assumes nothing.
use Rattle.std.proofs.Common.{arith, sym}
use Rattle.trace.proofs.TraceLaws.{rows_trace}
use Rattle.proposed.proofs.ProposedLaws.{ends_linked}
use Rattle.judging.specs.Measure.{measured_by, measure_rows}
use Rattle.judging.proofs.MeasureLaws.{measure_outcome}
use Rattle.judging.proofs.measure.measure.Goals as goal

pub link_measure-requires : goal.link_measure-requires
link_measure-requires c =
    ends_linked _ _ (rows_trace 4096 _ _ (omega arith) (sym c.in_ok-check.ensures)).0 (sym c.in_ok-check_ends.ensures)

pub returns : goal.returns
unfolding measured_by measure_rows
returns c = measure_outcome _ _ _ _ (rw (c.link_measure.ensures.is, sym c.in_ok-check.ensures, sym c.in_ok-check_ends.ensures))

-- `live::added` meets its contract. Assumes nothing.
use Rattle.std.proofs.Common.{sym}
use Rattle.live.specs.Live.{add_rows}
use Rattle.live.proofs.Full.{full}
use Rattle.live.proofs.LiveLaws.{rows_are_trace, rows_ready, grown_holds}
use Rattle.live.proofs.added.Goals as goal

pub overflow_sub-ticks : goal.overflow_sub-ticks
overflow_sub-ticks c = (rows_are_trace (sym c.in_ok-check.ensures)).some

pub grow-requires : goal.grow-requires
grow-requires c = rows_ready _ (sym c.in_ok-check.ensures) (sym c.in_ok-check_state.ensures)

pub returns : goal.returns
unfolding add_rows
returns c =
    let passed = sym c.in_ok-check.ensures in
    let view = sym c.in_ok-check_state.ensures in
    grown_holds (rows_ready _ passed view) (rw (passed, view)) (full c.args.view c.well_formed.0) c.grow.ensures

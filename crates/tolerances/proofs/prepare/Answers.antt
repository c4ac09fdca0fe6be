-- `tolerances::prepare` meets its contract. Assumes nothing.
use Rattle.std.proofs.Common.{arith, sym}
use native.Mathlib.Nat.{mul-le-mul}
use Rattle.tolerances.proofs.TolerancesLaws.{short, scan_ready, fine_few}
use Rattle.tolerances.proofs.prepare.Goals as goal

pub overflow_mul-t : goal.overflow_mul-t
overflow_mul-t c =
    let a = c.args in
    omega (arith, mul-le-mul (fine_few a.t.count (sym c.in_ok-check_count.ensures)) (short a.ticks.now a.values.now a.t a.gap a.room (sym c.in_ok-check.ensures)))

pub returns : goal.returns
returns c =
    let a = c.args in
    scan_ready a.ticks.now a.values.now a.t a.gap a.room (sym c.in_ok-check.ensures) (sym c.in_ok-check_count.ensures) c.in_ok-hold_each.ensures (sym c.in_ok-check_gap.ensures) (sym c.in_ok-check_room.ensures)

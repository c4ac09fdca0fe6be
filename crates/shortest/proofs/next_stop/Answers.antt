-- `shortest::next_stop` meets its contract: each turn scans one end more, and the scan is complete at the last sample and where the cone is closed. Assumes nothing.
use Prim.Native.Nat.{◌≤◌}
use native.Mathlib.Omega.{arith}
use Rattle.shortest.proofs.ShortestLaws.{end_inside, first_end, scanning_none, aim_requires, end_tilt, end_slope, end_across, ends_room, scanning_first, scanning_valid, scanning_invalid, scanned_all, scanned_closed}
use Rattle.shortest.proofs.next_stop.Goals as goal
use Rattle.shortest.proofs.next_stop.Goals.{then-admits, else-admits+else-is_closed_by}

pub cone_of-cone-requires : goal.cone_of-cone-requires
cone_of-cone-requires c =
    let pre = c.requires.0 in
    end_tilt pre (scanning_none pre c.start_at-from.ensures) (first_end pre) c.start_at-from.ensures c.aim_at.ensures

pub overflow_add-j-end : goal.overflow_add-j-end
overflow_add-j-end c = omega (arith, end_inside c.requires.0, c.requires.0.trace.few)

pub loop-j-init : goal.loop-j-init
loop-j-init c =
    scanning_first c.requires.0 c.start_at-from.ensures c.aim_at.ensures c.cone_of-cone.ensures

pub aim_at-to-requires : goal.aim_at-to-requires
aim_at-to-requires c =
    aim_requires c.requires.0 c.loop-j.invariant (omega (arith, c.loop-j-test.true)) c.start_at-from.ensures

pub admits-requires : goal.admits-requires
admits-requires c =
    (c.loop-j.invariant.fits, end_slope c.requires.0 c.loop-j.invariant (omega (arith, c.loop-j-test.true)) c.start_at-from.ensures c.aim_at-to.ensures)

pub better-b-requires : goal.better-b-requires
better-b-requires c =
    ends_room c.requires.0 c.loop-j.invariant (omega (arith, c.loop-j-test.true)) c.start_at-from.ensures

pub is_closed_by-requires : goal.is_closed_by-requires
is_closed_by-requires c =
    let pre = c.requires in
    (c.loop-j.invariant.fits, end_across pre.0 c.loop-j.invariant (omega (arith, c.loop-j-test.true)) c.start_at-from.ensures c.aim_at-to.ensures pre.1)

pub returns-then-is_closed_by : goal.returns-then-is_closed_by
returns-then-is_closed_by c =
    let pre = c.requires in
    scanned_closed pre.0 c.loop-j.invariant (omega (arith, c.loop-j-test.true)) c.start_at-from.ensures c.aim_at-to.ensures pre.1
    c.admits.ensures c.if-admits.false c.is_closed_by.ensures c.if-is_closed_by.true

pub extended-cone-requires : goal.extended-cone-requires
extended-cone-requires c =
    (c.loop-j.invariant.fits, end_tilt c.requires.0 c.loop-j.invariant (omega (arith, c.loop-j-test.true)) c.start_at-from.ensures c.aim_at-to.ensures)

pub loop-j-preserved : goal.loop-j-preserved
loop-j-preserved c =
    let pre = c.requires.0 in
    let t : c.loop-j.j ≤ c.args.limit = omega (arith, c.loop-j-test.true) in
    let s = c.start_at-from.ensures in
    elim c.if-admits.branch [
      | then-admits w ↦ rw w.b-is (scanning_valid pre c.loop-j.invariant t s c.aim_at-to.ensures c.extended-cone.ensures c.admits.ensures w.if-admits.true w.better-b.ensures)
      | else-admits+else-is_closed_by w ↦ rw w.b-is (scanning_invalid pre c.loop-j.invariant t s c.aim_at-to.ensures c.extended-cone.ensures c.admits.ensures w.if-admits.false)
    ]

pub returns : goal.returns
returns c = scanned_all c.requires.0 c.loop-j.invariant (omega (arith, c.loop-j-test.false))

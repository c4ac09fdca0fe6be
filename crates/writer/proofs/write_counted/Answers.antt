-- `writer::write_counted` meets its contract: there is room for the record from the place on, and it is written over that part; or nothing is.
-- Assumes nothing.
use Rattle.std.proofs.Common.{sym, arith}
use borrow.Author.Tests.{leb-true}
use Rattle.refusal.proofs.TableLaws.{row_fine}
use Rattle.format.proofs.ParseEncode.{record_long}
use Rattle.writer.specs.Writing.{selected}
use Rattle.writer.proofs.SelectedLaws.{selected_legal}
use Rattle.writer.proofs.WritingLaws.{wrote}
use Rattle.writer.proofs.write_counted.Goals as goal

pub slice_bounds-put_record-count : goal.slice_bounds-put_record-count
slice_bounds-put_record-count c =
    let a = c.args in
    omega (arith, leb-true _ _ (row_fine _ _ (sym c.in_ok-check_room.ensures)), c.record_length-n.ensures.is, record_long (selected a.held a.ticks.now a.values.now a.list.now))

pub slice_bounds-put_record-start : goal.slice_bounds-put_record-start
slice_bounds-put_record-start c =
    let a = c.args in
    omega (arith, leb-true _ _ (row_fine _ _ (sym c.in_ok-check_room.ensures)), c.record_length-n.ensures.is, record_long (selected a.held a.ticks.now a.values.now a.list.now))

pub returns : goal.returns
returns c =
    let a = c.args in
    let x = selected a.held a.ticks.now a.values.now a.list.now in
    let n = c.record_length-n.ensures in
    let fits = leb-true _ _ (row_fine _ _ (sym c.in_ok-check_room.ensures)) in
    wrote x a.buffer.now a.place n.is (selected_legal c.requires.0 a.held c.requires.1 (λ k. omega (arith, c.shared_slice_known-1.given k)) n.range) (omega (arith, fits, n.is, record_long x)) (omega (arith, fits)) c.put_record.ensures.0

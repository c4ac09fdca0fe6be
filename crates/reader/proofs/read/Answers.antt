-- `reader::read` meets its contract: what the count says of the record is its outcome. Assumes nothing.
use Rattle.std.proofs.Common.{refl, sym, ◌∙◌}
use Rattle.std.proofs.lemmas.Result.{err_from_is_err_and}
use Rattle.format.proofs.NumberLaws.{bytes_fit}
use Rattle.reader.proofs.ReadingLaws.{parse_fault, header_after_first, counted, rows_of, room, read_back, read_fault}
use Rattle.reader.proofs.read.Goals as goal

pub returns-in_err-header : goal.returns-in_err-header
returns-in_err-header c =
    let p = err_from_is_err_and c.from_residual.result c.from_residual.ensures.1 in
    rw (p.1, p.2) (read_fault c.args.ticks.now c.args.values.now (parse_fault c.args.bytes.now (sym c.in_err-header.ensures)))

pub count_samples-requires : goal.count_samples-requires
count_samples-requires c = header_after_first (bytes_fit c.type_inv.bytes) (sym c.in_ok-header.ensures)

pub returns-in_err-content : goal.returns-in_err-content
returns-in_err-content c =
    let p = err_from_is_err_and c.from_residual-in_err-content.result c.from_residual-in_err-content.ensures.1 in
    rw (p.1, p.2) (read_fault c.args.ticks.now c.args.values.now (counted (bytes_fit c.type_inv.bytes) (sym c.in_ok-header.ensures) c.in_err-content.ensures))

pub returns-in_err-check_room : goal.returns-in_err-check_room
returns-in_err-check_room c =
    let p = err_from_is_err_and c.from_residual-in_err-check_room.result c.from_residual-in_err-check_room.ensures.1 in
    let s = counted (bytes_fit c.type_inv.bytes) (sym c.in_ok-header.ensures) c.in_ok-content.ensures in
    rw (p.1, p.2) (record { rows = rows_of s _ _ ∙ rw (← c.in_err-check_room.ensures); ticks = refl; values = refl })

pub returns-in_err-check_room-2 : goal.returns-in_err-check_room-2
returns-in_err-check_room-2 c =
    let p = err_from_is_err_and c.from_residual-in_err-check_room-2.result c.from_residual-in_err-check_room-2.ensures.1 in
    let s = counted (bytes_fit c.type_inv.bytes) (sym c.in_ok-header.ensures) c.in_ok-content.ensures in
    rw (p.1, p.2) (record { rows = rows_of s _ _ ∙ rw (← c.in_ok-check_room.ensures, ← c.in_err-check_room-2.ensures); ticks = refl; values = refl })

pub fill-requires : goal.fill-requires
fill-requires c =
    let h = sym c.in_ok-header.ensures in
    let s = counted (bytes_fit c.type_inv.bytes) h c.in_ok-content.ensures in
    (header_after_first (bytes_fit c.type_inv.bytes) h, room s h c.args.ticks.now c.args.values.now c.in_ok-check_room.ensures c.in_ok-check_room-2.ensures)

pub returns : goal.returns
returns c =
    let h = sym c.in_ok-header.ensures in
    let s = counted (bytes_fit c.type_inv.bytes) h c.in_ok-content.ensures in
    read_back s h _ _ c.in_ok-check_room.ensures c.in_ok-check_room-2.ensures c.fill.ensures

-- `reader::check` meets its contract: the header and the count of samples are the record's verdict. Assumes nothing.
use Rattle.std.proofs.Common.{sym}
use Rattle.std.proofs.lemmas.Result.{err_from_is_err_and}
use Rattle.format.proofs.NumberLaws.{bytes_fit}
use Rattle.reader.proofs.ReadingLaws.{parse_fault, header_after_first, counted}
use Rattle.reader.proofs.check.Goals as goal

pub returns-in_err-header : goal.returns-in_err-header
returns-in_err-header c =
    let p = err_from_is_err_and c.from_residual.result c.from_residual.ensures.1 in
    rw (p.1, p.2) (parse_fault c.args.bytes.now (sym c.in_err-header.ensures))

pub count_samples-requires : goal.count_samples-requires
count_samples-requires c = header_after_first (bytes_fit c.type_inv.bytes) (sym c.in_ok-header.ensures)

pub returns : goal.returns
returns c = counted (bytes_fit c.type_inv.bytes) (sym c.in_ok-header.ensures) c.count_samples.ensures

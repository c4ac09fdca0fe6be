-- `engine::scan::scan` meets its contract. Assumes nothing.
use Rattle.engine.proofs.ScanLaws.{scan_given, scan_kept}
use Rattle.engine.proofs.scan.scan.Goals as goal

pub scan-requires : goal.scan-requires
scan-requires c = scan_given _ c.in_ok-parts.ensures

pub returns : goal.returns
returns c = scan_kept _ c.in_ok-parts.ensures c.scan.ensures

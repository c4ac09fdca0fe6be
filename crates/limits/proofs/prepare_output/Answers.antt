-- `limits::prepare_output` meets its contract. Assumes nothing.
use Rattle.std.proofs.Common.{sym}
use borrow.Author.Tests.{leb-true}
use Rattle.refusal.proofs.TableLaws.{row_fine}
use Rattle.limits.proofs.PrepareLaws.{room_fine}
use Rattle.limits.proofs.prepare_output.Goals as goal

pub returns : goal.returns
returns c = room_fine _ _ _ _ c.in_ok-c.ensures (leb-true _ _ (row_fine _ _ (sym c.in_ok-check_room.ensures)))

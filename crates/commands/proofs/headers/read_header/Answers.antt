-- `commands::headers::read_header` meets its contract. Assumes nothing.
use Rattle.std.proofs.Common.{arith}
use Rattle.format.proofs.NumberLaws.{bytes_fit}
use Rattle.commands.proofs.CommandsAt.{read_at}
use Rattle.commands.proofs.headers.read_header.Goals as goal

pub read_first-requires : goal.read_first-requires
read_first-requires c = ((read_at (bytes_fit c.type_inv.bytes) 0 c.in-Tolerance.ensures).whole, omega arith)

pub read_first-requires-in-Sides : goal.read_first-requires-in-Sides
read_first-requires-in-Sides c = ((read_at (bytes_fit c.type_inv.bytes) 0 c.in-Sides.ensures).whole, omega arith)

-- `writer::commands::put_end` meets its contract. Assumes nothing.
use Rattle.format.specs.Number.{bytes_onto}
use Rattle.writer.proofs.commands.put_end.Goals as goal

pub returns : goal.returns
unfolding bytes_onto
returns c = c.put_operands.ensures

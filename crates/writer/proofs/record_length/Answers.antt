-- `writer::record_length` meets its contract: it is that of the tolerance and of the samples. Assumes nothing.
use mathlib.Core.Path.{refl}
use Rattle.writer.proofs.WritingLaws.{whole_length}
use Rattle.writer.proofs.record_length.Goals as goal

pub returns : goal.returns
returns c = whole_length c.args.held c.tolerance_size.ensures.0 c.samples_length.ensures.0 refl

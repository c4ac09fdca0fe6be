-- `writer::samples::sample_at` meets its contract: the list's entry is a sample of the trace. Assumes nothing.
use native.Mathlib.Omega.{arith}
use Rattle.writer.proofs.SelectedLaws.{entry_inside}
use Rattle.writer.proofs.samples.sample_at.Goals as goal

pub start_at-s-requires : goal.start_at-s-requires
start_at-s-requires c =
    let h = entry_inside c.requires.0 c.args.i c.requires.1 in
    (omega (arith, c.from.ensures), omega (arith, c.from.ensures, c.requires.0.trace.same))

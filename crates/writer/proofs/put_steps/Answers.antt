-- `writer::put_steps` meets its contract: at each turn the steps up to a kept sample, w, are written over the part. Assumes nothing.
use native.Mathlib.Omega.{arith}
use Rattle.lists.proofs.PartLaws.{part_length}
use Rattle.writer.proofs.SelectedLaws.{step_between}
use Rattle.writer.proofs.WritingLaws.{counts, count_ends, put_ends, step_room, puts, end_room}
use Rattle.writer.proofs.put_steps.Goals as goal

pub put_step-at-requires : goal.put_step-at-requires
put_step-at-requires c = (
  step_between c.requires.0 (omega arith) c.loop-i.invariant.1.sample c.sample_at-to.ensures,
  rw (part_length c.loop-i.part c.loop-i.at) (omega (arith, step_room c.requires.0 c.loop-i.invariant.1 (omega arith) c.sample_at-to.ensures)),
)

pub loop-i-preserved : goal.loop-i-preserved
loop-i-preserved c = (
  _,
  puts c.requires.0 c.loop-i.invariant.1 (omega arith) c.sample_at-to.ensures c.put_step-at.ensures.1 c.put_step-at.ensures.0,
  counts c.requires.0 c.loop-i.invariant.2 (omega arith) c.sample_at-to.ensures c.put_step-at.ensures.1 c.put_step-at.ensures.2,
)

pub put_end-requires : goal.put_end-requires
put_end-requires c =
    rw (part_length c.loop-i.part c.loop-i.at) (omega (arith, end_room c.requires.0 c.loop-i.invariant.1 (omega arith)))

pub returns : goal.returns
returns c = (put_ends c.requires.0 c.loop-i.invariant.1 (omega arith) c.put_end.ensures, count_ends c.requires.0 c.loop-i.invariant.2 (omega arith))

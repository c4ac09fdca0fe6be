-- `writer::samples_length` meets its contract: at each turn the bytes of the steps up to a kept sample are counted. Assumes nothing.
use native.Mathlib.Omega.{arith}
use Rattle.writer.proofs.SelectedLaws.{list_few, step_between}
use Rattle.writer.proofs.WritingLaws.{samples_length, counts, count_ends}
use Rattle.writer.proofs.samples_length.Goals as goal

pub step_size-total-requires : goal.step_size-total-requires
step_size-total-requires c =
    step_between c.requires (omega arith) c.loop-i.invariant.sample c.sample_at-to.ensures

pub overflow_add-total : goal.overflow_add-total
overflow_add-total c =
    omega (arith, c.loop-i.invariant.small, c.loop-i.invariant.within, list_few c.requires, c.step_size-total.ensures.1)

pub loop-i-preserved : goal.loop-i-preserved
loop-i-preserved c =
    counts c.requires c.loop-i.invariant (omega arith) c.sample_at-to.ensures c.step_size-total.ensures.0 c.step_size-total.ensures.1

pub overflow_add-result : goal.overflow_add-result
overflow_add-result c =
    omega (arith, c.loop-i.invariant.small, c.loop-i.invariant.within, list_few c.requires)

pub overflow_add-result-2 : goal.overflow_add-result-2
overflow_add-result-2 c =
    omega (arith, c.loop-i.invariant.small, c.loop-i.invariant.within, list_few c.requires)

pub returns : goal.returns
returns c =
    let k = c.requires in
    (samples_length k (count_ends k c.loop-i.invariant (omega arith)) (omega arith), omega (arith, c.loop-i.invariant.small, c.loop-i.invariant.within, list_few k))

-- `commands::passes::count_samples` meets its contract: at each turn the samples passed, with those to come, are the whole. Assumes nothing.
use Rattle.std.proofs.Common.{sym, ◌∙◌}
use Rattle.format.proofs.NumberLaws.{bytes_fit}
use Rattle.commands.proofs.PassLaws.{falls, goes_on_lem, closes}
use Rattle.commands.proofs.StepLaws.{sample_known, sample_none}
use Rattle.commands.proofs.passes.count_samples.Goals as goal

pub loop-next-smaller : goal.loop-next-smaller
loop-next-smaller c = falls c.loop-next.invariant.2 (bytes_fit c.type_inv.bytes) (sample_known _ (sym c.in-Some.ensures))

pub loop-next-preserved : goal.loop-next-preserved
loop-next-preserved c = (_, _, goes_on_lem c.loop-next.invariant.2 (bytes_fit c.type_inv.bytes) (sample_known _ (sym c.in-Some.ensures)))

pub returns : goal.returns
returns c = c.close.ensures ∙ closes c.loop-next.invariant.2 _ (sample_none _ (sym c.step.ensures ∙ c.in_default.is))

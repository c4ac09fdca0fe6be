-- `verdicts::verdict_of` meets its contract. Assumes nothing.
use Rattle.verdicts.proofs.SumLaws.{judged}
use Rattle.verdicts.proofs.verdict_of.Goals as goal

pub returns : goal.returns
returns c = judged c.of-a.ensures c.of-b.ensures c.requires.same c.moved.ensures c.noisy.ensures

-- `verdicts::sums::Sums::of` meets its contract: the loop has the sums of the values before v. Assumes nothing.
use Rattle.verdicts.proofs.SumLaws.{Halved}
use Rattle.verdicts.proofs.sums.Sums.of.Given as goal

abbrev pub invariant-loop-v : goal.invariant-loop-v
invariant-loop-v l = Halved l.values l.sum l.low l.high l.v-index

-- `scans::passes::close` meets its contract. Assumes nothing.
use Rattle.scans.proofs.PassLaws.{ClosingTo}
use Rattle.scans.proofs.passes.close.Given as goal

abbrev pub invariant-loop-a : goal.invariant-loop-a
invariant-loop-a l = ClosingTo l.n l.walks l.initial.out l.a l.counts l.out

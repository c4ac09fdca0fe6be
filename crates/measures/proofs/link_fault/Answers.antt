-- `measures::link_fault` meets its contract. Assumes nothing.
use Rattle.std.proofs.Common.{rules}
use Rattle.measures.specs.Measure.{fault_of}
use Rattle.measures.proofs.link_fault.Goals as goal

pub returns-then-all_within : goal.returns-then-all_within
unfolding fault_of
returns-then-all_within c = search rules

pub returns-else-all_within : goal.returns-else-all_within
unfolding fault_of
returns-else-all_within c = search rules

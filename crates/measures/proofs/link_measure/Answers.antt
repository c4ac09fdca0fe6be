-- `measures::link_measure` meets its contract. Assumes nothing.
use Rattle.trace.specs.Link.{link_error}
use Rattle.trace.proofs.Errors.{lowest_allowed}
use Rattle.measures.proofs.MeasureLaws.{stray_inside}
use Rattle.measures.proofs.link_measure.Goals as goal

pub side_at-requires : goal.side_at-requires
side_at-requires c =
    let k = stray_inside c.requires c.link_stray-s.ensures.is in
    (c.requires, k.0, k.1)

pub returns-clause-is : goal.returns-clause-is
unfolding link_error
returns-clause-is c = rw (c.reduce.ensures, c.side_at.ensures, c.link_stray-s.ensures.is)

pub returns-clause-allowed : goal.returns-clause-allowed
returns-clause-allowed c = rw c.reduce.ensures (lowest_allowed c.link_stray-s.ensures.allowed)

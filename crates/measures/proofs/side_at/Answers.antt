-- `measures::side_at` meets its contract. Assumes nothing.
use mathlib.Core.Path.{◌∙◌}
use Rattle.trace.proofs.EdgeLaws.{distance_requires, side_is}
use Rattle.measures.proofs.side_at.Goals as goal

pub edge_side-requires : goal.edge_side-requires
edge_side-requires c =
    let pre = c.requires in
    distance_requires pre.0 pre.1 pre.2 c.start_at-from.ensures c.edge_to-to.ensures c.edge_to.ensures

pub returns : goal.returns
returns c =
    let pre = c.requires in
    c.edge_side.ensures ∙ side_is pre.0 pre.1 pre.2 c.start_at-from.ensures c.edge_to-to.ensures c.edge_to.ensures

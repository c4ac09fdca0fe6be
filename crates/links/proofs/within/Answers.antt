-- `links::within` meets its contract. Assumes nothing.
use mathlib.Core.Path.{◌∙◌}
use Rattle.trace.proofs.EdgeLaws.{parts_requires, parts_test}
use Rattle.links.proofs.within.Goals as goal

pub in_parts-requires : goal.in_parts-requires
in_parts-requires c =
    let pre = c.requires in
    let slopes = parts_requires pre.0 pre.2 pre.3 c.start_at-from.ensures c.edge_to-to.ensures c.edge_to-e.ensures in
    (slopes.0, slopes.1, slopes.2, pre.1)

pub returns : goal.returns
returns c =
    let pre = c.requires in
    c.in_parts.ensures ∙ parts_test pre.0 pre.2 pre.3 c.start_at-from.ensures c.edge_to-to.ensures c.edge_to-e.ensures _

-- `measures::link_stray` meets its contract: the loop has the greatest deviation of the samples before k. Assumes nothing.
use borrow.Author.Rules.{rules}
use Rattle.trace.proofs.EdgeLaws.{edge_at, distance_requires as slopes, distance_measures}
use Rattle.measures.proofs.MeasureLaws.{straying_none, straying_more, straying_all, straying_allowed}
use Rattle.measures.proofs.link_stray.Goals as goal

pub loop-k-init : goal.loop-k-init
loop-k-init c = straying_none c.requires (edge_at c.start_at-from.ensures c.edge_to-to.ensures).run

pub distance-requires : goal.distance-requires
distance-requires c =
    slopes c.requires (search rules) (search rules) c.start_at-from.ensures c.edge_to-to.ensures c.edge_to-e.ensures

pub loop-k-preserved : goal.loop-k-preserved
loop-k-preserved c =
    straying_more c.loop-k.invariant c.loop-k-test.true
    (distance_measures c.requires (search rules) (search rules) c.start_at-from.ensures c.edge_to-to.ensures c.edge_to-e.ensures c.distance.ensures)
    c.or_farther-s.ensures

pub returns : goal.returns
returns c =
    let link = c.requires in
    let m = c.loop-k.invariant in
    record { is = straying_all link m c.loop-k-test.false; allowed = straying_allowed link m }

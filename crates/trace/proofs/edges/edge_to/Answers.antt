-- `trace::edges::edge_to` meets its contract. Assumes nothing.
use Rattle.std.proofs.Common.{arith}
use Rattle.trace.proofs.Ticks.{not_earlier}
use Rattle.trace.proofs.edges.edge_to.Goals as goal

pub overflow_sub-run : goal.overflow_sub-run
overflow_sub-run c =
    let pre = c.requires in
    omega (arith, pre.start.tick, not_earlier pre.trace.rising pre.after pre.inside)

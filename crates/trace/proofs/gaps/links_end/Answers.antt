-- `trace::gaps::links_end` meets its contract. Assumes nothing.
use Rattle.std.proofs.Common.{arith}
use Rattle.trace.proofs.Holes.{run_bounds}
use Rattle.trace.proofs.gaps.links_end.Goals as goal

pub end_of-requires : goal.end_of-requires
end_of-requires c =
    let pre = c.requires in
    let b = run_bounds _ _ _ pre.1 c.first_hole.ensures in
    (b.0, omega (arith, b.1, pre.0.few))

-- `live::candidates::cheapest_at` meets its contract. Assumes nothing.
use mathlib.Core.Path.{sym, ◌∙◌}
use native.Mathlib.Omega.{arith}
use Rattle.live.specs.Candidates.{with_last, deviation_at}
use Rattle.live.proofs.CandidateLaws.{best_first, best_next, best_last, cheapest_cost}
use Rattle.live.proofs.candidates.cheapest_at.Goals as goal

pub loop-i-init : goal.loop-i-init
loop-i-init c =
    let a = c.args in
    (rw c.cost_at.ensures.is (sym (best_first (deviation_at a.ticks.now a.values.now (with_last a.ticks.now a.samples.now a.count)))), c.cost_at.ensures.allowed)

pub loop-i-preserved : goal.loop-i-preserved
loop-i-preserved c =
    let l = c.loop-i in
    let a = c.args in
    (best_next (deviation_at a.ticks.now a.values.now (with_last a.ticks.now a.samples.now a.count)) l.i l.invariant.0 c.cost_at-in-loop-i.ensures.is c.or_cheaper-best.ensures.is, c.or_cheaper-best.ensures.allowed)

pub returns : goal.returns
returns c =
    let l = c.loop-i in
    let a = c.args in
    let best = best_last (deviation_at a.ticks.now a.values.now (with_last a.ticks.now a.samples.now a.count)) l.i a.count l.invariant.0 (omega (arith, l.auto.i-end (omega (arith, c.requires.1)), c.loop-i-test.false)) (omega arith) in
    record { is = best.0 ∙ cheapest_cost c.requires.0; inner = best.1 }

-- `greedy::verdict` meets its contract. The loop's invariant: no link before position k is at fault, and `limit` is where links from that position's sample
-- end, if it lies beyond. Assumes nothing.
use mathlib.Core.Path.{◌∙◌}
use native.Mathlib.Numerals.{add-one}
use native.Mathlib.Omega.{arith}
use Rattle.lists.proofs.FirstLaws.{searching_none}
use Rattle.trace.proofs.Holes.{end_same}
use Rattle.proposed.specs.Proposed.{entry}
use Rattle.proposed.proofs.ProposedLaws.{kept_link}
use Rattle.greedy.proofs.GreedyLaws.{found_none, found_link, found_stop, sound_more}
use Rattle.greedy.proofs.verdict.Goals as goal

pub loop-k-init : goal.loop-k-init
loop-k-init c = (searching_none (omega arith), λ lt. absurd (omega arith))

pub limit_from-limit-requires : goal.limit_from-limit-requires
limit_from-limit-requires c =
    let l = kept_link c.loop-k.k c.requires.0 c.requires.2 c.loop-k-test.true in
    (l.trace, rw c.ends_at-link.ensures (omega (arith, l.forward, l.inside)), rw c.ends_at-link.ensures c.loop-k.invariant.1)

pub test-requires : goal.test-requires
test-requires c =
    (rw c.ends_at-link.ensures (kept_link c.loop-k.k c.requires.0 c.requires.2 c.loop-k-test.true), c.requires.1, c.limit_from-limit.ensures)

pub returns-in-Invalid : goal.returns-in-Invalid
returns-in-Invalid c =
    let a = c.args in
    found_link a.ticks.now a.values.now a.list.now a.c c.loop-k.invariant.0 c.loop-k-test.true (rw c.ends_at-link.ensures at c.in-Invalid.ensures)

pub returns-in-Further : goal.returns-in-Further
returns-in-Further c =
    let a = c.args in
    let f = rw c.ends_at-link.ensures at c.in-Further.ensures in
    found_stop a.ticks.now a.values.now a.list.now a.c c.loop-k.invariant.0 c.loop-k-test.true f.0 f.1

pub loop-k-preserved : goal.loop-k-preserved
loop-k-preserved c =
    let a = c.args in
    let l = kept_link c.loop-k.k c.requires.0 c.requires.2 c.loop-k-test.true in
    let f = rw c.ends_at-link.ensures at c.in-Maximal.ensures in (
      sound_more a.ticks.now a.values.now a.list.now a.c c.loop-k.invariant.0 c.loop-k-test.true f.0 f.1,
      rw (add-one c.loop-k.k) (λ lt. (end_same a.ticks.now a.c.gap {i = entry a.list.now c.loop-k.k} (omega (arith, l.forward, l.inside)) (c.limit_from-limit.ensures ∙ rw c.ends_at-link.ensures) (omega (arith, l.forward)) lt).1),
    )

pub returns : goal.returns
returns c =
    let a = c.args in
    found_none a.ticks.now a.values.now a.list.now a.c c.loop-k.invariant.0 c.loop-k-test.false

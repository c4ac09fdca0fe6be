-- `probing::Probing::probe` meets its contract: each way out is a law of the probe. Assumes nothing.
use native.Mathlib.Omega.{arith}
use Rattle.probing.proofs.ProbingLaws.{inside, probes_later, probes_next, far_next, probed_past, probed_fails, probed_invalid, probed_yes}
use Rattle.probing.proofs.Probing.probe.Goals as goal

pub returns-then-self-end : goal.returns-then-self-end
returns-then-self-end c = probed_past c.requires c.if-self-end.true

pub passes-requires : goal.passes-requires
passes-requires c = probes_later c.requires c.if-self-end.false

pub returns-then-not-passes : goal.returns-then-not-passes
returns-then-not-passes c =
    probed_fails c.requires c.if-self-end.false (c.passes.ensures (c.if-not-passes.true))

pub taken_to-far-requires : goal.taken_to-far-requires
taken_to-far-requires c =
    let pre = c.requires in
    (probes_next pre c.if-self-end.false, omega (arith, pre.further), c.if-self-end.false, inside pre c.if-self-end.false)

pub reaches-requires : goal.reaches-requires
reaches-requires c = far_next c.requires c.if-self-end.false c.taken_to-far.ensures

pub returns-then-not-reaches : goal.returns-then-not-reaches
returns-then-not-reaches c =
    probed_invalid c.requires c.if-self-end.false c.taken_to-far.ensures (c.if-not-reaches.true) c.reaches.ensures

pub taken-self-requires : goal.taken-self-requires
taken-self-requires c = far_next c.requires c.if-self-end.false c.taken_to-far.ensures

pub returns : goal.returns
returns c =
    let pre = c.requires in
    probed_yes pre c.if-self-end.false c.taken_to-far.ensures (c.if-not-reaches.false) c.reaches.ensures c.taken-self.ensures

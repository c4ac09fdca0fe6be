-- `trace::gaps::first_hole` meets its contract: the loop has found none in the passes before i. Assumes nothing.
use Rattle.std.proofs.Common.{rules, ap, not, ◌≡◌, ◌+◌, ◌*◌, ◌-◌, ◌/◌, ◌∙◌, arith}
use Rattle.lists.proofs.FirstLaws.{clear_join, first_skip}
use Rattle.trace.specs.Link.{hole}
use Rattle.trace.proofs.gaps.first_hole.Goals as goal

pub loop-i-preserved : goal.loop-i-preserved
loop-i-preserved c =
    let s = c.loop-i.invariant in
    let a = c.args.a in
    let i = c.loop-i.i in
    let none = (c.some_where.ensures (hole c.args.ticks.now c.args.gap) (λ k here l u p. search rules)).holds (ap not c.if-some_where.false) in
    let e : a + 64 * (i + 1) ≡ a + 64 * i + 64 = omega arith in
    rw e (record { from = omega arith; to = omega arith; clear = clear_join s.clear none })

pub returns : goal.returns
returns c =
    let s = c.loop-i.invariant in
    let e : (c.args.b - c.args.a) / 64 ≡ c.loop-i.i = omega arith in
    let f = c.first_where-2.ensures (hole c.args.ticks.now c.args.gap) (λ k here l u p. search rules) in
    rw e at f ∙ first_skip _ _ _ _ s.from s.to s.clear

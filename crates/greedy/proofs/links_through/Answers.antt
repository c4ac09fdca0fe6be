-- `greedy::links_through` meets its contract. Assumes nothing.
use Rattle.std.proofs.Common.{ℕ, ◌≡◌, ◌+◌, sym, subst, arith}
use Rattle.trace.proofs.Validity.{step_valid}
use Rattle.outgoing.specs.Outgoing.{TakenIn}
use Rattle.outgoing.proofs.OutgoingLaws.{next_at}
use Rattle.greedy.proofs.links_through.Goals as goal

-- a link of one step: its end has been taken in
pub returns-then-j-i : goal.returns-then-j-i
returns-then-j-i c =
    let a = c.args in (
      step_valid a.ticks.now a.values.now a.c a.i a.j c.if-j-i.true,
      subst (λ (n : ℕ). TakenIn a.ticks.now a.values.now a.c a.i (n + 1) c.links_past-next.result) (sym c.if-j-i.true) c.links_past-next.ensures,
    )

pub taken_to-links-requires : goal.taken_to-links-requires
taken_to-links-requires c =
    let a = c.args in
    let link = c.requires.0 in
    let e : a.i + 1 + 1 ≡ a.i + 2 = omega arith in
    let long = c.if-j-i.false in (
      next_at (subst (λ (n : ℕ). TakenIn a.ticks.now a.values.now a.c a.i n c.links_past-next.result) e c.links_past-next.ensures)
          link.trace c.requires.1 (omega arith) (omega (arith, long, link.forward, c.requires.2, c.requires.3)) (omega (arith, long, link.forward, link.inside)),
      omega (arith, long, link.forward),
      omega (arith, c.links_past-next.ensures.limit, c.requires.2, c.requires.3),
      link.inside,
    )

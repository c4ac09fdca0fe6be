-- `greedy::test` meets its contract. Assumes nothing.
use Rattle.std.proofs.Common.{◌+◌, sym, ◌∙◌, arith}
use Rattle.outgoing.proofs.OutgoingLaws.{valid_at}
use Rattle.greedy.proofs.GreedyLaws.{no_further, next_ready, further_valid}
use Rattle.greedy.proofs.test.Goals as goal

pub returns-then-reaches_limit : goal.returns-then-reaches_limit
returns-then-reaches_limit c =
    (sym c.reaches_limit.ensures ∙ c.if-reaches_limit.true, no_further c.args.c c.requires.0 (omega (arith, c.if-limit-j.true, c.requires.2)))

pub reaches-requires : goal.reaches-requires
reaches-requires c =
    next_ready c.args.c c.requires.0 (omega (arith, c.if-limit-j.false, c.requires.2)) c.requires.1 c.in-Some.ensures.1

pub returns-then-reaches : goal.returns-then-reaches
returns-then-reaches c = (
  c.in-Some.ensures.0,
  further_valid c.args.c c.requires.0 (omega (arith, c.if-limit-j.false, c.requires.2))
      ∙ sym (valid_at c.in-Some.ensures.1 (c.args.j + 1) c.reaches.ensures) ∙ c.if-reaches.true,
)

pub returns-else-reaches : goal.returns-else-reaches
returns-else-reaches c = (
  c.in-Some.ensures.0,
  further_valid c.args.c c.requires.0 (omega (arith, c.if-limit-j.false, c.requires.2))
      ∙ sym (valid_at c.in-Some.ensures.1 (c.args.j + 1) c.reaches.ensures) ∙ c.if-reaches.false,
)

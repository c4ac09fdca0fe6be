-- `greedy::reaches_limit` meets its contract. Assumes nothing.
use Rattle.std.proofs.Common.{sym, ◌∙◌, arith}
use Rattle.std.proofs.lemmas.Bool.{lt-leb}
use Rattle.greedy.proofs.GreedyLaws.{past_invalid, limit_valid}
use Rattle.greedy.proofs.reaches_limit.Goals as goal

pub returns-then-j-limit : goal.returns-then-j-limit
returns-then-j-limit c =
    c.all_within.ensures ∙ sym (limit_valid c.args.c c.requires.0 (omega (arith, c.if-j-limit.true, c.requires.2)))

pub returns-else-j-limit : goal.returns-else-j-limit
returns-else-j-limit c =
    lt-leb _ _ c.if-j-limit.false ∙ sym (past_invalid c.args.c c.requires.0 (omega (arith, c.if-j-limit.false, c.requires.2)))

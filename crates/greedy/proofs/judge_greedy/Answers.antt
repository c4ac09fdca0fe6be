-- `greedy::judge_greedy` meets its contract. Assumes nothing.
use Rattle.std.proofs.Common.{sym}
use Rattle.proposed.proofs.ProposedLaws.{row_kept}
use Rattle.judging.specs.Judge.{judge_rows}
use Rattle.greedy.specs.Greedy.{judge_greedy_of}
use Rattle.greedy.proofs.GreedyLaws.{greedy_outcome}
use Rattle.greedy.proofs.judge_greedy.Goals as goal

pub verdict-requires : goal.verdict-requires
verdict-requires c =
    let r = c.in_ok-c.ensures in
    (r.trace, r.bounded, (row_kept r.trace.some _).0 (sym c.in_ok-check.ensures))

pub returns : goal.returns
unfolding judge_greedy_of judge_rows
returns c =
    let r = c.in_ok-c.ensures in
    greedy_outcome _ _ _ _ (rw (c.verdict.ensures, r.is, r.rows, sym c.in_ok-check.ensures))

-- `engine::write::write` meets its contract. Assumes nothing.
use Rattle.std.proofs.Common.{rules, arith, refl, sym}
use Rattle.judging.specs.Judge.{judge_rows}
use Rattle.judging.proofs.JudgeLaws.{invalid_bound}
use Rattle.engine.specs.Write.{write_rows}
use Rattle.engine.proofs.WriteLaws.{list_ready, kept_at, link_declines, outcome}
use Rattle.engine.proofs.write.write.Goals as goal

pub returns-in_err-c : goal.returns-in_err-c
unfolding write_rows judge_rows
returns-in_err-c c = search rules

pub returns-in_err-check : goal.returns-in_err-check
unfolding write_rows judge_rows
returns-in_err-check c = search rules

pub first_invalid-k-requires : goal.first_invalid-k-requires
first_invalid-k-requires c =
    let r = list_ready c.in_ok-c.ensures (sym c.in_ok-check.ensures) in
    (r.ready.trace, r.ready.bounded, r.kept)

pub overflow_add-k : goal.overflow_add-k
overflow_add-k c =
    omega (arith, c.first_invalid-k.ensures, invalid_bound c.args.ticks.now c.args.values.now c.args.list.now c.in_ok-c.c)

pub returns-then-k-list : goal.returns-then-k-list
returns-then-k-list c =
    (link_declines (list_ready c.in_ok-c.ensures (sym c.in_ok-check.ensures)) c.args.buffer.now c.args.place c.first_invalid-k.ensures (omega (arith, c.if-k-list.true)), refl)

pub write-requires : goal.write-requires
write-requires c = kept_at (list_ready c.in_ok-c.ensures (sym c.in_ok-check.ensures))

pub returns : goal.returns
returns c =
    outcome (list_ready c.in_ok-c.ensures (sym c.in_ok-check.ensures)) c.args.buffer.now c.args.place c.first_invalid-k.ensures _ _ (omega (arith, c.if-k-list.false)) c.write.ensures

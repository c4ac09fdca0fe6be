-- `writer::commands::put_tolerance` meets its contract: each way writes the command that says its parts. Assumes nothing.
use mathlib.Core.Path.{sym, ◌∙◌}
use Prim.Native.Nat.{◌≤◌}
use native.Mathlib.Omega.{arith}
use lib.ListN.{length}
use Rattle.format.proofs.HeaderLaws.{agree_command, sides_command}
use Rattle.writer.proofs.commands.put_tolerance.Goals as goal

pub put_operands-requires : goal.put_operands-requires
put_operands-requires c =
    let w : 9 ≤ length c.args.part.now = rw (agree_command _ (sym c.agree.ensures ∙ c.if-agree.true)) at c.requires in
    (omega arith, omega arith, omega arith)

pub returns-then-agree : goal.returns-then-agree
returns-then-agree c =
    (rw (agree_command _ (sym c.agree.ensures ∙ c.if-agree.true)) c.put_operands.ensures, rw (agree_command _ (sym c.agree.ensures ∙ c.if-agree.true)))

pub put_sides-requires : goal.put_sides-requires
put_sides-requires c = rw (sides_command _ (sym c.agree.ensures ∙ c.if-agree.false)) at c.requires

pub returns-else-agree : goal.returns-else-agree
returns-else-agree c =
    (rw (sides_command _ (sym c.agree.ensures ∙ c.if-agree.false)) c.put_sides.ensures, rw (sides_command _ (sym c.agree.ensures ∙ c.if-agree.false)))

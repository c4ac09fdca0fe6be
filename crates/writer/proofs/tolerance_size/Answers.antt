-- `writer::tolerance_size` meets its contract. Assumes nothing.
use mathlib.Core.Path.{sym, ◌∙◌}
use native.Mathlib.Omega.{arith}
use Rattle.format.proofs.HeaderLaws.{agree_command, sides_command}
use Rattle.writer.proofs.tolerance_size.Goals as goal

pub returns-then-agree : goal.returns-then-agree
returns-then-agree c = (rw (agree_command _ (sym c.agree.ensures ∙ c.if-agree.true)), omega arith)

pub returns-else-agree : goal.returns-else-agree
returns-else-agree c = (rw (sides_command _ (sym c.agree.ensures ∙ c.if-agree.false)), omega arith)

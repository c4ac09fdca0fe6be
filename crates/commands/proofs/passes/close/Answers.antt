-- `commands::passes::close` meets its contract. Assumes nothing.
use borrow.Author.Tests.{eq-eqb, ne_eqb}
use Rattle.format.specs.Format.{end_step}
use Rattle.commands.proofs.StepLaws.{other_fault}
use Rattle.commands.proofs.passes.close.Goals as goal

pub returns-in_default : goal.returns-in_default
returns-in_default c = rw (← c.command_at.ensures, other_fault _ _ _ c.in_default.not-End (rw (← c.command_at.ensures) at c.requires.1))

pub returns-then-samples-c : goal.returns-then-samples-c
unfolding end_step
returns-then-samples-c c = rw (← c.in-End.ensures, ne_eqb _ _ c.if-samples-c.true)

pub returns-then-c-bytes : goal.returns-then-c-bytes
unfolding end_step
returns-then-c-bytes c = rw (← c.in-End.ensures, eq-eqb _ _ c.if-samples-c.false, ne_eqb _ _ c.if-c-bytes.true)

pub returns : goal.returns
unfolding end_step
returns c = rw (← c.in-End.ensures, eq-eqb _ _ c.if-samples-c.false, eq-eqb _ _ c.if-c-bytes.false)

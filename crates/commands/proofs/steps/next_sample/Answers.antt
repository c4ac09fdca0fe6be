-- `commands::steps::next_sample` meets its contract. Assumes nothing.
use Rattle.std.proofs.Common.{arith}
use Rattle.lists.proofs.Tests.{true_false}
use Rattle.format.proofs.NumberLaws.{bytes_fit}
use Rattle.commands.proofs.CommandsAt.{read_at}
use Rattle.commands.proofs.StepLaws.{short_known, long_known, other_sample}
use Rattle.commands.proofs.steps.next_sample.Goals as goal

pub overflow_add-result-in-Short : goal.overflow_add-result-in-Short
overflow_add-result-in-Short c = omega (arith, (read_at (bytes_fit c.type_inv.bytes) c.args.c.at c.in-Short.ensures).operands)

pub overflow_add-result-in-Short-2 : goal.overflow_add-result-in-Short-2
overflow_add-result-in-Short-2 c = omega (arith, (read_at (bytes_fit c.type_inv.bytes) c.args.c.at c.in-Short.ensures).operands)

pub overflow_sub-result : goal.overflow_sub-result
overflow_sub-result c = (short_known _ _ _ (rw (← c.in-Short.ensures) at c.requires.1)).0

pub overflow_add-result-in-Long-2 : goal.overflow_add-result-in-Long-2
overflow_add-result-in-Long-2 c = omega (arith, (read_at (bytes_fit c.type_inv.bytes) c.args.c.at c.in-Long.ensures).operands)

pub unreachable-requires : goal.unreachable-requires
unreachable-requires c =
    true_false (rw (← c.command_at.ensures) at c.requires.1) (other_sample _ _ _ c.in_default.not-Short c.in_default.not-Long)

pub returns-in-Short : goal.returns-in-Short
returns-in-Short c = rw (← c.in-Short.ensures) (short_known _ _ _ (rw (← c.in-Short.ensures) at c.requires.1)).1

pub returns-in-Long : goal.returns-in-Long
returns-in-Long c = rw (← c.in-Long.ensures) (long_known _ _ _ (rw (← c.in-Long.ensures) at c.requires.1))

-- `commands::command::command_at` meets its contract. Assumes nothing.
use Rattle.std.proofs.Common.{sym, arith}
use Rattle.format.specs.declared.Kind.TheVariants.{Tolerance, Sides, First, Short, Long, End}
use Rattle.commands.proofs.CommandsAt.{tolerance_at, sides_at, first_at, short_at, long_at, end_at, nothing_at, unknown_at, cut_at}
use Rattle.commands.proofs.command.command_at.Goals as goal

pub returns-then-left-eq0 : goal.returns-then-left-eq0
returns-then-left-eq0 c = sym (nothing_at _ _ c.requires (omega arith))

pub returns-in-Ok-Tolerance : goal.returns-in-Ok-Tolerance
returns-in-Ok-Tolerance c = rw c.ratio_at.ensures (sym (tolerance_at _ _ c.requires (rw c.in-Ok-Tolerance.field-0-is at c.in-Ok-Tolerance.ensures) (omega arith)))

pub returns-in-Ok-Sides : goal.returns-in-Ok-Sides
returns-in-Ok-Sides c = rw (c.ratio_at-in-Ok-Sides.ensures, c.ratio_at-in-Ok-Sides-2.ensures) (sym (sides_at _ _ c.requires (rw c.in-Ok-Sides.field-0-is at c.in-Ok-Sides.ensures) (omega arith)))

pub returns-in-Ok-First : goal.returns-in-Ok-First
returns-in-Ok-First c = rw (c.field.ensures.0, c.flip16.ensures, c.field-in-Ok-First.ensures.0) (sym (first_at _ _ c.requires (rw c.in-Ok-First.field-0-is at c.in-Ok-First.ensures) (omega arith)))

pub returns-in-Ok-Short : goal.returns-in-Ok-Short
returns-in-Ok-Short c = rw (c.field-in-Ok-Short.ensures.0, c.flip8.ensures, c.field-in-Ok-Short-2.ensures.0) (sym (short_at _ _ c.requires (rw c.in-Ok-Short.field-0-is at c.in-Ok-Short.ensures) (omega arith)))

pub returns-in-Ok-Long : goal.returns-in-Ok-Long
returns-in-Ok-Long c = rw (c.field-in-Ok-Long.ensures.0, c.flip16-in-Ok-Long.ensures, c.field-in-Ok-Long-2.ensures.0) (sym (long_at _ _ c.requires (rw c.in-Ok-Long.field-0-is at c.in-Ok-Long.ensures) (omega arith)))

pub returns-in-Ok-End : goal.returns-in-Ok-End
returns-in-Ok-End c = rw c.field-in-Ok-End.ensures.0 (sym (end_at _ _ c.requires (rw c.in-Ok-End.field-0-is at c.in-Ok-End.ensures) (omega arith)))

pub returns-in_default : goal.returns-in_default
returns-in_default c = sym (cut_at _ _ c.requires Tolerance (rw c.in-Ok-Tolerance.field-0-is at c.in-Ok-Tolerance.ensures) (omega arith))

pub returns-in_default-2 : goal.returns-in_default-2
returns-in_default-2 c = sym (cut_at _ _ c.requires Sides (rw c.in-Ok-Sides.field-0-is at c.in-Ok-Sides.ensures) (omega arith))

pub returns-in_default-3 : goal.returns-in_default-3
returns-in_default-3 c = sym (cut_at _ _ c.requires First (rw c.in-Ok-First.field-0-is at c.in-Ok-First.ensures) (omega arith))

pub returns-in_default-4 : goal.returns-in_default-4
returns-in_default-4 c = sym (cut_at _ _ c.requires Short (rw c.in-Ok-Short.field-0-is at c.in-Ok-Short.ensures) (omega arith))

pub returns-in_default-5 : goal.returns-in_default-5
returns-in_default-5 c = sym (cut_at _ _ c.requires Long (rw c.in-Ok-Long.field-0-is at c.in-Ok-Long.ensures) (omega arith))

pub returns-in_default-6 : goal.returns-in_default-6
returns-in_default-6 c = sym (cut_at _ _ c.requires End (rw c.in-Ok-End.field-0-is at c.in-Ok-End.ensures) (omega arith))

pub returns-in_default-7 : goal.returns-in_default-7
returns-in_default-7 c = sym (unknown_at _ _ c.requires (rw c.in_default.is at c.try_from.ensures).1)

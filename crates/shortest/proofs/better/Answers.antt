-- `shortest::better` meets its contract. Assumes nothing.
use mathlib.Core.Path.{refl}
use native.Mathlib.Omega.{arith}
use Rattle.shortest.proofs.ShortestLaws.{better_longer, better_valid}
use Rattle.shortest.proofs.better.Goals as goal

pub returns-then-links-b : goal.returns-then-links-b
returns-then-links-b c = better_longer _ _ _ _ _ (omega (arith, c.if-links-b.true))

pub returns-else-links-b : goal.returns-else-links-b
returns-else-links-b c = better_valid _ _ _ _ _ (omega (arith, c.if-links-b.false)) refl

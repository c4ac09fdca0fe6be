-- `commands::passes::value` meets its contract: the level fits an i64, and the difference an i16. Assumes nothing.
use Rattle.std.proofs.Common.{arith}
use Rattle.std.proofs.lemmas.Int.{ints}
use Rattle.format.specs.Number.{value_of}
use Rattle.commands.proofs.passes.value.Goals as goal

pub returns : goal.returns
unfolding value_of
returns c = omega (arith, ints)

-- `proposed::first_bad` meets its contract: it searches only where an entry is bad. Assumes nothing.
use Rattle.std.proofs.Common.{sym, arith}
use Rattle.lists.proofs.FirstLaws.{first_none}
use Rattle.proposed.proofs.first_bad.Goals as goal

pub returns-else-some_bad : goal.returns-else-some_bad
returns-else-some_bad c = sym (first_none (omega arith) (c.some_bad.ensures c.if-some_bad.false))

-- `checking::hold::hold` meets its contract. Assumes nothing.
use Rattle.std.proofs.Common.{rules}
use Rattle.checking.proofs.HoldLaws.{hold_outcome}
use Rattle.checking.proofs.hold.hold.Goals as goal

pub returns : goal.returns
returns c = hold_outcome c.args.t c.meaning_of.ensures (search rules)

-- `ratio::Bracket::whole` meets its contract: p - 1 = q f + r. Assumes nothing.
use Rattle.std.proofs.Common.{arith}
use Rattle.ratio.proofs.FareyLaws.{whole_begun}
use Rattle.ratio.proofs.Bracket.whole.Goals as goal

pub returns : goal.returns
returns c limit s = whole_begun s _ _ (omega (arith, s.some, s.top)) (omega (arith, s.some, s.top))

-- `turns::Walk::turn` meets its contract. Assumes nothing.
use mathlib.Core.Path.{sym, ◌∙◌}
use Rattle.turns.proofs.HeldLaws.{turned_further, turned_anew}
use Rattle.turns.proofs.Walk.turn.Goals as goal

pub returns-then-goes_on : goal.returns-then-goes_on
returns-then-goes_on c n a inside = rw c.narrow.ensures (turned_further c.requires n a inside (sym c.goes_on.ensures ∙ c.if-goes_on.true))

pub returns : goal.returns
returns c n a inside = turned_anew c.requires n a inside (sym c.goes_on.ensures ∙ c.if-goes_on.false) (rw c.restart.ensures at c.keep.ensures.next) (rw c.restart.ensures at c.keep.ensures.kept)

-- `closest::search::halve` meets its contract. Assumes nothing.
use mathlib.Core.Path.{sym, ◌∙◌}
use borrow.Author.Tests.{leb-false}
use Rattle.closest.proofs.ClosestLaws.{below_allowed, narrowed_none, narrowed_fit}
use Rattle.closest.proofs.search.halve.Goals as goal

pub trial-requires : goal.trial-requires
trial-requires c =
    let pre = c.requires in
    (pre.0, below_allowed c.middle-x.ensures pre.2.allowed (leb-false _ _ (sym c.at_most.ensures ∙ c.if-at_most.false)))

pub returns-in-Some : goal.returns-in-Some
returns-in-Some c =
    narrowed_fit _ c.requires.1 (leb-false _ _ (sym c.at_most.ensures ∙ c.if-at_most.false)) c.in-Some.ensures

pub returns-in-None : goal.returns-in-None
returns-in-None c =
    let pre = c.requires in
    narrowed_none (below_allowed c.middle-x.ensures pre.2.allowed (leb-false _ _ (sym c.at_most.ensures ∙ c.if-at_most.false))) pre.2

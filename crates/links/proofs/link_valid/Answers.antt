-- `links::link_valid` meets its contract. Assumes nothing.
use mathlib.Core.Path.{sym, ◌∙◌}
use borrow.Author.Tests.{eq-eqb, lt-leb}
use Rattle.trace.proofs.Holes.{first_obeys, first_cuts}
use Rattle.trace.proofs.Validity.{step_valid, hole_invalid, obeying_valid}
use Rattle.links.proofs.link_valid.Goals as goal

pub returns-then-j-i : goal.returns-then-j-i
returns-then-j-i c = eq-eqb _ _ c.if-j-i.true ∙ sym (step_valid _ _ _ _ _ c.if-j-i.true)

pub returns-then-first_hole-j : goal.returns-then-first_hole-j
returns-then-first_hole-j c =
    c.all_within.ensures ∙ sym (obeying_valid _ _ _ _ _ (first_obeys _ _ _ _ c.requires.0.forward c.first_hole.ensures c.if-first_hole-j.true))

pub returns-else-first_hole-j : goal.returns-else-first_hole-j
returns-else-first_hole-j c =
    let e = first_cuts _ _ _ _ c.requires.0.forward c.first_hole.ensures c.if-j-i.false c.if-first_hole-j.false in
    lt-leb _ _ c.if-first_hole-j.false ∙ sym (hole_invalid _ _ _ _ _ e)

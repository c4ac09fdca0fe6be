-- `turns::bounds::margin` meets its contract: the difference fits. Assumes nothing.
use mathlib.Core.Path.{◌∙◌}
use mir.Syntax.{w64}
use mir.ValLaws.{to_z-of_z}
use Rattle.trace.proofs.Climbs.{apart_fits}
use Rattle.turns.proofs.bounds.margin.Goals as goal

pub returns : goal.returns
returns c =
    let x = c.climb_over in
    let y = c.climb_over-2 in
    to_z-of_z w64 _ (apart_fits c.requires.0 c.requires.1 x.ensures y.ensures)
    ∙ rw (to_z-of_z w64 x.result (record { sfits = x.type_inv }), to_z-of_z w64 y.result (record { sfits = y.type_inv }), x.ensures, y.ensures)

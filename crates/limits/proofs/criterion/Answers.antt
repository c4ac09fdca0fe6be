-- `limits::criterion` meets its contract. Assumes nothing.
use mathlib.Core.Path.{sym, ◌∙◌}
use Rattle.limits.proofs.PrepareLaws.{exact_sets}
use Rattle.limits.proofs.criterion.Goals as goal

pub returns : goal.returns
returns c = exact_sets c.args.t (sym c.meaning_of.ensures ∙ c.in_ok-parts.ensures.ok_part) (sym c.in_ok-check_gap.ensures)

-- `tolerance::of_counts` meets its contract: n / 64 is the float's fraction, so its lowest terms are. Assumes nothing.
use Rattle.std.proofs.Common.{sym, refl, ap, ◌∙◌, lit<, lit≤, Some}
use lib.Ieee.Positive.{num, den, den_pos}
use Rattle.ratio.proofs.Laws.{lowest_same}
use Rattle.tolerance.specs.Meaning.{alike}
use Rattle.tolerance.proofs.Values.{read_whole}
use Rattle.tolerance.proofs.of_counts.Goals as goal

pub take_steps-requires-clause-by_index : goal.take_steps-requires-clause-by_index
take_steps-requires-clause-by_index c = (6, refl, lit≤ tt)

pub returns : goal.returns
returns c =
    let x = c.args.x in
    let n = c.in_ok-n.n in
    let is = read_whole x 64 65535 n (sym c.in_ok-n.ensures) in
    simp is.0 (ap Some (c.alike.ensures ∙ ap alike (c.reduce.ensures ∙ lowest_same n 64 (num x) (den x) (lit< tt) (den_pos x) (sym is.1.1))))

-- `verdicts::sums::Sums::of` meets its contract: the loop has the sums of the values before v. Assumes nothing.
use native.Mathlib.Omega.{arith}
use lib.IntN.{pos}
use mir.Syntax.{w16}
use Rattle.std.specs.Prelude.{FitsSigned, get_or}
use borrow.Author.Rules.{rules}
use Rattle.std.proofs.lemmas.Int.{ints, to_z-of_z}
use Rattle.verdicts.proofs.SumLaws.{halved_more, halved_root}
use Rattle.verdicts.proofs.sums.Sums.of.Goals as goal

pub loop-v-preserved : goal.loop-v-preserved
loop-v-preserved c =
    let short : FitsSigned w16 (get_or c.args.values.now c.loop-v.v-index (pos 0)) = search rules in
    let square = simp to_z-of_z at c.square-x.ensures in
    halved_more c.loop-v.invariant c.loop-v-test.true short (omega (arith, ints)) square.0 square.1

pub invariant_of-result-clause-root : goal.invariant_of-result-clause-root
invariant_of-result-clause-root c = rw (c.from.ensures, c.from-2.ensures) (halved_root c.loop-v.invariant c.loop-v-test.false)

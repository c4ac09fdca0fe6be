-- `reader::same` meets its contract: where no row applies, both records are accepted. Assumes nothing.
use Rattle.std.proofs.Common.{sym}
use Rattle.std.proofs.lemmas.Bool.Decides.{Decides-eqb}
use Rattle.std.proofs.lemmas.Slice.Eq.{slice_eq-Decides}
use Rattle.lists.proofs.Tests.{true_false}
use Rattle.reader.proofs.ReadingLaws.{checked, same_yes, same_no}
use Rattle.reader.proofs.same.Goals as goal

pub returns-then-eq : goal.returns-then-eq
returns-then-eq c =
    let a = c.args.a.now in
    let b = c.args.b.now in
    let t = checked c.check-2.result c.check-2.ensures (sym c.in_ok-map_err.ensures.variant) in
    same_yes c.in_ok-check.ensures t.2 ((slice_eq-Decides Decides-eqb a b c.eq.result c.eq.ensures).0 c.if-eq.true)

pub returns-else-eq : goal.returns-else-eq
returns-else-eq c =
    let a = c.args.a.now in
    let b = c.args.b.now in
    let t = checked c.check-2.result c.check-2.ensures (sym c.in_ok-map_err.ensures.variant) in
    same_no c.in_ok-check.ensures t.2 (λ e. true_false ((slice_eq-Decides Decides-eqb a b c.eq.result c.eq.ensures).1 e) c.if-eq.false)

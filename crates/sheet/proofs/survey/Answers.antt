-- `sheet::survey` meets its contract: the loop has the rows and the totals of the channels before i. Assumes nothing.
use mathlib.Core.Path.{refl}
use native.Mathlib.Nat.{lt_of_le_of_lt}
use native.Mathlib.Omega.{arith}
use Rattle.sheet.proofs.ReportLaws.{surveying_none, surveying_ticks, surveying_values, surveying_few, surveying_more, surveying_all}
use Rattle.sheet.proofs.survey.Goals as goal

pub loop-i-init : goal.loop-i-init
loop-i-init c = surveying_none _ _ _ _ _ refl

pub part_row-row-requires : goal.part_row-row-requires
part_row-row-requires c =
    let h = c.loop-i.invariant in
    let lt = c.loop-i-test.true in
    (c.requires.0, omega (arith, surveying_ticks h c.requires.1 lt), omega (arith, surveying_values h c.requires.1 lt))

pub with-totals-requires : goal.with-totals-requires
with-totals-requires c =
    let h = c.loop-i.invariant in
    let f = surveying_few h c.requires.1.few in
    (f.0, f.1, h.bounds.allowed, c.part_row-row.ensures.bounds)

pub overflow_add-at : goal.overflow_add-at
overflow_add-at c =
    record { fits = lt_of_le_of_lt (surveying_ticks c.loop-i.invariant c.requires.1 c.loop-i-test.true) c.well_formed.0.0 }

pub loop-i-preserved : goal.loop-i-preserved
loop-i-preserved c =
    surveying_more c.loop-i.invariant c.loop-i-test.true c.requires.1.few c.part_row-row.ensures.is c.part_row-row.ensures.bounds c.with-totals.ensures

pub returns : goal.returns
returns c = surveying_all c.loop-i.invariant (omega (arith, c.loop-i-test.false))

-- `sheet::walked` meets its contract: the part of the array that is lent is walk's list. Assumes nothing.
use Rattle.sheet.proofs.ReportLaws.{walked_room, walked_length, walked_kept, walked_few, walked_row_lem}
use Rattle.sheet.proofs.walked.Goals as goal

pub slice_bounds-list-end : goal.slice_bounds-list-end
slice_bounds-list-end c = let a = c.args in walked_room a.ticks.now a.values.now a.c c.walk-kept.ensures

pub slice_bounds-list_stray-end : goal.slice_bounds-list_stray-end
slice_bounds-list_stray-end c = let a = c.args in walked_length a.ticks.now a.values.now a.c c.walk-kept.ensures

pub list_stray-worst-requires : goal.list_stray-worst-requires
list_stray-worst-requires c =
    (c.requires.0, walked_kept c.args.ticks.now c.args.values.now c.args.c c.walk-kept.ensures)

pub returns : goal.returns
returns c =
    let w = c.walk-kept.ensures in
    record {
      is = walked_row_lem c.args.ticks.now c.args.values.now c.args.c w c.list_stray-worst.ensures.is;
      bounds = record { samples = c.requires.0.few; kept = walked_few c.args.ticks.now c.args.values.now c.args.c w c.requires.0; allowed = c.list_stray-worst.ensures.allowed };
    }

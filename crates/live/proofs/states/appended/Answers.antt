-- `live::states::appended` meets its contract. Assumes nothing.
use native.Mathlib.Omega.{arith}
use Rattle.live.proofs.Full.{full}
use Rattle.live.proofs.StateLaws.{append_store}
use Rattle.live.proofs.states.appended.Goals as goal

pub returns : goal.returns
returns c =
    let v = c.args.view in
    let e = full v c.well_formed.0 in
    rw (append_store v.samples v.count c.args.new (omega arith))

-- `live::states::shifted` meets its contract. Assumes nothing.
use Prim.Native.Nat.{◌+◌}
use native.Mathlib.Omega.{arith}
use Rattle.live.proofs.Full.{full}
use Rattle.live.proofs.StateLaws.{shift_store}
use Rattle.live.proofs.states.shifted.Goals as goal

pub returns : goal.returns
returns c =
    let v = c.args.view in
    let moved = c.copy_within.ensures in
    let places = moved.by_index in
    rw (shift_store v.samples v.count c.args.new (c.args.at + 1) c.requires.0 (omega (arith, full v c.well_formed.0)) _ moved.len (omega arith) places.0 places.1 places.2)

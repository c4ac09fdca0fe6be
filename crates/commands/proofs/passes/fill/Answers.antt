-- `commands::passes::fill` meets its contract: at each turn the samples up to the cursor's are written over the lists, and with those to come
-- they are the whole. Assumes nothing.
use Rattle.format.proofs.NumberLaws.{bytes_fit}
use Rattle.commands.proofs.PassLaws.{falls, entry, fills, filled, more_follow}
use Rattle.commands.proofs.passes.fill.Goals as goal

pub next_sample-c-requires : goal.next_sample-c-requires
next_sample-c-requires c = let f = c.loop-c.invariant.4 in (f.passed.ready, more_follow f c.loop-c-test.true)

pub put_sample-requires-in-loop-c : goal.put_sample-requires-in-loop-c
put_sample-requires-in-loop-c c =
    let i = c.loop-c.invariant in
    entry (fills i.4 i.5 i.6 (bytes_fit c.type_inv.bytes) c.next_sample-c.ensures)

pub loop-c-smaller : goal.loop-c-smaller
loop-c-smaller c = falls c.loop-c.invariant.4.passed (bytes_fit c.type_inv.bytes) c.next_sample-c.ensures

pub loop-c-preserved : goal.loop-c-preserved
loop-c-preserved c =
    let i = c.loop-c.invariant in
    (_, _, _, _, fills i.4 i.5 i.6 (bytes_fit c.type_inv.bytes) c.next_sample-c.ensures, c.put_sample-in-loop-c.ensures.0, c.put_sample-in-loop-c.ensures.1)

pub returns : goal.returns
returns c =
    let i = c.loop-c.invariant in
    filled i.4 i.5 i.6 (bytes_fit c.type_inv.bytes) c.loop-c-test.false

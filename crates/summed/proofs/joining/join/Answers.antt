-- `summed::joining::join` meets its contract: the samples below `next` are joined. Assumes nothing.
use Rattle.std.proofs.Common.{refl, arith}
use Rattle.summed.proofs.JoinLaws.{joining_few, joining_from, joining_more, joining_ends}
use Rattle.summed.proofs.joining.join.Goals as goal

pub past-i-requires : goal.past-i-requires
past-i-requires c = (joining_few c.loop-next.invariant c.requires c.loop-next-test.true).0

pub past-j-requires : goal.past-j-requires
past-j-requires c = (joining_few c.loop-next.invariant c.requires c.loop-next-test.true).1

pub loop-next-smaller : goal.loop-next-smaller
loop-next-smaller c =
    omega (arith, joining_from c.loop-next.invariant c.requires c.loop-next-test.true c.min-s.ensures, c.from-next.ensures, c.loop-next-test.true)

pub loop-next-preserved : goal.loop-next-preserved
loop-next-preserved c =
    rw (c.past-i.ensures, c.past-j.ensures, c.from-next.ensures)
    (joining_more c.loop-next.invariant c.requires c.loop-next-test.true c.min-s.ensures refl refl)

pub returns : goal.returns
returns c = joining_ends c.loop-next.invariant c.requires c.loop-next-test.false

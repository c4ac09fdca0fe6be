-- `listing::list_channels` meets its contract: the loop has the lists of the channels before c. Assumes nothing.
use native.Mathlib.Omega.{arith}
use Rattle.listing.proofs.ListingLaws.{listing_fits, listing_rooms, listing_more}
use Rattle.listing.proofs.list_channels.Goals as goal

pub verdict_at-v-requires : goal.verdict_at-v-requires
verdict_at-v-requires c = listing_fits c.loop-c.invariant c.requires c.loop-c-test.true

pub put-a-requires : goal.put-a-requires
put-a-requires c = ((listing_rooms c.loop-c.invariant c.requires c.loop-c-test.true).0, omega arith)

pub put-b-requires : goal.put-b-requires
put-b-requires c = ((listing_rooms c.loop-c.invariant c.requires c.loop-c-test.true).1, omega arith)

pub overflow_add-at : goal.overflow_add-at
overflow_add-at c = omega (arith, (listing_fits c.loop-c.invariant c.requires c.loop-c-test.true).today)

pub loop-c-preserved : goal.loop-c-preserved
loop-c-preserved c =
    listing_more c.loop-c.invariant c.requires c.loop-c-test.true c.verdict_at-v.ensures c.put-a.ensures c.put-b.ensures

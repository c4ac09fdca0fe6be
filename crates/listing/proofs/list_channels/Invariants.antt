-- `listing::list_channels` meets its contract: the loop has the lists of the channels before c. Assumes nothing.
use Rattle.listing.proofs.ListingLaws.{Listing}
use Rattle.listing.proofs.list_channels.Given as goal

abbrev pub invariant-loop-c : goal.invariant-loop-c
invariant-loop-c l = Listing l.today l.earlier l.lengths l.r l.k l.initial.moved l.initial.noisy l.moved l.noisy l.a l.b l.at l.c

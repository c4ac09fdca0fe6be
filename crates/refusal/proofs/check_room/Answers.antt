-- `refusal::check_room` meets its contract. Assumes nothing.
use borrow.Author.Tests.{le-leb, lt-leb}
use Rattle.refusal.proofs.check_room.Goals as goal

pub returns-then-room-needed : goal.returns-then-room-needed
returns-then-room-needed c = rw (lt-leb _ _ c.if-room-needed.true)

pub returns : goal.returns
returns c = rw (le-leb _ _ c.if-room-needed.false)

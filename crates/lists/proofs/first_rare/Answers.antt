-- `lists::first_rare` meets its contract: where the pass tells of none, the search ends at b. Assumes nothing.
use Rattle.std.proofs.Common.{sym, ap, not}
use Rattle.lists.proofs.FirstLaws.{first_none}
use Rattle.lists.proofs.first_rare.Goals as goal

pub returns : goal.returns
returns g c t tells = sym (first_none c.requires.order ((c.some_where.ensures t tells).holds (ap not c.if-some_where.false)))

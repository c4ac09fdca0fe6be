-- `probing::search` meets its contract: a search is a doubling and then a bisection. Assumes nothing.
use Rattle.probing.proofs.ProbingLaws.{yes_own, searched, searched_bounds}
use Rattle.probing.proofs.search.Goals as goal

pub bisect-requires : goal.bisect-requires
bisect-requires c =
    let pre = c.requires in
    (pre.0, pre.1, yes_own c.double.ensures.yes.0, c.double.ensures.yes.1)

pub returns : goal.returns
returns c =
    let y = c.double.ensures.yes.0 in
    let d = c.double.ensures.finds in
    record { finds = searched y d c.bisect.ensures; bounds = searched_bounds y d c.bisect.ensures c.requires.2 c.requires.3 }

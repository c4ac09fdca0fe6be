-- `pedestals::compare` meets its contract. Assumes nothing.
use Rattle.pedestals.specs.Compare.{lent}
use Rattle.pedestals.proofs.ListLaws.{both_listed}
use Rattle.pedestals.proofs.compare.Goals as goal

pub returns : goal.returns
returns c =
    let a = c.args in
    both_listed (lent a.today) (lent a.earlier) a.t a.k a.moved.now a.noisy.now c.in_ok-r.ensures c.list_channels.ensures

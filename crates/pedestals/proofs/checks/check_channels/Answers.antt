-- `pedestals::checks::check_channels` meets its contract: the loop has passed the channels before c. Assumes nothing.
use native.Mathlib.Omega.{arith}
use Rattle.std.proofs.lemmas.Result.{err_from_is_err_and}
use Rattle.pedestals.proofs.CheckLaws.{checking_fits, checking_stop, checking_more}
use Rattle.pedestals.proofs.checks.check_channels.Goals as goal

pub check_channel-requires : goal.check_channel-requires
check_channel-requires c = checking_fits c.loop-c.invariant c.requires c.loop-c-test.true

pub returns-in_err-check_channel : goal.returns-in_err-check_channel
returns-in_err-check_channel c =
    let p = err_from_is_err_and c.from_residual.result c.from_residual.ensures.1 in
    rw (p.1, p.2) (checking_stop c.loop-c.invariant c.requires c.loop-c-test.true c.in_err-check_channel.ensures)

pub overflow_add-at : goal.overflow_add-at
overflow_add-at c = omega (arith, (checking_fits c.loop-c.invariant c.requires c.loop-c-test.true).0.values)

pub loop-c-preserved : goal.loop-c-preserved
loop-c-preserved c = checking_more c.loop-c.invariant c.requires c.loop-c-test.true c.in_ok-check_channel.ensures

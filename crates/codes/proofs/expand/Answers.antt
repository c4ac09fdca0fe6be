-- `codes::expand` meets its contract. The loop's invariant: the values of the first i and of the last i codes are written,
-- and nothing behind them. Assumes nothing.
use native.Mathlib.Omega.{arith}
use Rattle.codes.proofs.expand.Invariants.{ends, met}
use Rattle.codes.proofs.expand.Goals as goal

pub returns : goal.returns
returns c =
    let codes = c.args.codes.now in
    ends codes c.loop-i.invariant c.requires (λ k h. met codes (omega arith) k)

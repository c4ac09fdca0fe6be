-- `scans::passes::begin` meets its contract. Assumes nothing.
use Rattle.std.proofs.Common.{◌≡◌, ℕ, ◌*◌, ◌<◌, length}
use Rattle.turns.specs.Turn.{started}
use Rattle.scans.specs.Scan.{criterion_at, walk_at}
use Rattle.scans.proofs.passes.begin.Given as goal

abbrev pub invariant-loop-a : goal.invariant-loop-a
invariant-loop-a l = record {
  sized : length l.walks ≡ 16;
  each : (b : ℕ) → b < l.a → walk_at l.walks b ≡ started (criterion_at l.parts l.gap b) (b * l.n);
}

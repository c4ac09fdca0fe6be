-- Gallop's probe total for a readout budget, from the contract alone: for every trace and all limits, unless the call is refused.
--   probe_budget    the total is the sum over the list written, and bounded by the stops and the samples
--   probes_alone    two calls that write the same list return the same total, whatever their traces and limits
-- Assumes nothing.
use Rattle.std.specs.Prelude.{Ok}
use mathlib.Core.Path.{◌≡◌, refl, sym, ◌∙◌, ap}
use mathlib.Core.List.{List}
use Prim.Native.Nat.{ℕ, ◌-◌, ◌<◌, ◌^◌}
use native.Mathlib.Omega.{arith}
use lib.IntN.{ℤ}
use lib.ListN.{length, take}
use Rattle.lists.proofs.OverwriteLaws.{wrote_read}
use Rattle.refusal.proofs.TableLaws.{then_fine}
use Rattle.kept.specs.Gallop.{list_probes}
use Rattle.kept.proofs.ProbeLaws.{total_stops, total_samples, total_reached, reached_only}
use Rattle.limits.specs.declared.Limits.{Limits}
use Rattle.reduction.specs.declared.Galloped.{Galloped}
use Rattle.limits.specs.Prepare.{common_rows, output_rows}
use Rattle.engine.specs.Reduce.{GallopOutcome}
use Rattle.limits.proofs.PrepareLaws.{common_trace}
use Rattle.promises.specs.Probes.{ProbeBudget}

pub probe_budget : {ts : List ℕ} {vs : List ℤ} {t : Limits} {o o' : List ℕ} {g : Galloped}
    → GallopOutcome ts vs t o (Ok g) o' → ProbeBudget (length ts) (g.kept - 1) g.probes (take g.kept o')
unfolding output_rows
probe_budget {ts} {vs} {t} w =
    let trace = common_trace ts vs t (then_fine (common_rows ts vs t) _ w.rows).0 in
    let fit : length ts - 1 < 2 ^ 64 = omega (arith, trace.few) in
    let kept = w.list.kept in
    rw (w.total, wrote_read w.wrote, w.wrote.count) (record {
      total = refl;
      by_stops = total_stops fit _ kept;
      by_samples = total_samples fit _ kept;
      reached = total_reached _ kept;
      reached_only = reached_only fit _ kept;
    })

pub probes_alone : {ts us : List ℕ} {vs ws : List ℤ} {t u : Limits} {o o' e e' : List ℕ} {g h : Galloped}
    → GallopOutcome ts vs t o (Ok g) o' → GallopOutcome us ws u e (Ok h) e' → take g.kept o' ≡ take h.kept e' → g.probes ≡ h.probes
probes_alone w x same = w.total ∙ ap list_probes same ∙ sym x.total

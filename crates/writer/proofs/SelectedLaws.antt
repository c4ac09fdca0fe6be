-- Laws of the samples that a kept list selects of a trace, as the writer takes them.
-- Assumes nothing.
use mathlib.Core.Path.{◌≡◌, sym, ◌∙◌}
use mathlib.Core.List.{List}
use Prim.Native.Nat.{ℕ, ◌+◌, ◌-◌, ◌≤◌, ◌<◌}
use native.Mathlib.Numerals.{add-one}
use native.Mathlib.Omega.{arith}
use lib.IntN.{ℤ, pos}
use lib.ListN.{length, get_or}
use lib.Signed.{mag}
use Rattle.lists.proofs.SelectLaws.{select_length, select_at, select_all}
use Rattle.kept.proofs.KeptLaws.{kept_length, kept_inside}
use Rattle.kept.proofs.SelectedLists.{kept_some}
use Rattle.trace.specs.declared.Start.{Start}
use Rattle.trace.specs.Trace.{tick, value, Trace}
use Rattle.trace.specs.Edge.{StartAt}
use Rattle.trace.proofs.Ticks.{span_bound}
use Rattle.trace.proofs.SelectedTrace.{selected_trace}
use Rattle.trace.proofs.Level.{short}
use Rattle.tolerance.specs.declared.Parts.{Parts}
use Rattle.tolerance.specs.Meaning.{HeldParts}
use Rattle.format.specs.Format.{Legal}
use Rattle.writer.specs.Writing.{Kept, kept_ticks, kept_values, selected, SampleAt, StepBetween, step_from, step_at}
use Rattle.writer.specs.declared.Sample.{Sample}

module _ {ts : List ℕ} {vs : List ℤ} {l : List ℕ} (kept : Kept ts vs l) where
  pub list_some : 1 ≤ length l
  list_some = kept_some l kept.list

  pub list_few : length l ≤ 4096
  list_few = omega (arith, kept_length (length ts - 1) l kept.list, kept.trace.few, kept.trace.some)

  pub entry_inside : (k : ℕ) → k < length l → get_or l k 0 < length ts
  entry_inside k h = omega (arith, kept_inside (length ts - 1) l kept.list k h, kept.trace.some)

  -- ---- the kept samples

  pub kept_trace : Trace (kept_ticks ts l) (kept_values vs l)
  kept_trace = selected_trace kept.trace kept.list

  pub selected_legal : (x : Parts) → HeldParts x → ((k : ℕ) → tick ts k ≤ 4294967295) → ((k : ℕ) → mag (value (kept_values vs l) k) < 32768) → Legal (selected x ts vs l)
  selected_legal x h a b = record {
    held = h;
    trace = kept_trace;
    tick_range = select_all 0 ts (λ (t : ℕ). t ≤ 4294967295) (omega arith) a l;
    value_range = b;
  }

  module _ {i : ℕ} {a b : Sample} (h : i + 1 < length l) (p : SampleAt ts vs l i a) (q : SampleAt ts vs l (i + 1) b) where
    pub step_between : StepBetween a b
    step_between =
        let t = kept_trace in
        let n = select_length 0 ts l in
        let r : tick (kept_ticks ts l) i < tick (kept_ticks ts l) (i + 1) = rw add-one (t.rising.rises i (omega arith)) in
        record {
          rise = omega (arith, r, p.tick_is, q.tick_is);
          span = omega (arith, span_bound t i (i + 1) (omega arith) (omega (arith, n)), p.tick_is, q.tick_is);
          from = short p.level_is;
          to = short q.level_is;
        }

  pub step_same : {i : ℕ} {a b : Sample} → SampleAt ts vs l i a → SampleAt ts vs l (i + 1) b → step_from a b ≡ step_at (kept_ticks ts l) (kept_values vs l) i
  step_same p q = rw (p.tick_is, p.level_is.is, q.tick_is, q.level_is.is)

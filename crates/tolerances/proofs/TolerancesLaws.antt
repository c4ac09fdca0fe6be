-- Laws of the checks 19, 4, 15 and 10 of several tolerances.
-- Assumes nothing.
use Rattle.std.specs.Prelude.{Err, None, Ok, Some}
use mathlib.Core.Path.{◌≡◌, sym, ap, ◌∙◌}
use mathlib.Core.Bool.{true, false, ◌&&◌}
use mathlib.Core.List.{List}
use Prim.Native.Nat.{ℕ, ◌+◌, ◌*◌, ◌≤◌, ◌<◌}
use native.Mathlib.Omega.{arith}
use lib.Dec.{leb}
use lib.IntN.{ℤ}
use lib.ListN.{length, set, length-set}
use lib.Seq.{get_or-set_same, get_or-set_other}
use borrow.Author.Count.{below_more}
use borrow.Author.Tests.{le-leb, lt-leb, leb-true}
use Rattle.lists.proofs.Tests.{and_second}
use Rattle.lists.proofs.FirstLaws.{Searching, searching_more, searched_at, searched_none}
use Rattle.refusal.specs.declared.Refusal.TheVariants.{Tolerance as NotAllowedAt, Count}
use Rattle.refusal.specs.Table.{room_row}
use Rattle.refusal.proofs.TableLaws.{row_fine}
use Rattle.tolerance.specs.declared.Parts.{Parts}
use Rattle.tolerance.specs.Meaning.{meaning}
use Rattle.trace.specs.Trace.{trace_rows}
use Rattle.trace.specs.Link.{parted}
use Rattle.trace.proofs.TraceLaws.{rows_trace}
use Rattle.limits.specs.Prepare.{gap_row, Sets}
use Rattle.limits.proofs.PrepareLaws.{exact_sets}
use Rattle.tolerances.specs.declared.Tolerances.{Tolerances}
use Rattle.tolerances.specs.Tolerances.{tolerance_at, limits_at, bad_at, count_row, several_rows, scan_rows, parts_at, Each, Holds, Several, ScanReady}

-- ---- row 19

pub fine_few : (m : ℕ) → count_row m ≡ Ok tt → m ≤ 16
fine_few m e = leb-true m 16 (and_second (leb 1 m) (leb m 16) (row_fine (leb 1 m && leb m 16) Count e))

-- ---- row 4 of each

module _ (t : Tolerances) (a : ℕ) where
  exact_good : {x : Parts} → meaning (tolerance_at t a) ≡ Some x → bad_at t a ≡ false
  unfolding bad_at
  exact_good e = rw e

  not_allowed_bad : meaning (tolerance_at t a) ≡ None → bad_at t a ≡ true
  unfolding bad_at
  not_allowed_bad e = rw e

-- ---- the parts of the tolerances before k, none of which is bad

pub record HoldingTo (t : Tolerances) (k : ℕ) (l : List Parts) : Type 0 where
  pub searching : Searching (bad_at t) 0 t.count k
  pub each : Each t k l

module _ {t : Tolerances} {k : ℕ} {l : List Parts} (g : HoldingTo t k l) where
  pub holding_more : {x : Parts} → t.count ≤ 16 → k < t.count → meaning (tolerance_at t k) ≡ Some x → HoldingTo t (k + 1) (set l k x)
  holding_more {x} few lt e = record {
    searching = searching_more g.searching lt (exact_good t k e);
    each = record {
      size = length-set l k x ∙ g.each.size;
      held = below_more (λ (a : ℕ). meaning (tolerance_at t a) ≡ Some (parts_at (set l k x) a)) k
          (λ a v. g.each.held a v ∙ ap Some (sym (get_or-set_other l k a x _ (λ z. omega arith))))
          (e ∙ ap Some (sym (get_or-set_same l k x _ (omega (arith, g.each.size)))));
    };
  }

  pub holding_all : t.count ≤ k → k ≤ t.count → Holds t (Ok tt) l
  holding_all le ge = (rw (← searched_none g.searching le, le-leb t.count k le), record { size = g.each.size; held = λ a lt. g.each.held a (omega arith) })

  pub holding_bad : k < t.count → meaning (tolerance_at t k) ≡ None → Holds t (Err (NotAllowedAt k)) l
  holding_bad lt e =
      let f = searched_at g.searching lt (not_allowed_bad t k e) in
      (rw (← f, lt-leb t.count k lt), rw (← f) g.each)

-- ---- all rows

module _ (ts : List ℕ) (vs : List ℤ) (t : Tolerances) (g room : ℕ) (trace : trace_rows 4096 ts vs ≡ Ok tt) where
  pub short : length ts ≤ 4096
  short = (rows_trace 4096 ts vs (omega arith) trace).0.few

  pub scan_ready : {l : List Parts} → count_row t.count ≡ Ok tt → Holds t (Ok tt) l → gap_row g ≡ Ok tt → room_row (t.count * length ts) room ≡ Ok tt → ScanReady ts vs t g room l
  unfolding scan_rows several_rows
  scan_ready c h e r = record {
    rows = rw (trace, c, h.0, e, r);
    row = trace;
    trace = (rows_trace 4096 ts vs (omega arith) trace).0;
    several = record { few = fine_few t.count c; each = h.1; gap = e; room_is = leb-true (t.count * length ts) room (row_fine _ _ r) };
  }

-- what the limits of each separate call set
pub several_sets : {t : Tolerances} {g n room : ℕ} {l : List Parts} → Several t g n room l → (a : ℕ) → a < t.count → Sets (limits_at t g a) (parted g (parts_at l a).up (parts_at l a).down)
several_sets {t} {g} s a lt = exact_sets (limits_at t g a) (s.each.held a lt) s.gap

-- Laws of the rows: what they say by cases, and what holds of traces and lists that none of them refuses.
-- Assumes nothing.
use Rattle.std.specs.Prelude.{Ok}
use mathlib.Core.Path.{◌≡◌, ◌∙◌, ap, subst}
use mathlib.Core.List.{List}
use Prim.Native.Nat.{ℕ}
use native.Mathlib.Omega.{arith}
use lib.IntN.{ℤ}
use lib.ListN.{length}
use borrow.Author.Tests.{le-leb, leb-true}
use Rattle.lists.specs.First.{first, Clear}
use Rattle.lists.proofs.FirstLaws.{first_found, first_none}
use Rattle.refusal.specs.Table.{room_row}
use Rattle.refusal.proofs.TableLaws.{row_fine, then_fine}
use Rattle.trace.specs.Trace.{Trace, trace_rows}
use Rattle.trace.proofs.TraceLaws.{rows_trace, trace_rows_lem, rows_counts}
use Rattle.proposed.specs.Proposed.{list_row}
use Rattle.proposed.proofs.ProposedLaws.{row_kept}
use Rattle.matching.specs.Match.{mismatch_row}
use Rattle.matching.proofs.MatchLaws.{matched, same_ticks}
use Rattle.summed.specs.Sum.{overflow_at, overflow_row, sum_rows, Summable, Joinable}

-- ---- 18

module _ (vs ws : List ℤ) where
  -- where it does not apply, every sum is in range
  pub in_range : overflow_row vs ws ≡ Ok tt → Clear (overflow_at vs ws) 0 (length vs)
  unfolding overflow_row
  in_range h =
      let f = first_found (overflow_at vs ws) 0 (length vs) (omega arith) in
      let le = leb-true (length vs) (first (overflow_at vs ws) 0 (length vs)) (row_fine _ _ h) in
      record { none = λ k l u. f.clear.none k l (omega arith) }

-- ---- what passes

-- a trace and one with the same ticks, whose sums are in range, and kept lists of both; room for the sums and for the joined list
pub record Addable (ts : List ℕ) (vs : List ℤ) (us : List ℕ) (ws : List ℤ) (l m : List ℕ) (room room' : ℕ) : Type 0 where
  pub trace : Trace ts vs
  pub ticks : us ≡ ts
  pub summable : Summable vs ws room
  pub joinable : Joinable (length ts) l m room'

module _ (ts : List ℕ) (vs : List ℤ) (us : List ℕ) (ws : List ℤ) where
  -- traces with the same ticks have equally many values
  pub same_counts : trace_rows 4096 ts vs ≡ Ok tt → trace_rows 4096 us ws ≡ Ok tt → mismatch_row ts us ≡ Ok tt → length ws ≡ length vs
  same_counts h k e =
      let t = (rows_trace 4096 ts vs (omega arith) h).0 in
      let u = (rows_trace 4096 us ws (omega arith) k).0 in
      omega (arith, u.same, t.same, ap length (matched ts us t.some e))

  pub rows_addable : (l m : List ℕ) (room room' : ℕ) → sum_rows ts vs us ws l m room room' ≡ Ok tt → Addable ts vs us ws l m room room'
  unfolding sum_rows
  rows_addable l m room room' h =
      let a = then_fine (trace_rows 4096 ts vs) _ h in
      let b = then_fine (trace_rows 4096 us ws) _ a.1 in
      let c = then_fine (list_row (length ts) l) _ b.1 in
      let d = then_fine (list_row (length us) m) _ c.1 in
      let e = then_fine (mismatch_row ts us) _ d.1 in
      let f = then_fine (overflow_row vs ws) _ e.1 in
      let g = then_fine (room_row (length ts) room) _ f.1 in
      let t = (rows_trace 4096 ts vs (omega arith) a.0).0 in
      let q = matched ts us t.some e.0 in
      let long = leb-true (length ts) room (row_fine _ _ g.0) in
      let long' = leb-true (length ts) room' (row_fine _ _ g.1) in
      record {
        trace = t;
        ticks = q;
        summable = record { same = same_counts a.0 b.0 e.0; fits = in_range vs ws f.0; entries = omega (arith, t.same) };
        joinable = record {
          some = t.some;
          few = t.few;
          first = (row_kept t.some l).0 c.0;
          second = (row_kept t.some m).0 (subst (λ (x : List ℕ). list_row (length x) m ≡ Ok tt) q d.0);
          entries = long';
        };
      }

-- ---- what is passed

in_range_fine : (vs ws : List ℤ) → Clear (overflow_at vs ws) 0 (length vs) → overflow_row vs ws ≡ Ok tt
unfolding overflow_row
in_range_fine vs ws clear = rw (first_none {f = overflow_at vs ws} {a = 0} {b = length vs} (omega arith) clear, le-leb (length vs) (length vs) (omega arith))

-- none of the rows applies to traces with the same ticks whose sums are in range, and to kept lists of them
pub addable_fine : {ts : List ℕ} {vs ws : List ℤ} {l m : List ℕ} {room room' : ℕ} → Trace ts vs → Summable vs ws room → Joinable (length ts) l m room' → sum_rows ts vs ts ws l m room room' ≡ Ok tt
unfolding sum_rows
addable_fine {ts} {vs} {ws} {l} {m} {room} {room'} t s j =
    let trace = trace_rows_lem 4096 ts vs t t.few in
    rw (
      trace,
      rows_counts 4096 ts vs ws s.same ∙ trace,
      (row_kept j.some l).1 j.first,
      (row_kept j.some m).1 j.second,
      same_ticks ts,
      in_range_fine vs ws s.fits,
      le-leb (length ts) room (omega (arith, s.entries, t.same)),
      le-leb (length ts) room' j.entries,
    )

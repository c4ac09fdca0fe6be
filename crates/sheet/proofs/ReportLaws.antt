-- Laws of the report: the row of a trace, the rows and totals before a channel, and the lent list.
-- Assumes nothing.
use Rattle.std.specs.Prelude.{Err, Ok}
use mathlib.Core.Path.{◌≡◌, refl, sym, ◌∙◌, ap, subst}
use mathlib.Core.List.{List, ◌++◌, append_assoc, append-nil}
use Prim.Native.Nat.{ℕ, suc, ◌+◌, ◌-◌, ◌≤◌, ◌<◌}
use native.Mathlib.Numerals.{add-one}
use native.Mathlib.Omega.{arith}
use lib.IntN.{ℤ}
use lib.ListN.{length, set, take, drop, get_or, length-set, drop_of_length-le}
use lib.Seq.{take-suc-set, drop-cons, length-take-le}
use Rattle.lists.specs.Overwrite.{overwrite, Wrote}
use Rattle.lists.proofs.OverwriteLaws.{overwrite_length, wrote_read, wrote_fits}
use Rattle.ratio.specs.declared.Ratio.{Ratio}
use Rattle.ratio.specs.Order.{over, greater}
use Rattle.ratio.proofs.OrderLaws.{greater_one}
use Rattle.kept.specs.Kept.{KeptList}
use Rattle.kept.proofs.KeptLaws.{kept_length}
use Rattle.refusal.specs.declared.Refusal.{Refusal}
use Rattle.channels.specs.Channels.{sum, Divided}
use Rattle.channels.proofs.ChannelLaws.{lent_part}
use Rattle.trace.specs.declared.Criterion.{Criterion}
use Rattle.trace.specs.Trace.{Trace, trace_rows}
use Rattle.measures.specs.declared.Stray.{Stray}
use Rattle.trace.specs.Link.{criterion, Bounded}
use Rattle.trace.proofs.Errors.{both_bounded}
use Rattle.proposed.specs.Proposed.{list_stray}
use Rattle.reduction.specs.Walking.{walk_list}
use Rattle.reduction.proofs.ReductionLaws.{walk_list_greedy}
use Rattle.sheet.specs.declared.Summary.{Summary}
use Rattle.sheet.specs.declared.Totals.{Totals}
use Rattle.sheet.specs.Report.{kept_row, walked_row, declined_row, row_of, part_row, rows_from, totals_with, totals_with_all, totals_of, RowBounds, TotalBounds, Rows}

-- ---- the lent list
pub filled_length : {A : Type 0} (rows o : List A) (i : ℕ) → i ≤ length rows → i ≤ length o → length (overwrite (take i rows) o) ≡ length o
filled_length rows o i h k = overwrite_length (take i rows) o (rw (length-take-le i rows h) k)

-- ---- the row of a trace
module _ (ts : List ℕ) (vs : List ℤ) (c : Criterion) {o o' : List ℕ} {n : ℕ} (w : Wrote (walk_list ts vs c) o n o') where
  pub walked_kept : KeptList (length ts - 1) (take n o')
  walked_kept = subst (KeptList (length ts - 1)) (sym (wrote_read w)) (walk_list_greedy ts vs c).kept

  pub walked_room : n ≤ length o'
  walked_room = wrote_fits w

  pub walked_length : n ≡ length (take n o')
  walked_length = w.count ∙ sym (ap length (wrote_read w))

  pub walked_few : Trace ts vs → n ≤ 4096
  walked_few t = few t.some t.few (kept_length (length ts - 1) (walk_list ts vs c) (walk_list_greedy ts vs c).kept) w.count
    where
      few : {l k : ℕ} → 1 ≤ length ts → length ts ≤ 4096 → l ≤ suc (length ts - 1) → k ≡ l → k ≤ 4096
      few a b c d = omega arith

  pub walked_row_lem : {s : Stray} → s ≡ list_stray ts vs (take n o') → kept_row (length ts) n s ≡ walked_row c ts vs
  unfolding walked_row
  walked_row_lem d = rw (d, wrote_read w, w.count)

pub channel_fine : (c : Criterion) (ts : List ℕ) (vs : List ℤ) {r : Summary} → trace_rows 4096 ts vs ≡ Ok tt → r ≡ walked_row c ts vs → r ≡ row_of c ts vs
unfolding row_of
channel_fine c ts vs h e = rw h e

pub channel_refused : (c : Criterion) (ts : List ℕ) (vs : List ℤ) {r : Summary} {x : Refusal} → trace_rows 4096 ts vs ≡ Err x → r ≡ declined_row x → r ≡ row_of c ts vs
unfolding row_of
channel_refused c ts vs h e = rw h e

pub part_is : (c : Criterion) (ts : List ℕ) (vs : List ℤ) (at n : ℕ) {r : Summary} → r ≡ row_of c (take (at + n - at) (drop at ts)) (take (at + n - at) (drop at vs)) → r ≡ part_row c ts vs at n
part_is c ts vs at n e = rw (lent_part at n ts, lent_part at n vs) at e

pub zero_bounded : Bounded (criterion (over 0 1))
zero_bounded = both_bounded (record { positive = omega arith; q_bound = omega arith; p_bound = omega arith })

pub greater_bounded : (x y : Ratio) → Bounded (criterion x) → Bounded (criterion y) → Bounded (criterion (greater x y))
greater_bounded x y h k = greater_one (λ z. Bounded (criterion z)) x y h k

-- ---- the rows before channel i, which begins at the place `at`
pub record Surveying (c : Criterion) (ts : List ℕ) (vs : List ℤ) (ls : List ℕ) (rows : List Summary) (t : Totals) (at i : ℕ) : Type 0 where
  pub sized : length rows ≡ 64
  pub upto : i ≤ length ls
  pub rest : at + sum (drop i ls) ≡ sum ls
  pub rows_are : take i rows ++ rows_from c ts vs at (drop i ls) ≡ rows_from c ts vs 0 ls
  pub totals_are : totals_with_all t (rows_from c ts vs at (drop i ls)) ≡ totals_of (rows_from c ts vs 0 ls)
  pub bounds : TotalBounds i t

pub surveying_none : (c : Criterion) (ts : List ℕ) (vs : List ℤ) (ls : List ℕ) (rows : List Summary) → length rows ≡ 64 → Surveying c ts vs ls rows (record { samples = 0; kept = 0; p = 0; q = 1 }) 0 0
surveying_none c ts vs ls rows e = record { sized = e; upto = omega arith; rest = omega arith; rows_are = refl; totals_are = refl; bounds = record { samples = omega arith; kept = omega arith; allowed = zero_bounded } }

module _ {c : Criterion} {ts : List ℕ} {vs : List ℤ} {ls : List ℕ} {rows : List Summary} {t : Totals} {at i : ℕ} (h : Surveying c ts vs ls rows t at i) where
  -- the channel lies in both lists
  pub surveying_part : i < length ls → at + get_or ls i 0 ≤ sum ls
  surveying_part lt = let e = ap sum (drop-cons ls i 0 lt) in omega (arith, h.rest, e)

  pub surveying_ticks : Divided ts vs ls → i < length ls → at + get_or ls i 0 ≤ length ts
  surveying_ticks d lt = subst (λ (n : ℕ). at + get_or ls i 0 ≤ n) d.ticks (surveying_part lt)

  pub surveying_values : Divided ts vs ls → i < length ls → at + get_or ls i 0 ≤ length vs
  surveying_values d lt = subst (λ (n : ℕ). at + get_or ls i 0 ≤ n) d.values (surveying_part lt)

  pub surveying_few : length ls ≤ 64 → (t.samples ≤ 262144) × (t.kept ≤ 262144)
  surveying_few few = (omega (arith, h.upto, few, h.bounds.samples), omega (arith, h.upto, few, h.bounds.kept))

  pub surveying_more : {r : Summary} {u : Totals} → i < length ls → length ls ≤ 64 → r ≡ part_row c ts vs at (get_or ls i 0) → RowBounds r → u ≡ totals_with t r → Surveying c ts vs ls (set rows i r) u (at + get_or ls i 0) (i + 1)
  surveying_more {r} {u} lt few e b a =
      let d = drop-cons ls i 0 lt in
      let s = ap sum d in
      record {
        sized = length-set rows i r ∙ h.sized;
        upto = omega (arith, lt);
        rest = rw (add-one i) (omega (arith, h.rest, s));
        rows_are = rw (add-one i, take-suc-set rows i r (omega (arith, lt, few, h.sized)), append_assoc, e) (subst (λ (z : List ℕ). take i rows ++ rows_from c ts vs at z ≡ rows_from c ts vs 0 ls) d h.rows_are);
        totals_are = rw (add-one i, a, e) (subst (λ (z : List ℕ). totals_with_all t (rows_from c ts vs at z) ≡ totals_of (rows_from c ts vs 0 ls)) d h.totals_are);
        bounds = rw a (record {
          samples = omega (arith, h.bounds.samples, b.samples);
          kept = omega (arith, h.bounds.kept, b.kept);
          allowed = greater_bounded (over t.p t.q) (over r.p r.q) h.bounds.allowed b.allowed;
        });
      }

  pub surveying_all : length ls ≤ i → Rows c ts vs ls (record { rows = rows; count = length ls; totals = t })
  surveying_all ge =
      let d = drop_of_length-le ls {i = i} ge in
      subst (λ (n : ℕ). Rows c ts vs ls (record { rows = rows; count = n; totals = t })) (end h.upto ge) (record {
        count = end h.upto ge;
        rows = sym (append-nil (take i rows)) ∙ subst (λ (z : List ℕ). take i rows ++ rows_from c ts vs at z ≡ rows_from c ts vs 0 ls) d h.rows_are;
        totals = subst (λ (z : List ℕ). totals_with_all t (rows_from c ts vs at z) ≡ totals_of (rows_from c ts vs 0 ls)) d h.totals_are;
      })
    where
      end : {i n : ℕ} → i ≤ n → n ≤ i → i ≡ n
      end h k = omega arith

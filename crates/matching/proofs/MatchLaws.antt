-- Laws of row 17: what it says by cases, and of ticks that it does not refuse.
-- Assumes nothing.
use Rattle.std.specs.Prelude.{Err, Ok}
use mathlib.Core.Path.{◌≡◌, refl, sym}
use mathlib.Core.Logic.{⊎_elim}
use mathlib.Core.Bool.{true, false}
use mathlib.Core.List.{List}
use Prim.Native.Nat.{ℕ, ◌-◌, ◌≤◌, ◌<◌, min, max}
use native.Mathlib.Nat.{eq-or-lt_of_le}
use native.Mathlib.Omega.{arith}
use lib.Dec.{leb, eqb}
use lib.ListN.{length}
use lib.Seq.{ext_get_or}
use borrow.Author.Tests.{le-leb, lt-leb, leb-true, leb-false, eq-eqb, eqb-true, not-false}
use Rattle.lists.specs.First.{first, Clear}
use Rattle.lists.proofs.Tests.{or_first, or_false}
use Rattle.lists.proofs.FirstLaws.{Found, first_found, first_at, first_none}
use Rattle.refusal.specs.declared.Refusal.TheVariants.{Mismatch}
use Rattle.refusal.proofs.TableLaws.{row_fine}
use Rattle.trace.specs.Trace.{tick}
use Rattle.matching.specs.Match.{differ_at, mismatch_row}

module _ (ts us : List ℕ) where
  -- a search of the samples that both have finds the first that differs; else the first that is missing in one, or there is none
  module _ {k : ℕ} (is : k ≡ first (differ_at ts us) 0 (min (length ts) (length us))) where
    found : Found (differ_at ts us) 0 (min (length ts) (length us)) k
    found = rw is (first_found (differ_at ts us) 0 (min (length ts) (length us)) (omega arith))

    missing : k ≡ min (length ts) (length us) → differ_at ts us k ≡ true
    missing e = or_first (leb (min (length ts) (length us)) k) _ (le-leb (min (length ts) (length us)) k (omega arith))

    pub mismatch_at : k < max (length ts) (length us) → Err (Mismatch k) ≡ mismatch_row ts us
    unfolding mismatch_row
    mismatch_at lt =
        let here : differ_at ts us k ≡ true = ⊎_elim missing found.here (eq-or-lt_of_le found.to) in
        let e = first_at {f = differ_at ts us} {a = 0} {b = max (length ts) (length us)} (omega arith) lt found.clear here in
        rw (e, lt-leb (max (length ts) (length us)) k lt)

    pub mismatch_none : max (length ts) (length us) ≤ k → Ok tt ≡ mismatch_row ts us
    unfolding mismatch_row
    mismatch_none ge =
        let m = max (length ts) (length us) in
        let e = first_none {f = differ_at ts us} {a = 0} {b = m} (omega arith) (record { none = λ i l u. found.clear.none i l (omega arith) }) in
        rw (e, le-leb m m (omega arith))

  -- where it does not apply, the ticks are the same
  matched_clear : mismatch_row ts us ≡ Ok tt → Clear (differ_at ts us) 0 (max (length ts) (length us))
  unfolding mismatch_row
  matched_clear h =
      let n = max (length ts) (length us) in
      let f = first_found (differ_at ts us) 0 n (omega arith) in
      let le = leb-true n (first (differ_at ts us) 0 n) (row_fine _ _ h) in
      record { none = λ k l u. f.clear.none k l (omega arith) }

  -- a sample that both have or neither has
  agreed : {k : ℕ} → differ_at ts us k ≡ false → (k < min (length ts) (length us)) × (tick ts k ≡ tick us k)
  agreed {k} h =
      let p = or_false (leb (min (length ts) (length us)) k) _ h in
      (leb-false _ _ p.0, eqb-true _ _ (not-false (eqb (tick ts k) (tick us k)) p.1))

  pub matched : 1 ≤ length ts → mismatch_row ts us ≡ Ok tt → us ≡ ts
  matched some h =
      let clear = matched_clear h in
      let top = agreed (clear.none (max (length ts) (length us) - 1) (omega arith) (omega arith)) in
      ext_get_or 0 us ts (omega (arith, top.0)) (λ k lt. sym (agreed (clear.none k (omega arith) (omega arith))).1)

-- ticks that are the same are passed
pub same_ticks : (ts : List ℕ) → mismatch_row ts ts ≡ Ok tt
unfolding mismatch_row
same_ticks ts =
    let n = max (length ts) (length ts) in
    rw (
      first_none {f = differ_at ts ts} {a = 0} {b = n} (omega arith) (record {
        none = λ k l u. rw (lt-leb (min (length ts) (length ts)) k (omega arith), eq-eqb (tick ts k) (tick ts k) refl);
      }),
      le-leb n n (omega arith),
    )

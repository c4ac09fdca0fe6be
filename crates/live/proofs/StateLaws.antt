-- Laws of the stores that put a new entry last and drop an inner one.
-- Assumes nothing.
use mathlib.Core.Path.{◌≡◌, refl, sym, ◌∙◌}
use mathlib.Core.List.{List, [], ◌∷◌, ◌++◌}
use Prim.Native.Nat.{ℕ, zero, suc, ◌+◌, ◌-◌, ◌≤◌, ◌<◌}
use native.Mathlib.Omega.{arith}
use native.Mathlib.Decide.{dec_lt}
use lib.ListN.{length, get_or, take, set, length-append, length-set}
use lib.Seq.{length-take-le, get_or-set_same, get_or-set_other}
use Rattle.std.specs.List.{CopiedTo, SameBelow, SameFrom}
use Rattle.lists.specs.Overwrite.{overwrite}
use Rattle.lists.proofs.OverwriteLaws.{overwrite_snoc, overwrite_own, overwrite_entries}
use Rattle.views.specs.View.{without}
use Rattle.views.proofs.ViewLaws.{without_length}
use Rattle.live.proofs.CandidateLaws.{entry_inside, entry_new}

-- a list without an entry, from there on and up to there
without_after : (d : ℕ) (l : List ℕ) (i : ℕ) → d ≤ i → get_or (without d l) i 0 ≡ get_or l (suc i) 0
without_after d [] i h = refl
without_after zero (x ∷ s) i h = refl
without_after (suc d) (x ∷ s) zero h = absurd (omega arith)
without_after (suc d) (x ∷ s) (suc i) h = without_after d s i (omega arith)

without_before : (d : ℕ) (l : List ℕ) (i : ℕ) → i < d → get_or (without d l) i 0 ≡ get_or l i 0
without_before zero l i h = absurd (omega arith)
without_before (suc d) [] i h = refl
without_before (suc d) (x ∷ s) zero h = refl
without_before (suc d) (x ∷ s) (suc i) h = without_before d s i (omega arith)

-- a new entry last
pub append_store : (o : List ℕ) (count new : ℕ) → count < length o → set o count new ≡ overwrite (take count o ++ new ∷ []) o
append_store o count new h =
    let n : length (take count o) ≡ count = length-take-le count o (omega arith) in
    let s : set (overwrite (take count o) o) (length (take count o)) new ≡ overwrite (take count o ++ new ∷ []) o = overwrite_snoc (take count o) o new (omega arith) in
    rw (overwrite_own count o (omega arith), n) at s

-- Entry d is dropped where those behind it move up by one and the new one is stored last.
module _ (o : List ℕ) (count new d : ℕ) (inner : d < count) (room : count ≤ length o) where
  abbrev w : List ℕ
  w = take count o ++ new ∷ []

  abbrev u : List ℕ
  u = without d w

  u_length : length u ≡ count
  u_length =
      let e : length (take count o) ≡ count = length-take-le count o room in
      let n : length w ≡ count + 1 = omega (arith, length-append (take count o) (new ∷ [])) in
      omega (arith, without_length d w (omega (arith, n)), n)

  module _ (x : List ℕ) (same : length x ≡ length o) {from : ℕ} (next : from ≡ d + 1) (moved : CopiedTo o x from d (count - from)) (before : SameBelow o x d)
      (behind : SameFrom o x (d + (count - from))) where
    entry_at : (k : ℕ) → k < count → get_or (set x (count - 1) new) k 0 ≡ get_or u k 0
    entry_at k h = elim (dec_lt k d) [
      | yes lt ↦
          get_or-set_other x (count - 1) k new 0 (λ e. omega arith) ∙ before k 0 lt ∙ entry_inside o count new k h room ∙ sym (without_before d w k lt)
      | no ge ↦ elim (dec_lt (suc k) count) [
        | yes lt ↦
            let e : from + (k - d) ≡ suc k = omega arith in
            get_or-set_other x (count - 1) k new 0 (λ e. omega arith) ∙ moved k 0 (omega arith) (omega arith) ∙ rw e (entry_inside o count new (suc k) lt room)
            ∙ sym (without_after d w k (omega arith))
        | no end ↦
            let e : k ≡ count - 1 = omega arith in
            rw e (get_or-set_same x (count - 1) new 0 (omega (arith, same))) ∙ entry_new o count new (suc k) (omega arith) room ∙ sym (without_after d w k (omega arith))
      ]
    ]

    pub shift_store : set x (count - 1) new ≡ overwrite (without d (take count o ++ new ∷ [])) o
    shift_store = overwrite_entries 0 u o (set x (count - 1) new) (omega (arith, u_length)) (length-set x (count - 1) new ∙ same)
        (λ k h. entry_at k (omega (arith, u_length)))
        (λ k h. get_or-set_other x (count - 1) k new 0 (λ e. omega (arith, u_length)) ∙ behind k 0 (omega (arith, u_length)))

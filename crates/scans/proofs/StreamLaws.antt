-- The streaming promise: closed with sample j, what walk has kept there is its list of the trace up to j, and so is what the pass holds.
-- Assumes nothing.
use mathlib.Core.Path.{◌≡◌, sym, ap, ◌∙◌}
use mathlib.Core.Bool.{Bool}
use mathlib.Core.List.{List, [], ◌∷◌, ◌++◌}
use Prim.Native.Nat.{ℕ, suc, ◌-◌, ◌<◌}
use native.Mathlib.Omega.{arith}
use lib.IntN.{ℤ}
use lib.ListN.{length, take}
use lib.Seq.{length-take-le}
use Rattle.lists.specs.Overwrite.{overwrite}
use Rattle.kept.specs.Walk.{walk_of}
use Rattle.kept.proofs.WalkLaws.{walk_cong}
use Rattle.tolerance.specs.declared.Parts.{Parts}
use Rattle.trace.specs.declared.Criterion.{Criterion}
use Rattle.trace.specs.Link.{valid}
use Rattle.trace.proofs.Validity.{steps_valid}
use Rattle.trace.proofs.UpTo.{valid_up_to}
use Rattle.reduction.specs.Walking.{walk_list}
use Rattle.turns.specs.declared.Sample.{Sample}
use Rattle.turns.specs.declared.Walk.{Walk}
use Rattle.turns.specs.Held.{Held, part, held_in}
use Rattle.scans.specs.Answers.{kept_before}
use Rattle.scans.specs.Scan.{criterion_at, walk_at, Walked, Scanning}
use Rattle.scans.specs.Stream.{Streams}
use Rattle.scans.proofs.PassLaws.{part_length}
use Rattle.scans.proofs.WalkedLaws.{kept_closes, closed_count, closed_list}

module _ (ts : List ℕ) (vs : List ℤ) (c : Criterion) (m : ℕ) where
  -- walk's list of the trace up to sample m
  walk_up_to : m < length ts → walk_list (take (suc m) ts) (take (suc m) vs) c ≡ walk_of (valid ts vs c) m
  walk_up_to inside =
      let e : length (take (suc m) ts) ≡ suc m = length-take-le (suc m) ts (omega arith) in
      let n : length (take (suc m) ts) - 1 ≡ m = omega arith in
      ap (walk_of (valid (take (suc m) ts) (take (suc m) vs) c)) n
      ∙ walk_cong (valid (take (suc m) ts) (take (suc m) vs) c) (valid ts vs c) (steps_valid (take (suc m) ts) (take (suc m) vs) c) (steps_valid ts vs c) m (valid_up_to ts vs c m)

  -- what walk has kept at sample m, closed with it
  pub kept_streams : m < length ts → kept_before (valid ts vs c) m ++ (m ∷ []) ≡ walk_list (take (suc m) ts) (take (suc m) vs) c
  kept_streams inside = sym (walk_up_to inside ∙ kept_closes (valid ts vs c) (steps_valid ts vs c) m)

-- ---- what the pass holds

walked_streams : {ts : List ℕ} {vs : List ℤ} {c : Criterion} {o : List ℕ} {j : ℕ} {h : Held} → Walked ts vs c o j h → j < length ts → j < length o → Streams ts vs c o j h
walked_streams {ts} {vs} {c} {o} {j} w inside room =
    let e = walk_up_to ts vs c j inside in
    record { list = closed_list w room ∙ ap (λ (l : List ℕ). overwrite l o) (sym e); count = closed_count w ∙ ap length (sym e) }

-- at every sample, of every tolerance
pub scanning_streams : {ts : List ℕ} {vs : List ℤ} {ps : List Parts} {o : List ℕ} {g j : ℕ} {here : Sample} {before : Bool} {ws : List Walk} {out : List ℕ} → Scanning ts vs ps g o j here before ws out
    → (a : ℕ) → a < length ps → Streams ts vs (criterion_at ps g a) (part (length ts) a o) j (held_in (length ts) a (walk_at ws a) out)
scanning_streams {ts} {ps = ps} {o} g a lt = walked_streams (g.each a lt) g.within (omega (arith, g.within, part_length (length ps) (length ts) a o g.given.room lt))

-- The contract of `hold`, from the answer.
-- Assumes nothing.
use Rattle.std.specs.Prelude.{None, Ok, Option, Result, Some}
use mathlib.Core.Path.{◌≡◌, sym, ◌∙◌}
use Prim.Native.Nat.{ℕ}
use native.Mathlib.Omega.{arith}
use Rattle.tolerance.specs.declared.Tolerance.{Tolerance}
use Rattle.tolerance.specs.declared.Parts.{Parts}
use Rattle.tolerance.specs.Meaning.{meaning}
use Rattle.tolerance.proofs.Meanings.{exact_held}
use Rattle.checking.specs.Hold.{holding_of, HoldOutcome}
use Rattle.refusal.specs.declared.Refusal.{Refusal}

held_meaning : (m : Option Parts) (x : Parts) → holding_of m ≡ Ok x → m ≡ Some x
held_meaning (Some y) x e = cc
held_meaning None x e = let z : ◌≡◌ {A = ℕ} 0 1 = cc in absurd (omega arith)

pub hold_outcome : (t : Tolerance) {m : Option Parts} {r : Result Parts Refusal} → m ≡ meaning t → r ≡ holding_of m → HoldOutcome t r
hold_outcome t {m} {r} em er = record {
  is = er ∙ rw em;
  held = λ x e. exact_held t x (sym em ∙ held_meaning m x (sym er ∙ e));
}

-- Laws of the margin of two edges, which tells whether a sample narrows a cone.
-- Assumes nothing.
use mathlib.Core.Path.{◌≡◌, refl, ap, ◌∙◌}
use mathlib.Core.Logic.{◌↔◌}
use Prim.Native.Nat.{ℕ, ◌+◌, ◌-◌, ◌*◌, ◌≤◌}
use native.Mathlib.Nat.{mul-le-mul}
use native.Mathlib.Omega.{arith}
use lib.Dec.{leb}
use lib.IntN.{pos, ◌-ℤ◌, ◌*ℤ◌}
use lib.Signed.{le_z}
use borrow.Author.Tests.{leb-true, le-leb}
use Rattle.lists.proofs.Tests.{tests_equal}
use Rattle.trace.specs.declared.Edge.{Edge}
use Rattle.trace.specs.Edge.{middle, climb_of, Slope, Tilt, no_steeper, lowered, raised}
use Rattle.trace.proofs.Difference.{Diff, minus, less, times, natural, ordered}

margin_diff : (a b : Edge) → Diff (climb_of a.rise *ℤ pos b.run -ℤ climb_of b.rise *ℤ pos a.run) (a.rise * b.run + middle * a.run) (middle * b.run + b.rise * a.run)
margin_diff a b = less (times (minus a.rise middle a.rise middle refl) b.run) (times (minus b.rise middle b.rise middle refl) a.run)

same_test : {a b c d : ℕ} → a ≤ b ↔ c ≤ d → leb a b ≡ leb c d
same_test {a} {b} {c} {d} h = tests_equal (leb a b) (leb c d) (λ t. le-leb c d (h.0 (leb-true a b t))) (λ t. le-leb a b (h.1 (leb-true c d t)))

-- the rise x of `to`, p lower, and the rise y of the held edge, over their runs w and r
lower_test : (x d p y r w : ℕ) → d + p ≡ x → p * r + (middle * r + y * w) ≤ x * r + middle * w + 0 ↔ y * w + middle * r ≤ d * r + middle * w
lower_test x d p y r w e = omega (arith, ap (λ (n : ℕ). n * r) e)

higher_test : (x p y r w : ℕ) → p * r + (middle * w + x * r) ≤ y * w + middle * r + 0 ↔ (x + p) * r + middle * w ≤ y * w + middle * r
higher_test x p y r w = omega arith

-- the margin is at least p over the run of the held edge
pub raises_is : (low to : Edge) {p : ℕ} → Tilt to p → le_z (pos (p * low.run)) (climb_of to.rise *ℤ pos low.run -ℤ climb_of low.rise *ℤ pos to.run) ≡ no_steeper low (lowered to p)
raises_is low to {p} t = ordered (natural (p * low.run)) (margin_diff to low) ∙ same_test (lower_test to.rise (to.rise - p) p low.rise low.run to.run (omega (arith, t.low)))

pub lowers_is : (high to : Edge) (p : ℕ) → le_z (pos (p * high.run)) (climb_of high.rise *ℤ pos to.run -ℤ climb_of to.rise *ℤ pos high.run) ≡ no_steeper (raised to p) high
lowers_is high to p = ordered (natural (p * high.run)) (margin_diff high to) ∙ same_test (higher_test to.rise p high.rise high.run to.run)

-- p over a run fits
pub product_bound : {e to : Edge} {p : ℕ} → Slope e → Tilt to p → p * e.run ≤ 288230101273804800
product_bound {p = p} h t = let most : p ≤ 274877906944 = omega (arith, t.high) in mul-le-mul most h.run_bound

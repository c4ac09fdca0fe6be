-- What the live view asks of link errors holds of those of a trace: a link over one step has none, and that of a link is at most twice that of a link
-- that encloses it (document 003, lemma 2.1).
-- Assumes nothing.
use mathlib.Core.Path.{ap}
use mathlib.Core.List.{List}
use Prim.Native.Nat.{ℕ, suc, ◌-◌, ◌*◌, ◌≤◌}
use native.Mathlib.Nat.{le_of_mul-le-mul_right}
use native.Mathlib.Omega.{arith}
use lib.IntN.{ℤ}
use lib.ListN.{length}
use Rattle.ratio.specs.declared.Ratio.{Ratio}
use Rattle.ratio.specs.Order.{plus}
use Rattle.trace.specs.Trace.{Trace}
use Rattle.trace.specs.Link.{link_error}
use Rattle.trace.proofs.Half.{inside_within}
use Rattle.trace.proofs.Errors.{linked, link_error_pos, within_link_error, step_error}
use Rattle.views.specs.View.{Doubles, StepsExact}

module _ {ts : List ℕ} {vs : List ℤ} (t : Trace ts vs) where
  pub steps_exact : StepsExact (link_error ts vs) (length ts - 1)
  steps_exact i h = ap (λ (x : Ratio). x.p) (step_error i (linked t i (suc i) (omega arith) (omega arith)))

  pub errors_double : Doubles (link_error ts vs) (length ts - 1)
  errors_double i j l r il lr rj jl =
      let e = link_error ts vs i j in
      let f = link_error ts vs l r in
      let twofold = (within_link_error (linked t l r lr (omega arith)) (plus e e) 1048575).0
      (inside_within t.rising vs il lr rj (omega arith) ((within_link_error (linked t i j (omega arith) jl) e 1048575).1 (omega arith))) in
      let twice : f.p * e.q ≤ 2 * (e.p * f.q) = le_of_mul-le-mul_right {k = e.q} (omega (arith, twofold)) (link_error_pos (linked t i j (omega arith) jl)) in
      omega (arith, twice)

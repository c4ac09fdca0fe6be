-- Law of the comparison: two accepted records are the same exactly if their bytes agree. Assumes nothing.
use mathlib.Core.Path.{◌≡◌, sym, ap, ◌∙◌}
use mathlib.Core.Logic.{◌↔◌}
use mathlib.Core.List.{List}
use Prim.Native.Nat.{ℕ}
use Rattle.format.specs.Format.{Content, Accepted, SameRecord, parse, says, encode}

-- an accepted record is the one that its content is written as, and says nothing else
pub same_bytes : {a b : List ℕ} {x y : Content} → Accepted a x → Accepted b y → SameRecord x y ↔ a ≡ b
same_bytes {a} {b} {x} {y} p q = (
  λ s. let e : x ≡ y = rw (s.tolerance, s.ticks, s.values) in p.bytes ∙ ap encode e ∙ sym q.bytes,
  λ e.
      let s : says x ≡ says y = sym p.parsed ∙ ap parse e ∙ q.parsed in
      let d : x ≡ y = cc in
      record { tolerance = ap (λ (w : Content). w.tolerance) d; ticks = ap (λ (w : Content). w.ticks) d; values = ap (λ (w : Content). w.values) d },
)

-- The conversion of several tolerances meets its contract. Assumes nothing.
use mathlib.Core.Path.{◌≡◌, sym, ◌∙◌}
use mathlib.Core.List.{List, map}
use Prim.Native.Nat.{ℕ, ◌≤◌}
use native.Mathlib.Omega.{arith}
use lib.ListN.{length, length-map, get_or-map}
use Rattle.lists.proofs.OverwriteLaws.{overwrite_whole}
use Rattle.lists.proofs.PartLaws.{Writing, writing_none, writing_more, writing_all}
use Rattle.tolerances.specs.declared.Entry.{Entry}
use Rattle.border.specs.Border.{entry_of}
use Rattle.border.proofs.arguments.TolerancesTolerancesFromTolerances.from.Goals as goal

-- all 16 are written
whole : {l o out : List Entry} {k : ℕ} → Writing l o out k → length l ≡ 16 → 16 ≤ k → length o ≤ 16 → out ≡ l
whole {l} {o} w s le h = writing_all w (omega arith) ∙ overwrite_whole l o (omega arith)

pub loop-k-init : goal.loop-k-init
loop-k-init c = writing_none _ _

-- that the array has 16 entries stands in what owning it tells
pub loop-k-preserved : goal.loop-k-preserved
loop-k-preserved c =
    let s : length (map entry_of c.args.t.list) ≡ 16 = length-map c.args.t.list entry_of ∙ c.well_formed.0.1.1.1.0.1.0.1 in
    writing_more c.loop-k.invariant _ (omega (arith, c.loop-k-test.true)) (omega arith) (c.from.ensures ∙ sym (get_or-map entry_of c.args.t.list _ _))

pub returns : goal.returns
returns c = rw (whole c.loop-k.invariant (length-map c.args.t.list entry_of ∙ c.well_formed.0.1.1.1.0.1.0.1) (omega (arith, c.loop-k-test.false)) (omega arith))

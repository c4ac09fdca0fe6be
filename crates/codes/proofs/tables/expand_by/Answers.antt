-- `codes::tables::expand_by` meets its contract. The loop's invariant: the values of the codes passed are written over the
-- list. Assumes nothing.
use Prim.Native.Nat.{ℕ}
use mathlib.Core.Path.{◌≡◌}
use mathlib.Core.List.{List}
use native.Mathlib.Omega.{arith}
use lib.IntN.{ℤ, pos}
use lib.ListN.{length}
use Rattle.std.proofs.lemmas.Int.{ints, to_z-of_z}
use Rattle.lists.proofs.PartLaws.{writing_more}
use Rattle.lists.proofs.SelectLaws.{select_length, select_at}
use Rattle.codes.specs.RangeTable.{values_in}
use Rattle.codes.proofs.tables.expand_by.Goals as goal

count : (t : List ℤ) (codes : List ℕ) → length (values_in t codes) ≡ length codes
count t codes = select_length (pos 0) t codes

pub loop-i-preserved : goal.loop-i-preserved
loop-i-preserved c =
    let t = c.args.table.now in
    let codes = c.args.codes.now in
    let n = count t codes in
    writing_more c.loop-i.invariant (pos 0) (omega (arith, n)) (omega (arith, n)) (grind (arith, ints, to_z-of_z, select_at (pos 0) t codes c.loop-i.i))

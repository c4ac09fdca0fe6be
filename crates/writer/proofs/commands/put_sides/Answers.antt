-- `writer::commands::put_sides` meets its contract: each number of the part below is written over the part after what is written. Assumes nothing.
use mathlib.Core.Path.{◌≡◌, refl}
use mathlib.Core.List.{List, [], ◌∷◌}
use Prim.Native.Nat.{ℕ, ◌-◌}
use lib.ListN.{length, take, drop}
use borrow.Rule.Slice.PartMut.{put_mid}
use Rattle.lists.specs.Overwrite.{overwrite}
use Rattle.lists.proofs.PartLaws.{written_part}
use Rattle.tolerance.specs.declared.Parts.{Parts}
use Rattle.format.specs.declared.Command.TheVariants.{Sides}
use Rattle.format.specs.Number.{bytes_onto}
use Rattle.format.specs.Command.{ratio_onto, command_onto}
use Rattle.writer.proofs.commands.put_sides.Goals as goal

-- the kind and the part above are written as one; the numbers of the part below come back as ys and zs
module _ (o : List ℕ) (x : Parts) (one : List ℕ) (e : one ≡ overwrite (0x42 ∷ ratio_onto x.up []) o)
    (ys : List ℕ) (ey : ys ≡ overwrite (bytes_onto 5 x.down.p []) (take (length one - 9) (drop 9 one))) where
  abbrev two : List ℕ
  two = put_mid 9 (length one - 9) one ys

  two_is : two ≡ overwrite (0x42 ∷ ratio_onto x.up (bytes_onto 5 x.down.p [])) o
  unfolding bytes_onto
  two_is = written_part one o (0x42 ∷ ratio_onto x.up []) (bytes_onto 5 x.down.p []) ys 9 e refl ey

  sides_are : (zs : List ℕ) → zs ≡ overwrite (bytes_onto 3 x.down.q []) (take (length two - 14) (drop 14 two)) → put_mid 14 (length two - 14) two zs ≡ overwrite (command_onto (Sides x) []) o
  unfolding bytes_onto
  sides_are zs ez = written_part two o (0x42 ∷ ratio_onto x.up (bytes_onto 5 x.down.p [])) (bytes_onto 3 x.down.q []) zs 14 two_is refl ez

pub returns : goal.returns
returns c =
    let a = c.args in
    sides_are a.part.now a.x c.put_operands.new.part c.put_operands.ensures c.put_number.new.part c.put_number.ensures c.put_number-2.new.part c.put_number-2.ensures

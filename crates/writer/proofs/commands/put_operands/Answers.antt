-- `writer::commands::put_operands` meets its contract: the kind is written over the part's first byte, and each operand over the part after
-- what is written. Assumes nothing.
use mathlib.Core.Path.{◌≡◌, refl, sym, ap, ◌∙◌}
use mathlib.Core.List.{List, [], ◌∷◌}
use Prim.Native.Nat.{ℕ, ◌+◌, ◌-◌, ◌≤◌}
use native.Mathlib.Omega.{arith}
use lib.ListN.{length, take, drop, set}
use borrow.Rule.Slice.PartMut.{put_mid}
use Rattle.lists.specs.Overwrite.{overwrite}
use Rattle.lists.proofs.OverwriteLaws.{overwrite_length}
use Rattle.lists.proofs.PartLaws.{overwrite_first, part_length, written_part}
use Rattle.format.specs.Number.{bytes_onto}
use Rattle.format.proofs.NumberLaws.{bytes_append, bytes_length}
use Rattle.writer.proofs.commands.put_operands.Goals as goal

-- a part o, with the kind at its start
module _ (o : List ℕ) (kind i a j b : ℕ) (room : 1 + i + j ≤ length o) where
  abbrev zero : List ℕ
  zero = set o 0 kind

  -- the first operand comes back as ys
  module _ (ys : List ℕ) (ey : ys ≡ overwrite (bytes_onto i a []) (take (length zero - 1) (drop 1 zero))) where
    abbrev one : List ℕ
    one = put_mid 1 (length zero - 1) zero ys

    one_is : one ≡ overwrite (kind ∷ bytes_onto i a []) o
    one_is = written_part zero o (kind ∷ []) (bytes_onto i a []) ys 1 (overwrite_first o kind (omega arith)) refl ey

    one_length : length one ≡ length o
    one_length = ap length one_is ∙ overwrite_length (kind ∷ bytes_onto i a []) o (omega (arith, bytes_length i a []))

    second_room : j ≤ length (take (length one - (1 + i)) (drop (1 + i) one))
    second_room = rw (part_length one (1 + i), one_length) (omega arith)

    -- the second one comes back as zs
    module _ (zs : List ℕ) (ez : zs ≡ overwrite (bytes_onto j b []) (take (length one - (1 + i)) (drop (1 + i) one))) where
      two_is : put_mid (1 + i) (length one - (1 + i)) one zs ≡ overwrite (kind ∷ bytes_onto i a (bytes_onto j b [])) o
      two_is =
          written_part one o (kind ∷ bytes_onto i a []) (bytes_onto j b []) zs (1 + i) one_is (omega (arith, bytes_length i a [])) ez
          ∙ ap (λ (x : List ℕ). overwrite (kind ∷ x) o) (sym (bytes_append i a [] (bytes_onto j b [])))

      two_length : length (put_mid (1 + i) (length one - (1 + i)) one zs) ≡ length o
      two_length = ap length two_is ∙ overwrite_length (kind ∷ bytes_onto i a (bytes_onto j b [])) o (omega (arith, bytes_length i a (bytes_onto j b []), bytes_length j b []))

pub returns : goal.returns
returns c =
    rw (← c.from.ensures) (two_is c.args.part.now c.from.result c.args.i c.args.a c.args.j c.args.b c.requires.0 c.put_number.new.part c.put_number.ensures c.put_number-2.new.part c.put_number-2.ensures)

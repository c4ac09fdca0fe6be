-- The commands of a record (document 01, "The record", the table of commands; document 02, "Above and below", for 42).
--   ratio_onto     a ratio as it is written, before other bytes: p in 5 bytes, q in 3
--   ratio_at       the ratio from a place on
--   RatioRange     the range of what these bytes hold
--   size_of        the bytes of a command
--   command_onto   a command as it is written, before other bytes
--   choose         one of two, by a test
--   opens          bytes start with a whole command of a kind
--   command_of     the command that bytes start with: Invalid if it is cut off or none of the table's
--   Operands       the ranges of a command's operands
-- Laws are in CommandLaws. Assumes nothing.
use Rattle.std.specs.Prelude.{Bool, true, false, ◌&&◌, List, ◌∷◌, ℕ, ◌+◌, ◌≤◌, leb, eqb, length, get_or}
use Rattle.ratio.specs.declared.Ratio.{Ratio}
use Rattle.ratio.specs.Order.{over}
use Rattle.format.specs.Number.{field, bytes_onto, flip16, flip8}
use Rattle.format.specs.declared.Command.{Command}
use Rattle.format.specs.declared.Command.TheVariants.{Tolerance, Sides, First, Short, Long, End, Invalid}

abbrev pub ratio_onto : Ratio → List ℕ → List ℕ
ratio_onto r xs = bytes_onto 5 r.p (bytes_onto 3 r.q xs)

abbrev pub ratio_at : List ℕ → ℕ → Ratio
ratio_at s i = over (field s i 5) (field s (i + 5) 3)

abbrev pub RatioRange : Ratio → Type 0
RatioRange r = (r.p ≤ 1099511627775) × (r.q ≤ 16777215)

abbrev pub size_of : Command → ℕ
size_of (Tolerance r) = 9
size_of (Sides x) = 17
size_of (First t l) = 7
size_of (Short a d) = 3
size_of (Long a l) = 6
size_of (End n) = 3
size_of Invalid = 0

abbrev pub command_onto : Command → List ℕ → List ℕ
command_onto (Tolerance r) xs = 0x54 ∷ ratio_onto r xs
command_onto (Sides x) xs = 0x42 ∷ ratio_onto x.up (ratio_onto x.down xs)
command_onto (First t l) xs = 0x41 ∷ bytes_onto 4 t (bytes_onto 2 (flip16 l) xs)
command_onto (Short a d) xs = 0x53 ∷ bytes_onto 1 a (bytes_onto 1 (flip8 d) xs)
command_onto (Long a l) xs = 0x4C ∷ bytes_onto 3 a (bytes_onto 2 (flip16 l) xs)
command_onto (End n) xs = 0x45 ∷ bytes_onto 2 n xs
command_onto Invalid xs = xs

abbrev pub choose : {A : Type 0} → Bool → A → A → A
choose true a b = a
choose false a b = b

-- s starts with a whole command of the kind c, of k bytes
abbrev pub opens : ℕ → ℕ → List ℕ → Bool
opens c k s = eqb (get_or s 0 0) c && leb k (length s)

unfoldable pub command_of : List ℕ → Command
command_of s =
    choose (opens 0x54 9 s) (Tolerance (ratio_at s 1))
    (choose (opens 0x41 7 s) (First (field s 1 4) (flip16 (field s 5 2)))
    (choose (opens 0x53 3 s) (Short (field s 1 1) (flip8 (field s 2 1)))
    (choose (opens 0x4C 6 s) (Long (field s 1 3) (flip16 (field s 4 2)))
    (choose (opens 0x45 3 s) (End (field s 1 2))
    (choose (opens 0x42 17 s) (Sides (record { up = ratio_at s 1; down = ratio_at s 9 })) Invalid)))))

abbrev pub Operands : Command → Type 0
Operands (Tolerance r) = RatioRange r
Operands (Sides x) = RatioRange x.up × RatioRange x.down
Operands (First t l) = (t ≤ 4294967295) × (l ≤ 65535)
Operands (Short a d) = (a ≤ 255) × (d ≤ 255)
Operands (Long a l) = (a ≤ 16777215) × (l ≤ 65535)
Operands (End n) = n ≤ 65535
Operands Invalid = ⊥

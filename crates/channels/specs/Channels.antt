-- Channels that come end to end (document 02, "Whole-crate report"): their entries of a list, and row 11 of the table.
--   part                       n entries from a place on
--   sum, place_of, of_channel  the sum of lengths; where a channel begins; its entries of a list
--   crate_row                  row 11
--   Divided                    what it shows: at most 64 channels, whose lengths add up to each list
-- Laws are in ChannelLaws. Assumes nothing.
use Rattle.std.specs.Prelude.{◌≡◌, ◌&&◌, List, [], ◌∷◌, ℕ, ◌+◌, ◌≤◌, leb, eqb, ℤ, length, take, drop, get_or}
use Rattle.refusal.specs.declared.Refusal.TheVariants.{Crate}
use Rattle.refusal.specs.Table.{row, Checked}

abbrev pub part : {A : Type 0} → ℕ → ℕ → List A → List A
part at n l = take n (drop at l)

abbrev pub sum : List ℕ → ℕ
sum [] = 0
sum (n ∷ ls) = n + sum ls

abbrev pub place_of : List ℕ → ℕ → ℕ
place_of ls i = sum (take i ls)

abbrev pub of_channel : {A : Type 0} → List ℕ → ℕ → List A → List A
of_channel ls i l = part (place_of ls i) (get_or ls i 0) l

-- 11: no channels, more than 64, or lengths that do not add up to each list
unfoldable pub crate_row : List ℕ → List ℤ → List ℕ → Checked
crate_row ts vs ls = row (leb 1 (length ls) && leb (length ls) 64 && eqb (sum ls) (length ts) && eqb (sum ls) (length vs)) Crate

pub record Divided (ts : List ℕ) (vs : List ℤ) (ls : List ℕ) : Type 0 where
  pub few : length ls ≤ 64
  pub ticks : sum ls ≡ length ts
  pub values : sum ls ≡ length vs

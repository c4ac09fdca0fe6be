-- Summed channels (document 02, "Summed channels"): two traces added sample by sample, and their two kept lists joined.
--   sums_of                     the values of the summed trace
--   outside                     a sum that is below -32,768 or above 32,767
--   overflow_at, overflow_row   a sample whose sum is; row 18
--   sum_rows                    the first row that applies to two traces, two lists and two outputs
--   is_entry, in_either         a sample in a list; in either of two
--   joined_of                   the rising list of the samples in either list
--   parts_sum                   U1 + D1 + U2 + D2
--   twice_sum                   2 (T1 + T2), where the parts agree
--   JoinedWithin                what is promised of the joined list
--   Summable, Joinable          what the checks show of traces to be added and of lists to be joined
-- Laws are in RowLaws, EntryLaws, JoinLaws and SumLaws. Assumes nothing.
use Rattle.std.specs.Prelude.{Bool, false, ◌||◌, List, [], ◌∷◌, ◌≡◌, ℕ, ◌+◌, ◌-◌, ◌*◌, ◌≤◌, eqb, ℤ, pos, negsuc, ◌+ℤ◌, length}
use Rattle.std.specs.Int.Signed.{lt_z}
use Rattle.lists.specs.First.{first, Clear}
use Rattle.lists.specs.Listed.{listed}
use Rattle.refusal.specs.declared.Refusal.TheVariants.{Overflow}
use Rattle.refusal.specs.Table.{placed, room_row, ◌then_check◌, Checked}
use Rattle.ratio.specs.declared.Ratio.{Ratio}
use Rattle.ratio.specs.Order.{plus}
use Rattle.kept.specs.Kept.{KeptList, AllValid}
use Rattle.trace.specs.Trace.{value, trace_rows}
use Rattle.trace.specs.Link.{valid, parted, limited}
use Rattle.proposed.specs.Proposed.{list_row}
use Rattle.matching.specs.Match.{mismatch_row}

-- ---- rows

-- sample by sample
abbrev pub sums_of : List ℤ → List ℤ → List ℤ
sums_of [] ws = []
sums_of (v ∷ vs) [] = []
sums_of (v ∷ vs) (w ∷ ws) = (v +ℤ w) ∷ sums_of vs ws

abbrev pub outside : ℤ → Bool
outside z = lt_z z (negsuc 32767) || lt_z (pos 32767) z

abbrev pub overflow_at : List ℤ → List ℤ → ℕ → Bool
overflow_at vs ws k = outside (value vs k +ℤ value ws k)

-- 18: the first sum outside -32,768 to 32,767, at its sample
unfoldable pub overflow_row : List ℤ → List ℤ → Checked
overflow_row vs ws = placed Overflow (length vs) (first (overflow_at vs ws) 0 (length vs))

-- each trace and each list in full before the next; 10 last: the sums and the joined list each need an entry a sample
unfoldable pub sum_rows : List ℕ → List ℤ → List ℕ → List ℤ → List ℕ → List ℕ → ℕ → ℕ → Checked
sum_rows ts vs us ws l m room room' =
    trace_rows 4096 ts vs then_check trace_rows 4096 us ws then_check list_row (length ts) l then_check list_row (length us) m then_check mismatch_row ts us
    then_check overflow_row vs ws then_check room_row (length ts) room then_check room_row (length ts) room'

-- ---- the joined list

abbrev pub is_entry : List ℕ → ℕ → Bool
is_entry [] k = false
is_entry (i ∷ l) k = eqb k i || is_entry l k

abbrev pub in_either : List ℕ → List ℕ → ℕ → Bool
in_either l m k = is_entry l k || is_entry m k

-- of n samples
unfoldable pub joined_of : ℕ → List ℕ → List ℕ → List ℕ
joined_of n l m = listed (in_either l m) n

-- ---- the promise

-- U1 + D1 + U2 + D2, for any four fractions
abbrev pub parts_sum : Ratio → Ratio → Ratio → Ratio → Ratio
parts_sum u d v e = plus (plus u d) (plus v e)

abbrev pub twice_sum : Ratio → Ratio → Ratio
twice_sum a b = record { p = 2 * (a.p * b.q + b.p * a.q); q = a.q * b.q }

-- if list 1 is within the parts U1 and D1 of trace 1 and list 2 within U2 and D2 of trace 2, and both obey the gap limit g, then the joined list is
-- within U1 + D1 + U2 + D2 of the summed trace on either side, and obeys g (document 02, "Above and below")
abbrev pub JoinedWithin : List ℕ → List ℤ → List ℕ → List ℤ → List ℕ → List ℕ → Type 0
JoinedWithin ts vs us ws l m =
    (u d v e : Ratio) (g : ℕ) → AllValid (valid ts vs (parted g u d)) l → AllValid (valid us ws (parted g v e)) m
    → AllValid (valid ts (sums_of vs ws) (limited g (parts_sum u d v e))) (joined_of (length ts) l m)

-- ---- what the checks show

-- values of equally many samples, whose sums are in range
pub record Summable (vs ws : List ℤ) (room : ℕ) : Type 0 where
  pub same : length ws ≡ length vs
  pub fits : Clear (overflow_at vs ws) 0 (length vs)
  pub entries : length vs ≤ room

-- kept lists of n samples
pub record Joinable (n : ℕ) (l m : List ℕ) (room : ℕ) : Type 0 where
  pub some : 1 ≤ n
  pub few : n ≤ 4096
  pub first : KeptList (n - 1) l
  pub second : KeptList (n - 1) m
  pub entries : n ≤ room

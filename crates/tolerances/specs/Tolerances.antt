-- The checks of a trace and several tolerances under one gap limit (document 02, "Sixteen tolerances in one reading").
--   tolerance_at, limits_at    tolerance a of a list, and the limits of a separate call with it
--   bad_at                     tolerance a is not allowed
--   count_row                  row 19
--   held_rows                  the first of the rows 4, 15, 10 that applies, where so many of the first tolerances are allowed
--   several_rows               the first of the rows 19, 4, 15, 10 that applies, for lists of n entries, one after another
--   scan_rows                  the first of the rows 1, 2, 3, 19, 4, 15, 10 that applies
--   parts_at                   the parts of tolerance a in a list
--   Each                       the parts under which the tolerances before k are held
--   each_row, Holds            row 4; what check 4 gives: the parts of each tolerance, or the row and the parts of those before the first bad one
--   Several                    what the checks 19, 4, 15, 10 give: the parts of each tolerance and room
--   ScanReady, ScanPrepared    what all checks give: a trace too, or the row
-- Laws are in TolerancesLaws. Assumes nothing.
use Rattle.std.specs.Prelude.{◌≡◌, Bool, true, false, ◌&&◌, List, ℕ, ◌*◌, ◌≤◌, ◌<◌, leb, ℤ, length, get_or, None, Ok, Err, Option, Result, Some}
use Rattle.lists.specs.First.{first}
use Rattle.ratio.specs.Order.{over}
use Rattle.refusal.specs.declared.Refusal.{Refusal}
use Rattle.refusal.specs.declared.Refusal.TheVariants.{Tolerance as NotAllowedAt, Count}
use Rattle.refusal.specs.Table.{row, placed, room_row, ◌then_check◌, Checked}
use Rattle.tolerance.specs.declared.Parts.{Parts}
use Rattle.tolerance.specs.declared.Tolerance.{Tolerance}
use Rattle.tolerance.specs.declared.Tolerance.TheVariants.{Ratio}
use Rattle.tolerance.specs.Meaning.{meaning}
use Rattle.trace.specs.Trace.{Trace, trace_rows}
use Rattle.limits.specs.declared.Limits.{Limits}
use Rattle.limits.specs.Prepare.{gap_row}
use Rattle.tolerances.specs.declared.Tolerances.{Tolerances}

-- 0/0, which is not allowed, behind the list
abbrev pub tolerance_at : Tolerances → ℕ → Tolerance
tolerance_at t a = (get_or t.list a (record { tolerance = Ratio 0 0 })).tolerance

abbrev pub limits_at : Tolerances → ℕ → ℕ → Limits
limits_at t g a = record { tolerance = tolerance_at t a; gap = g }

abbrev not_allowed : Option Parts → Bool
not_allowed (Some x) = false
not_allowed None = true

unfoldable pub bad_at : Tolerances → ℕ → Bool
bad_at t a = not_allowed (meaning (tolerance_at t a))

-- 19: no tolerances, or more than 16
abbrev pub count_row : ℕ → Checked
count_row m = row (leb 1 m && leb m 16) Count

-- 4, with the position of the first that is not allowed, then 15 and 10, where each tolerance needs n entries
abbrev pub held_rows : ℕ → ℕ → ℕ → ℕ → ℕ → Checked
held_rows m held g n room = placed NotAllowedAt m held then_check gap_row g then_check room_row (m * n) room

unfoldable pub several_rows : Tolerances → ℕ → ℕ → ℕ → Checked
several_rows t g n room = count_row t.count then_check held_rows t.count (first (bad_at t) 0 t.count) g n room

unfoldable pub scan_rows : List ℕ → List ℤ → Tolerances → ℕ → ℕ → Checked
scan_rows ts vs t g room = trace_rows 4096 ts vs then_check several_rows t g (length ts) room

abbrev pub parts_at : List Parts → ℕ → Parts
parts_at l a = get_or l a (record { up = over 0 0; down = over 0 0 })

-- the parts of the tolerances before k
pub record Each (t : Tolerances) (k : ℕ) (l : List Parts) : Type 0 where
  pub size : length l ≡ 16
  pub held : (a : ℕ) → a < k → meaning (tolerance_at t a) ≡ Some (parts_at l a)

abbrev pub each_row : Tolerances → Checked
each_row t = placed NotAllowedAt t.count (first (bad_at t) 0 t.count)

abbrev pub Holds : Tolerances → Checked → List Parts → Type 0
Holds t (Ok _) l = (each_row t ≡ Ok tt) × Each t t.count l
Holds t (Err x) l = (each_row t ≡ Err x) × Each t (first (bad_at t) 0 t.count) l

pub record Several (t : Tolerances) (g n room : ℕ) (l : List Parts) : Type 0 where
  pub few : t.count ≤ 16
  pub each : Each t t.count l
  pub gap : gap_row g ≡ Ok tt
  pub room_is : t.count * n ≤ room

pub record ScanReady (ts : List ℕ) (vs : List ℤ) (t : Tolerances) (g room : ℕ) (l : List Parts) : Type 0 where
  pub rows : scan_rows ts vs t g room ≡ Ok tt
  pub row : trace_rows 4096 ts vs ≡ Ok tt
  pub trace : Trace ts vs
  pub several : Several t g (length ts) room l

abbrev pub ScanPrepared : List ℕ → List ℤ → Tolerances → ℕ → ℕ → Result (List Parts) Refusal → Type 0
ScanPrepared ts vs t g room (Ok l) = ScanReady ts vs t g room l
ScanPrepared ts vs t g room (Err x) = scan_rows ts vs t g room ≡ Err x

-- Where the ticks of two traces agree (document 02, "Summed channels").
--   differ_at      a sample whose ticks differ or that one trace lacks
--   mismatch_row   row 17
-- Laws are in MatchLaws. Assumes nothing.
use Rattle.std.specs.Prelude.{Bool, not, ◌||◌, List, ℕ, min, max, leb, eqb, length}
use Rattle.lists.specs.First.{first}
use Rattle.refusal.specs.declared.Refusal.TheVariants.{Mismatch}
use Rattle.refusal.specs.Table.{placed, Checked}
use Rattle.trace.specs.Trace.{tick}

-- the ticks of sample k differ, or one trace lacks it
abbrev pub differ_at : List ℕ → List ℕ → ℕ → Bool
differ_at ts us k = leb (min (length ts) (length us)) k || not (eqb (tick ts k) (tick us k))

-- 17: ticks differ, at the first sample that differs or is missing in one
unfoldable pub mismatch_row : List ℕ → List ℕ → Checked
mismatch_row ts us = let n = max (length ts) (length us) in placed Mismatch n (first (differ_at ts us) 0 n)

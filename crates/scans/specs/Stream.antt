-- The streaming promise (document 02, "Sixteen tolerances in one reading"): after each sample the answers so far, closed with that sample, are those
-- of the separate calls on the trace up to there.
--   Streams     what is held of a tolerance, closed with sample j, is walk's list of the trace up to j
-- The law is in StreamLaws. Assumes nothing.
use Rattle.std.specs.Prelude.{◌≡◌, List, ℕ, suc, ◌+◌, ℤ, length, set, take}
use Rattle.lists.specs.Overwrite.{overwrite}
use Rattle.trace.specs.declared.Criterion.{Criterion}
use Rattle.reduction.specs.Walking.{walk_list}
use Rattle.turns.specs.Held.{Held}

pub record Streams (ts : List ℕ) (vs : List ℤ) (c : Criterion) (o : List ℕ) (j : ℕ) (h : Held) : Type 0 where
  pub list : set h.list h.count j ≡ overwrite (walk_list (take (suc j) ts) (take (suc j) vs) c) o
  pub count : h.count + 1 ≡ length (walk_list (take (suc j) ts) (take (suc j) vs) c)

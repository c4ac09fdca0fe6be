-- Walk over a trace (document 003, section 2.1, and document 01, "The four reductions").
--   walk_list   walk's list of a trace
-- Assumes nothing.
use Rattle.std.specs.Prelude.{List, ℕ, ◌-◌, ℤ, length}
use Rattle.kept.specs.Walk.{walk_of}
use Rattle.trace.specs.declared.Criterion.{Criterion}
use Rattle.trace.specs.Link.{valid}

abbrev pub walk_list : List ℕ → List ℤ → Criterion → List ℕ
walk_list ts vs c = walk_of (valid ts vs c) (length ts - 1)

-- Samples by value, and edges made of them.
--   SampleAt     s is sample k of a trace
--   edge_from    the edge from a start, given by its tick and level, to a sample
--   aim_from     the edges to it, at both scales of a criterion
--   Ahead        the sample lies at or after that start, within the span, and their levels fit
-- Laws are in SampleLaws. Assumes nothing.
use Rattle.std.specs.Prelude.{◌≡◌, List, ℕ, ◌+◌, ◌-◌, ◌*◌, ◌≤◌, ℤ}
use Rattle.trace.specs.declared.Criterion.{Criterion}
use Rattle.trace.specs.declared.Edge.{Edge}
use Rattle.trace.specs.declared.Aim.{Aim}
use Rattle.trace.specs.Trace.{tick, value}
use Rattle.trace.specs.Level.{LevelOf}
use Rattle.trace.specs.Edge.{middle, edge_of}
use Rattle.turns.specs.declared.Sample.{Sample}

pub record SampleAt (ts : List ℕ) (vs : List ℤ) (k : ℕ) (s : Sample) : Type 0 where
  pub tick : s.tick ≡ tick ts k
  pub level : LevelOf (value vs k) s.level

abbrev pub edge_from : ℕ → ℕ → ℕ → Sample → Edge
edge_from q tick level to = edge_of (q * to.level + (middle - q * level)) (to.tick - tick)

abbrev pub aim_from : Criterion → ℕ → ℕ → Sample → Aim
aim_from c tick level to = record { up = edge_from c.up.q tick level to; down = edge_from c.down.q tick level to }

pub record Ahead (tick level : ℕ) (to : Sample) : Type 0 where
  pub from : level ≤ 65535
  pub order : tick ≤ to.tick
  pub span : to.tick ≤ tick + 1048575
  pub short : to.level ≤ 65535

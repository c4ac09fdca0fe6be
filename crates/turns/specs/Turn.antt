-- Walk's turn at one step: what it takes, and what becomes of the walk.
--   started               a walk with no open link
--   narrowed, restarted   the new sample is taken in; the open link starts from the sample before
--   Turning               the turn can be made
--   Became                the walk holds h, and the other parts of the output stayed
-- Laws are in HeldLaws. Assumes nothing.
use Rattle.std.specs.Prelude.{◌≡◌, ◌≢◌, List, ℕ, ◌*◌, ◌≤◌, ◌<◌, pos, length, drop}
use Rattle.trace.specs.declared.Criterion.{Criterion}
use Rattle.trace.specs.declared.Edge.{Edge}
use Rattle.trace.specs.Cone.{cone_from, extended_by}
use Rattle.turns.specs.declared.Sample.{Sample}
use Rattle.turns.specs.declared.Step.{Step}
use Rattle.turns.specs.declared.Walk.{Walk}
use Rattle.turns.specs.Sample.{aim_from}
use Rattle.turns.specs.Held.{Held, Steps, part, held_in}

abbrev none : Edge
none = record { rise = 0; run = 0; climb = pos 0 }

abbrev pub started : Criterion → ℕ → Walk
started c place = record { criterion = c; tick = 0; level = 0; cone = record { low = none; high = none }; place = place }

abbrev pub narrowed : Sample → Walk → Walk
narrowed here w = record w { cone = extended_by w.cone (aim_from w.criterion w.tick w.level here) w.criterion }

abbrev pub restarted : Sample → Sample → Walk → Walk
restarted before here w = record w {
  tick = before.tick;
  level = before.level;
  cone = extended_by (cone_from w.criterion) (aim_from w.criterion before.tick before.level here) w.criterion;
}

-- which part of the output the walk writes into is not asked
pub record Turning (step : Step) (w : Walk) (out : List ℕ) : Type 0 where
  pub steps : Steps w.criterion step.cut step.before step.here (held_in 0 0 w out)
  pub room : w.place < length out
  pub number : step.at < 65536

-- the place in part a may only go on
pub record Became (n a : ℕ) (h : Held) (w : Walk) (out : List ℕ) (w' : Walk) (out' : List ℕ) : Type 0 where
  pub criterion : w'.criterion ≡ w.criterion
  pub this : held_in n a w' out' ≡ h
  pub place : w.place ≤ w'.place
  pub others : (b : ℕ) → b ≢ a → part n b out' ≡ part n b out
  pub beyond : (m : ℕ) → a < m → drop (m * n) out' ≡ drop (m * n) out

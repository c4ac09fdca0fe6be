-- What is held of one tolerance between two samples, and the step that takes the next sample in.
--   Held       the start of the open link, by its tick and level; the cone of its links; how many samples are kept; the part of the output
--   goes_on    the link to the new sample is valid: it is not cut by a hole, and passes every sample taken in
--   further    the open link goes on to the new sample
--   anew       the sample before is kept, and the open link starts from it
--   stepped    one of the two
--   Goes       the numbers of that test fit
--   Steps      the numbers of a step fit
--   part       part a of an output whose parts are n long
--   Inside     x is a place of part a
--   held_in    what a walk that writes into part a holds
-- Laws are in HeldLaws. Assumes nothing.
use Rattle.std.specs.Prelude.{◌≡◌, Bool, false, cond, not, ◌&&◌, List, ℕ, ◌+◌, ◌-◌, ◌*◌, ◌≤◌, ◌<◌, set, take, drop}
use Rattle.trace.specs.declared.Criterion.{Criterion}
use Rattle.trace.specs.declared.Cone.{Cone}
use Rattle.trace.specs.Link.{Bounded}
use Rattle.trace.specs.Cone.{cone_from, admits_edge, extended_by, ConeFits}
use Rattle.turns.specs.declared.Sample.{Sample}
use Rattle.turns.specs.declared.Walk.{Walk}
use Rattle.turns.specs.Sample.{aim_from, Ahead}

pub record Held : Type 0 where
  pub tick : ℕ
  pub level : ℕ
  pub cone : Cone
  pub count : ℕ
  pub list : List ℕ

abbrev pub goes_on : Criterion → Bool → Sample → ℕ → ℕ → Cone → Bool
goes_on c cut here tick level cone = not cut && admits_edge cone (aim_from c tick level here)

abbrev pub further : Criterion → Sample → Held → Held
further c here h = record {
  tick = h.tick;
  level = h.level;
  cone = extended_by h.cone (aim_from c h.tick h.level here) c;
  count = h.count;
  list = h.list;
}

-- `at` is the number of the sample before
abbrev pub anew : Criterion → Sample → Sample → ℕ → Held → Held
anew c before here at h = record {
  tick = before.tick;
  level = before.level;
  cone = extended_by (cone_from c) (aim_from c before.tick before.level here) c;
  count = h.count + 1;
  list = set h.list h.count at;
}

unfoldable pub stepped : Criterion → Bool → Sample → Sample → ℕ → Held → Held
stepped c cut before here at h = cond (goes_on c cut here h.tick h.level h.cone) (further c here h) (anew c before here at h)

-- where the link is not cut
pub record Goes (cut : Bool) (here : Sample) (tick level : ℕ) (cone : Cone) : Type 0 where
  pub ahead : cut ≡ false → Ahead tick level here
  pub fits : cut ≡ false → ConeFits cone

pub record Steps (c : Criterion) (cut : Bool) (before here : Sample) (h : Held) : Type 0 where
  pub bounded : Bounded c
  pub goes : Goes cut here h.tick h.level h.cone
  pub again : Ahead before.tick before.level here

abbrev pub part : ℕ → ℕ → List ℕ → List ℕ
part n a out = take n (drop (a * n) out)

pub record Inside (n a x : ℕ) : Type 0 where
  pub from : a * n ≤ x
  pub to : x < a * n + n

abbrev pub held_in : ℕ → ℕ → Walk → List ℕ → Held
held_in n a w out = record { tick = w.tick; level = w.level; cone = w.cone; count = w.place - a * n; list = part n a out }

-- What a command does at a cursor: where it leads to a sample, which one, and what is done where it does not.
--   sample_known, sample_none, none_sample    a step that leads to a sample, and one that leads to none
--   short_sample, long_sample, other_sample   the sample that a command leads to, if any
--   short_known, long_known                   which, where it does
--   other_fault                               of a command that is no end and leads to none: a fault there
-- Assumes nothing.
use Rattle.std.proofs.Common.{◌≡◌, refl, ℕ, ◌+◌, ◌-◌, ◌≤◌, Bool, true, false, ◌&&◌}
use borrow.Author.Tests.{leb-true}
use lib.Dec.{leb, eqb}
use Rattle.lists.proofs.Tests.{and_first, and_second}
use Rattle.format.specs.declared.Cursor.{Cursor}
use Rattle.format.specs.declared.Command.{Command}
use Rattle.format.specs.declared.Command.TheVariants.{Tolerance, Sides, First, Short, Long, End, Invalid}
use Rattle.format.specs.declared.Step.TheVariants.{Sample, End as Ended, Fault}
use Rattle.format.specs.Command.{choose}
use Rattle.format.specs.Format.{moved, short_obeys, long_obeys, short_step, long_step, end_step, obey}
use Rattle.commands.specs.Passing.{is_sample, sample_of}
use Rattle.std.specs.Prelude.{Some, None}
use Rattle.format.specs.declared.Step.{Step}

moved_to : (ok : Bool) (k : ℕ) (c : Cursor) (t l : ℕ) → is_sample (moved ok k c t l) ≡ true
    → (ok ≡ true) × (moved ok k c t l ≡ Sample (record { at = c.at + k; first = c.first; tick = t; level = l; count = c.count + 1 }))
moved_to true k c t l e = (refl, refl)
moved_to false k c t l e = (cc, cc)

moved_fault : (ok : Bool) (k : ℕ) (c : Cursor) (t l : ℕ) → is_sample (moved ok k c t l) ≡ false → moved ok k c t l ≡ Fault c.at
moved_fault true k c t l e = cc
moved_fault false k c t l e = refl

end_sample : (x y : Bool) (k m : ℕ) → is_sample (choose x (choose y Ended (Fault m)) (Fault k)) ≡ false
end_sample true true k m = refl
end_sample true false k m = refl
end_sample false y k m = refl

moved_sample : (ok : Bool) (k : ℕ) (c : Cursor) (t l : ℕ)
    → sample_of (moved ok k c t l) ≡ choose ok (Some (record { at = c.at + k; first = c.first; tick = t; level = l; count = c.count + 1 })) None
moved_sample true k c t l = refl
moved_sample false k c t l = refl

-- a sample that a step leads to, and none
pub sample_known : (s : Step) {d : Cursor} → sample_of s ≡ Some d → s ≡ Sample d
sample_known (Sample d) e = cc
sample_known Ended e = cc
sample_known (Fault k) e = cc

pub sample_none : (s : Step) → sample_of s ≡ None → is_sample s ≡ false
sample_none (Sample d) e = cc
sample_none Ended e = refl
sample_none (Fault k) e = refl

pub none_sample : (s : Step) → is_sample s ≡ false → sample_of s ≡ None
none_sample (Sample d) e = cc
none_sample Ended e = refl
none_sample (Fault k) e = refl

module _ (c : Cursor) where
  pub short_sample : (a d : ℕ)
      → sample_of (short_step c a d) ≡ choose (short_obeys c a d) (Some (record { at = c.at + 3; first = c.first; tick = c.tick + a; level = c.level + d - 128; count = c.count + 1 })) None
  unfolding short_step
  short_sample a d = moved_sample (short_obeys c a d) 3 c (c.tick + a) (c.level + d - 128)

  pub long_sample : (a l : ℕ)
      → sample_of (long_step c a l) ≡ choose (long_obeys c a l) (Some (record { at = c.at + 6; first = c.first; tick = c.tick + a; level = l; count = c.count + 1 })) None
  unfolding long_step
  long_sample a l = moved_sample (long_obeys c a l) 6 c (c.tick + a) l

  pub other_sample : (n : ℕ) (m : Command) → ((a d : ℕ) → m ≡ Short a d → ⊥) → ((a l : ℕ) → m ≡ Long a l → ⊥) → is_sample (obey n c m) ≡ false
  unfolding end_step
  other_sample n (Tolerance r) h k = refl
  other_sample n (Sides x) h k = refl
  other_sample n (First t l) h k = refl
  other_sample n (Short a d) h k = absurd (h a d refl)
  other_sample n (Long a l) h k = absurd (k a l refl)
  other_sample n (End m) h k = end_sample (eqb m c.count) (eqb (c.at + 3) n) _ _
  other_sample n Invalid h k = refl

  pub short_known : (a d : ℕ) → is_sample (short_step c a d) ≡ true
      → (128 ≤ c.level + d) × (short_step c a d ≡ Sample (record { at = c.at + 3; first = c.first; tick = c.tick + a; level = c.level + d - 128; count = c.count + 1 }))
  unfolding short_step
  short_known a d t =
      let m = moved_to (short_obeys c a d) 3 c (c.tick + a) (c.level + d - 128) t in
      let f = and_first (leb 1 a && leb 128 (c.level + d)) _ m.0 in
      (leb-true _ _ (and_second (leb 1 a) _ f), m.1)

  pub long_known : (a l : ℕ) → is_sample (long_step c a l) ≡ true → long_step c a l ≡ Sample (record { at = c.at + 6; first = c.first; tick = c.tick + a; level = l; count = c.count + 1 })
  unfolding long_step
  long_known a l t = (moved_to (long_obeys c a l) 6 c (c.tick + a) l t).1

  pub other_fault : (n : ℕ) (m : Command) → ((k : ℕ) → m ≡ End k → ⊥) → is_sample (obey n c m) ≡ false → obey n c m ≡ Fault c.at
  unfolding short_step long_step
  other_fault n (Tolerance r) h q = refl
  other_fault n (Sides x) h q = refl
  other_fault n (First t l) h q = refl
  other_fault n (Short a d) h q = moved_fault (short_obeys c a d) 3 c _ _ q
  other_fault n (Long a l) h q = moved_fault (long_obeys c a l) 6 c _ _ q
  other_fault n (End k) h q = absurd (h k refl)
  other_fault n Invalid h q = refl

-- Two parts, from the definitions that the contracts name:
--   equal_parts_as_before   with p/q for both parts every link test, list and probe total is as with one tolerance
--   equal_meaning           two ratios that are equal as values mean what one of them means
--   same_call               tolerances that mean the same are answered alike, under the same gap limit
-- With walk's and gallop's size, which the contracts have for all fractions a and b whose sum is at most each part:
--   half_of_smaller         no kept list within half of the smaller part that obeys the gap limit has fewer samples
-- Assumes nothing.
use Rattle.std.specs.Prelude.{Ok}
use mathlib.Core.Path.{◌≡◌, ap, fun_ext}
use mathlib.Core.Bool.{true}
use mathlib.Core.List.{List}
use Prim.Native.Nat.{ℕ, suc, ◌-◌, ◌*◌, ◌≤◌}
use lib.IntN.{ℤ}
use lib.ListN.{length}
use borrow.Author.Tests.{le-leb, leb-true}
use Rattle.lists.proofs.Tests.{tests_equal}
use Rattle.ratio.specs.declared.Ratio.{Ratio}
use Rattle.ratio.proofs.Laws.{lowest_same}
use Rattle.tolerance.specs.declared.Parts.{Parts}
use Rattle.tolerance.specs.declared.Tolerance.{Tolerance}
use Rattle.tolerance.specs.declared.Tolerance.TheVariants.{Ratio as One, Parts as Each}
use Rattle.tolerance.specs.Meaning.{meaning, allowed_ratio}
use Rattle.tolerance.proofs.Meanings.{allowed_pos}
use Rattle.kept.specs.Kept.{KeptList, AllValid}
use Rattle.kept.specs.Walk.{walk_of}
use Rattle.kept.specs.Gallop.{gallop_of, gallop_probes}
use Rattle.kept.specs.Minimum.{minimum_of}
use Rattle.trace.specs.Link.{all_within, valid, limited, smaller, half, NoLonger}
use Rattle.trace.proofs.Between.{all_from_same}
use Rattle.trace.proofs.Validity.{within_true, true_within, equal_parts}
use Rattle.trace.proofs.Half.{half_no_longer}
use Rattle.limits.specs.declared.Limits.{Limits}
use Rattle.limits.specs.Prepare.{common_rows, criterion_of}
use Rattle.engine.proofs.WriteLaws.{common_held}
use Rattle.promises.specs.Parts.{plain_within, plain_valid, EqualParts, SameCall}

module _ (ts : List ℕ) (vs : List ℤ) (g : ℕ) (r : Ratio) where
  link_plain : (i j : ℕ) → valid ts vs (limited g r) i j ≡ plain_valid ts vs g r i j
  unfolding valid all_within plain_valid
  link_plain i j = rw (all_from_same _ (plain_within ts vs r i j) (j - suc i) (suc i) (λ k l u. tests_equal _ _
      (λ h. le-leb _ _ ((equal_parts ts vs g r i j k).0 (within_true ts vs (limited g r) i j k h)))
      (λ h. true_within ts vs (limited g r) i j k ((equal_parts ts vs g r i j k).1 (leb-true _ _ h)))))

  pub equal_parts_as_before : EqualParts ts vs g r
  equal_parts_as_before =
      let e : valid ts vs (limited g r) ≡ plain_valid ts vs g r = fun_ext (λ i. fun_ext (λ j. link_plain i j)) in
      let last = length ts - 1 in
      record {
        link = e;
        walk = ap (λ ok. walk_of ok last) e;
        gallop = ap (λ ok. gallop_of ok last) e;
        probes = ap (λ ok. gallop_probes ok last) e;
        minimum = ap (λ ok. minimum_of ok last) e;
      }

-- two allowed ratios, as two parts
pub equal_meaning : (y : Parts) → allowed_ratio y.up.p y.up.q ≡ true → allowed_ratio y.down.p y.down.q ≡ true
    → y.up.p * y.down.q ≡ y.down.p * y.up.q → meaning (Each y) ≡ meaning (One y.up.p y.up.q)
equal_meaning y u d e = rw (u, d, ← lowest_same y.up.p y.up.q y.down.p y.down.q (allowed_pos _ _ u) (allowed_pos _ _ d) e)

pub same_call : (s t : Tolerance) (g : ℕ) → meaning s ≡ meaning t → SameCall (record { tolerance = s; gap = g }) (record { tolerance = t; gap = g })
unfolding criterion_of
same_call s t g e = record { rows = rw e; criterion = rw e }

-- demand 3 as the contracts have it, for half of the smaller part on either side
pub half_of_smaller : (ts : List ℕ) (vs : List ℤ) (t : Limits) {n : ℕ} → common_rows ts vs t ≡ Ok tt → NoLonger ts vs (criterion_of t) n
    → (h : List ℕ) → KeptList (length ts - 1) h → AllValid (valid ts vs (limited (criterion_of t).gap (half (smaller (criterion_of t))))) h → n ≤ length h
half_of_smaller ts vs t rows bound = let held = common_held ts vs t rows in half_no_longer ts vs (criterion_of t) held.up.positive held.down.positive bound

-- At one tolerance there is no factor: values 0 3 0 3 .. 0 3 of n samples at 3 (n - 2) / (n - 1), for each even n from 2 to 4,096.
-- A link over two steps has the error 3, which is more, so walk and gallop keep all n samples. The link from the first sample to the last is
-- valid, so minimum keeps 2.
-- Assumes nothing.
use Rattle.std.specs.Prelude.{Err, Ok, Result, ℕ}
use mathlib.Core.Path.{◌≡◌, refl, ap, ◌∙◌, subst}
use mathlib.Core.Bool.{true, false}
use mathlib.Core.List.{List, [], ◌∷◌}
use Prim.Native.Nat.{ℕ, suc, ◌+◌, ◌-◌, ◌*◌, ◌%◌, ◌≤◌, ◌<◌}
use native.Mathlib.Nat.{mul-le-mul_right}
use native.Mathlib.Omega.{arith}
use native.Mathlib.Decide.{dec_le}
use lib.IntN.{ℤ, pos, nat_abs}
use lib.ListN.{length, length-map, get_or-map}
use borrow.Author.Tests.{le-leb}
use Rattle.lists.specs.Overwrite.{Wrote}
use Rattle.ratio.specs.declared.Ratio.{Ratio}
use Rattle.ratio.specs.Gcd.{lowest}
use Rattle.ratio.proofs.Laws.{lowest_pos, lowest_equal}
use Rattle.refusal.specs.declared.Refusal.{Refusal}
use Rattle.kept.proofs.WalkLaws.{walk_every}
use Rattle.kept.proofs.GallopLaws.{gallop_every}
use Rattle.kept.proofs.MinimumLaws.{minimum_of_lem, minimum_two}
use Rattle.trace.specs.declared.Criterion.{Criterion}
use Rattle.trace.specs.Trace.{tick, value, Trace}
use Rattle.trace.specs.Link.{deviation, Within, valid, criterion}
use Rattle.trace.proofs.Difference.{Diff, natural, size as size_of, size_at_most}
use Rattle.trace.proofs.Deviation.{line, diff}
use Rattle.trace.proofs.TraceLaws.{trace_rows_lem}
use Rattle.trace.proofs.Holes.{true_obeys, widest_obeys}
use Rattle.trace.proofs.Validity.{equal_parts, valid_true, valid_false, steps_valid}
use Rattle.heights.specs.Heights.{every_sample}
use Rattle.heights.proofs.Entries.{every_length, every_at, every_stops}
use Rattle.reduction.specs.declared.Galloped.{Galloped}
use Rattle.reduction.specs.Walking.{walk_list}
use Rattle.reduction.specs.Galloping.{gallop_list}
use Rattle.shortest.specs.Shortest.{minimum_list}
use Rattle.limits.specs.Prepare.{criterion_of, Sets, ReadyAt, output_rows}
use Rattle.engine.specs.Reduce.{WalkOutcome, GallopOutcome}
use Rattle.engine.specs.Minimum.{MinimumOutcome}
use Rattle.limits.proofs.PrepareLaws.{exact_sets, sets_ready, room_fine}
use Rattle.promises.specs.NoFactor.{counting, zigzag, just_wide, NoFactor}

-- p/q is 3 m / (m + 1): less than 3, and no less than what sample k, at level z, deviates by from a line of m + 1 ticks that climbs from 0 to 3
module _ (p q m : ℕ) (is : p * suc m ≡ 3 * m * q) where
  too_far : 0 < q → 6 * q ≤ p * 2 → ⊥
  too_far some h = omega (arith, mul-le-mul_right (suc m) h)

  near_enough : (z k s : ℕ) → z ≤ 3 → 0 < k → k ≤ m → (z * suc m * q ≤ line 0 3 k s * q + p * suc m) × (line 0 3 k s * q ≤ z * suc m * q + p * suc m)
  near_enough z k s low from to = omega (arith, mul-le-mul_right (suc m * q) low, mul-le-mul_right q from, mul-le-mul_right q to)

-- the level of sample k
abbrev zig : ℕ → ℕ
zig k = 3 * (k % 2)

-- of three neighbours the middle one is 3 away from the line of the others, over two ticks
alternates : (i : ℕ) → (zig (i + 1) * 2 - line (zig i) (zig (i + 2)) 1 1) + (line (zig i) (zig (i + 2)) 1 1 - zig (i + 1) * 2) ≡ 6
alternates i = elim (dec_le (i % 2) 0) [
  | yes h ↦
      let x : i % 2 ≡ 0 = omega arith in
      let y : (i + 1) % 2 ≡ 1 = omega arith in
      let z : (i + 2) % 2 ≡ 0 = omega arith in
      rw (x, y, z)
  | no h ↦
      let x : i % 2 ≡ 1 = omega arith in
      let y : (i + 1) % 2 ≡ 0 = omega arith in
      let z : (i + 2) % 2 ≡ 1 = omega arith in
      rw (x, y, z)
]

module _ (n : ℕ) (even : n % 2 ≡ 0) (two : 2 ≤ n) (few : n ≤ 4096) where
  abbrev ts : List ℕ
  ts = counting n

  abbrev vs : List ℤ
  vs = zigzag n

  -- the tolerance in lowest terms
  abbrev ratio : Ratio
  ratio = lowest (3 * (n - 2)) (n - 1)

  abbrev c : Criterion
  c = criterion ratio

  size : length ts ≡ n
  size = every_length (n - 1) ∙ omega arith

  at : (k : ℕ) → k ≤ n - 1 → tick ts k ≡ k
  at = every_at (n - 1)

  -- ---- the calls are not refused

  trace : Trace ts vs
  trace = record {
    same = length-map ts (λ (k : ℕ). pos (zig k));
    some = omega (arith, size);
    few = omega (arith, size);
    rising = record { rises = λ k h. rw (at k (omega (arith, size)), at (suc k) (omega (arith, size))) (omega arith) };
    span = rw size (omega (arith, at (n - 1) (omega arith)));
  }

  sets : Sets (just_wide n) c
  sets = exact_sets (just_wide n) (rw (le-leb 1 (n - 1) (omega arith), le-leb (n - 1) 1048575 (omega arith), le-leb (3 * (n - 2)) (65535 * (n - 1)) (omega arith))) refl

  accepts : (room : ℕ) → n ≤ room → output_rows ts vs (just_wide n) room ≡ Ok tt
  accepts room h =
      let ready : ReadyAt ts vs (just_wide n) c = sets_ready ts vs (just_wide n) (trace_rows_lem 4096 ts vs trace (omega (arith, size))) sets in
      (room_fine ts vs (just_wide n) room ready (omega (arith, size))).rows

  -- ---- the links

  values : (k : ℕ) → k ≤ n - 1 → Diff (value vs k) (zig k) 0
  values k h = rw (get_or-map (λ (k : ℕ). pos (zig k)) ts k 0, at k h) (natural (zig k))

  deviates : (i j k : ℕ) → i ≤ k → k ≤ j → j ≤ n - 1 → Diff (deviation ts vs i j k) (zig k * (j - i)) (line (zig i) (zig j) (k - i) (j - k))
  deviates i j k ik kj h =
      let ti : tick ts i ≡ i = at i (omega arith) in
      let tk : tick ts k ≡ k = at k (omega arith) in
      let tj : tick ts j ≡ j = at j h in
      rw (ti, tj, tk) at (diff ts vs i j k 0 0 (values i (omega arith)) (values j h) (values k (omega arith)) (omega arith) (omega arith))

  ratio_is : ratio.p * suc (n - 2) ≡ 3 * (n - 2) * ratio.q
  ratio_is = subst (λ (m : ℕ). ratio.p * m ≡ 3 * (n - 2) * ratio.q) (omega arith) (lowest_equal (3 * (n - 2)) (n - 1))

  -- over two steps
  two_steps : (i : ℕ) → i + 2 ≤ n - 1 → valid ts vs c i (i + 2) ≡ false
  two_steps i h =
      let t : i + 2 - i ≡ 2 = omega arith in
      let s : i + 1 - i ≡ 1 = omega arith in
      let u : i + 2 - (i + 1) ≡ 1 = omega arith in
      let six : nat_abs (deviation ts vs i (i + 2) (i + 1)) ≡ 6 = (rw (t, s, u) at (size_of (deviates i (i + 2) (i + 1) (omega arith) (omega arith) h))) ∙ alternates i in
      valid_false ts vs c i (i + 2) (i + 1) (omega arith) (omega arith)
      (λ w. too_far ratio.p ratio.q (n - 2) ratio_is (lowest_pos (3 * (n - 2)) (n - 1) (omega arith))
      (rw (six, at (i + 2) h, at i (omega arith), t) at ((equal_parts ts vs 1048575 ratio i (i + 2) (i + 1)).0 w)))

  -- from the first sample to the last
  whole : valid ts vs c 0 (n - 1) ≡ true
  whole = valid_true ts vs c 0 (n - 1) (record { within = record { between = inside }; obeys = true_obeys ts 1048575 0 (n - 1) (widest_obeys trace 0 (n - 1)) })
    where
      inside : (k : ℕ) → 0 < k → k < n - 1 → Within ts vs c 0 (n - 1) k
      inside k l u =
          let t : n - 1 - 0 ≡ suc (n - 2) = omega arith in
          let s : k - 0 ≡ k = omega arith in
          let z : zig (n - 1) ≡ 3 = omega arith in
          let d = rw (t, s, z) at (deviates 0 (n - 1) k (omega arith) (omega arith) (omega arith)) in
          (equal_parts ts vs 1048575 ratio 0 (n - 1) k).1
          (rw (at (n - 1) (omega arith), t) ((size_at_most d ratio.q (ratio.p * suc (n - 2))).1 (near_enough ratio.p ratio.q (n - 2) ratio_is (zig k) k _ (omega arith) l (omega arith))))

  -- ---- the lists

  walks : walk_list ts vs (criterion_of (just_wide n)) ≡ every_sample (n - 1)
  walks = rw (← sets.is, size) (walk_every (valid ts vs c) (steps_valid ts vs c) (n - 1) two_steps ∙ every_stops (n - 1))

  gallops : gallop_list ts vs (criterion_of (just_wide n)) ≡ every_sample (n - 1)
  gallops = rw (← sets.is, size) (gallop_every (valid ts vs c) (steps_valid ts vs c) (n - 1) two_steps ∙ every_stops (n - 1))

  shortest : minimum_list ts vs (criterion_of (just_wide n)) ≡ 0 ∷ (n - 1) ∷ []
  shortest = rw (← sets.is, size) (minimum_two (minimum_of_lem (valid ts vs c) (n - 1) (steps_valid ts vs c)) (omega arith) whole)

  -- ---- the answers

  counted : {l o o' : List ℕ} {m : ℕ} → l ≡ every_sample (n - 1) → Wrote l o m o' → m ≡ n
  counted e w = w.count ∙ ap length e ∙ size

  not_refused : {A : Type 0} (o : List ℕ) (x : Refusal) → n ≤ length o → output_rows ts vs (just_wide n) (length o) ≡ Err x → A
  not_refused o x h e =
      let f : output_rows ts vs (just_wide n) (length o) ≡ Ok tt = accepts (length o) h in
      let z : ◌≡◌ {A = ℕ} 0 1 = cc in
      absurd (omega arith)

  walked : (o o' : List ℕ) (r : Result ℕ Refusal) → n ≤ length o → WalkOutcome ts vs (just_wide n) o r o' → r ≡ Ok n
  walked o o' (Ok m) h w = ap Ok (counted walks w.wrote)
  walked o o' (Err x) h w = not_refused o x h w.0

  galloped : (o o' : List ℕ) (r : Result Galloped Refusal) → n ≤ length o → GallopOutcome ts vs (just_wide n) o r o' → (g : Galloped) × (r ≡ Ok g) × (g.kept ≡ n)
  galloped o o' (Ok g) h w = (g, refl, counted gallops w.wrote)
  galloped o o' (Err x) h w = not_refused o x h w.0

  shortened : (o o' : List ℕ) (r : Result ℕ Refusal) → n ≤ length o → MinimumOutcome ts vs (just_wide n) o r o' → r ≡ Ok 2
  shortened o o' (Ok m) h w = ap Ok (w.wrote.count ∙ ap length shortest)
  shortened o o' (Err x) h w = not_refused o x h w.0

  pub no_factor : NoFactor n
  no_factor = record {
    accepted = accepts;
    walk = walks;
    gallop = gallops;
    minimum = shortest;
    walk_answers = walked;
    gallop_answers = galloped;
    minimum_answers = shortened;
  }

-- walk and gallop keep b times as many samples as minimum, for each b up to 2,048
pub factor : (b : ℕ) → 1 ≤ b → b ≤ 2048 → NoFactor (2 * b)
factor b some few = no_factor (2 * b) (omega arith) (omega arith) (omega arith)

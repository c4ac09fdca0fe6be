-- Laws of the summed trace: its values, that deviations add, and that the joined list is within U1 + D1 + U2 + D2 of it and obeys the gap limit.
-- Assumes nothing.
use mathlib.Core.Path.{◌≡◌, refl, ap}
use mathlib.Core.Bool.{Bool, true, false}
use mathlib.Core.List.{List, [], ◌∷◌}
use Prim.Native.Nat.{ℕ, zero, suc, ◌+◌, ◌-◌, ◌*◌, ◌≤◌, ◌<◌}
use native.Mathlib.Nat.{mul-le-mul_right, mul-pos}
use native.Mathlib.Omega.{arith}
use lib.IntN.{ℤ, ◌+ℤ◌, +ℤ_comm, nat_abs}
use lib.ListN.{length}
use Rattle.ratio.specs.declared.Ratio.{Ratio}
use Rattle.ratio.specs.Order as R
use Rattle.ratio.specs.Order.{AtMost}
use Rattle.kept.specs.Kept.{KeptList, AllValid}
use Rattle.kept.proofs.KeptLaws.{each_map, each_zip, kept_links}
use Rattle.trace.specs.Trace.{value, Rising, Trace}
use Rattle.trace.specs.Link.{deviation, AllWithin, valid, parted, limited}
use Rattle.trace.proofs.Ticks.{not_earlier}
use Rattle.trace.proofs.Difference.{Diff, parts, plus, alike, size_at_most}
use Rattle.trace.proofs.Deviation.{diff}
use Rattle.trace.proofs.Offsets.{offset_base, offset_of, offset_of_diff}
use Rattle.trace.proofs.Holes.{true_obeys, obeys_inside}
use Rattle.trace.proofs.Validity.{valid_true, true_valid, valid_obeys, equal_parts, valid_wider}
use Rattle.trace.proofs.Half.{inside_within}
use Rattle.lists.proofs.Tests.{or_false}
use Rattle.summed.specs.Sum.{sums_of, is_entry, in_either, joined_of, parts_sum, twice_sum, JoinedWithin}
use Rattle.summed.proofs.JoinLaws.{NextOf, Around, around, joined_kept, joined_links}

-- ---- values

pub sums_length : (vs ws : List ℤ) → length ws ≡ length vs → length (sums_of vs ws) ≡ length vs
sums_length [] ws h = refl
sums_length (v ∷ vs) [] h = absurd (omega arith)
sums_length (v ∷ vs) (w ∷ ws) h = ap suc (sums_length vs ws (omega arith))

pub sums_value : (vs ws : List ℤ) → length ws ≡ length vs → (k : ℕ) → value (sums_of vs ws) k ≡ value vs k +ℤ value ws k
sums_value [] [] h k = refl
sums_value [] (w ∷ ws) h k = absurd (omega arith)
sums_value (v ∷ vs) [] h k = absurd (omega arith)
sums_value (v ∷ vs) (w ∷ ws) h zero = refl
sums_value (v ∷ vs) (w ∷ ws) h (suc k) = sums_value vs ws (omega arith) k

pub sums_trace : {ts : List ℕ} {vs : List ℤ} (ws : List ℤ) → Trace ts vs → length ws ≡ length vs → Trace ts (sums_of vs ws)
sums_trace {ts} {vs} ws t h = record { same = omega (arith, sums_length vs ws h, t.same); some = t.some; few = t.few; rising = t.rising; span = t.span }

-- the order of the traces does not matter
pub sums_swap : (vs ws : List ℤ) → sums_of vs ws ≡ sums_of ws vs
sums_swap [] [] = refl
sums_swap [] (w ∷ ws) = refl
sums_swap (v ∷ vs) [] = refl
sums_swap (v ∷ vs) (w ∷ ws) = rw (+ℤ_comm v w, sums_swap vs ws)

-- ---- deviations

-- a sum of two numbers, each bounded by a ratio of its own
sum_at_most : (x y : ℤ) (q r m n : ℕ) → nat_abs x * q ≤ m → nat_abs y * r ≤ n → nat_abs (x +ℤ y) * (q * r) ≤ m * r + n * q
sum_at_most x y q r m n h k =
    let d = (parts x).2 in
    let e = (parts y).2 in
    let a = (size_at_most d q m).0 h in
    let b = (size_at_most e r n).0 k in
    (size_at_most (plus d e) (q * r) (m * r + n * q)).1 (
      omega (arith, mul-le-mul_right r a.0, mul-le-mul_right q b.0),
      omega (arith, mul-le-mul_right r a.1, mul-le-mul_right q b.1),
    )

module _ {ts : List ℕ} (rising : Rising ts) (vs ws : List ℤ) (same : length ws ≡ length vs) (i j : ℕ) (inside : j < length ts) where
  sum_diff : (n : ℕ) → Diff (value (sums_of vs ws) n) (offset_of vs n + offset_of ws n) (offset_base vs + offset_base ws)
  sum_diff n = rw (sums_value vs ws same n) (plus (offset_of_diff vs n) (offset_of_diff ws n))

  -- deviations add
  deviation_sum : (k : ℕ) → i ≤ k → k ≤ j → deviation ts (sums_of vs ws) i j k ≡ deviation ts vs i j k +ℤ deviation ts ws i j k
  deviation_sum k ik kj =
      let a = not_earlier rising ik (omega arith) in
      let b = not_earlier rising kj inside in
      alike
      (diff ts (sums_of vs ws) i j k 0 0 (sum_diff i) (sum_diff j) (sum_diff k) a b)
      (plus (diff ts vs i j k 0 0 (offset_of_diff vs i) (offset_of_diff vs j) (offset_of_diff vs k) a b) (diff ts ws i j k 0 0 (offset_of_diff ws i) (offset_of_diff ws j) (offset_of_diff ws k) a b))
      (omega arith)

  -- so a link within a of trace 1 and within b of trace 2 is within a + b of the summed trace
  sum_within : (a b : Ratio) (g : ℕ) → AllWithin ts vs (limited g a) i j → AllWithin ts ws (limited g b) i j → AllWithin ts (sums_of vs ws) (limited g (R.plus a b)) i j
  sum_within a b g h k = record {
    between = λ n l u.
        let both = sum_at_most (deviation ts vs i j n) (deviation ts ws i j n) a.q b.q _ _ ((equal_parts ts vs g a i j n).0 (h.between n l u)) ((equal_parts ts ws g b i j n).0 (k.between n l u)) in
        (equal_parts ts (sums_of vs ws) g (R.plus a b) i j n).1 (rw (deviation_sum n (omega arith) (omega arith)) (omega (arith, both)));
  }

-- ---- the joined list

-- a valid link that ends at the last sample or before
abbrev ValidTo : (ℕ → ℕ → Bool) → ℕ → ℕ → ℕ → Type 0
ValidTo ok last i j = (j ≤ last) × (ok i j ≡ true)

around_valid : (ok : ℕ → ℕ → Bool) {last : ℕ} (l : List ℕ) → KeptList last l → AllValid ok l → {i j : ℕ} → i < j → j ≤ last → ((k : ℕ) → i < k → k < j → is_entry l k ≡ false) → Around (ValidTo ok last) i j
around_valid ok {last} l kept all forward inside none = around {R = ValidTo ok last} forward l kept (each_zip (λ i j r s. (r.1, s)) l (kept_links last l kept) all) inside none

module _ {ts : List ℕ} {vs : List ℤ} (ws : List ℤ) (t : Trace ts vs) (same : length ws ≡ length vs) {l m : List ℕ} (first : KeptList (length ts - 1) l) (second : KeptList (length ts - 1) m)
    (u d v e : Ratio) (g : ℕ) (within : AllValid (valid ts vs (parted g u d)) l) (within' : AllValid (valid ts ws (parted g v e)) m) where
  -- a link of the joined list lies inside a link of either list
  joined_valid : (i j : ℕ) → (i < j) × (j ≤ length ts - 1) → NextOf (in_either l m) i j → valid ts (sums_of vs ws) (limited g (parts_sum u d v e)) i j ≡ true
  joined_valid i j link next =
      let x = around_valid (valid ts vs (parted g u d)) l first within link.0 link.1 (λ k lo hi. (or_false (is_entry l k) _ (next.clear.none k lo hi)).0) in
      let y = around_valid (valid ts ws (parted g v e)) m second within' link.0 link.1 (λ k lo hi. (or_false (is_entry l k) _ (next.clear.none k lo hi)).1) in
      valid_true ts (sums_of vs ws) (limited g (parts_sum u d v e)) i j (record {
        within = sum_within t.rising vs ws same i j (omega (arith, t.some)) (R.plus u d) (R.plus v e) g
            (inside_within t.rising vs x.starts link.0 x.ends (omega (arith, x.link.0, t.some)) (true_valid ts vs (parted g u d) x.from x.to x.link.1).within)
            (inside_within t.rising ws y.starts link.0 y.ends (omega (arith, y.link.0, t.some)) (true_valid ts ws (parted g v e) y.from y.to y.link.1).within);
        obeys = true_obeys ts g i j (obeys_inside ts g (length ts - 1) x.from x.to i j (valid_obeys ts vs (parted g u d) x.from x.to x.link.1) x.starts link.0 x.ends x.link.0);
      })

  all_joined_valid : AllValid (valid ts (sums_of vs ws) (limited g (parts_sum u d v e))) (joined_of (length ts) l m)
  all_joined_valid =
      let kept = joined_kept t.some first second in
      each_zip joined_valid (joined_of (length ts) l m) (kept_links (length ts - 1) (joined_of (length ts) l m) kept) (joined_links t.some first second)

-- the promise, for traces with the same ticks
pub joined_within : {ts : List ℕ} {vs : List ℤ} (ws : List ℤ) → Trace ts vs → length ws ≡ length vs → {l m : List ℕ} → KeptList (length ts - 1) l → KeptList (length ts - 1) m → JoinedWithin ts vs ts ws l m
joined_within ws t same first second u d v e g within within' = all_joined_valid ws t same first second u d v e g within within'

-- where the parts agree, the sum is 2 (T1 + T2)
parts_twice : (a b : Ratio) → AtMost (parts_sum a a b b) (twice_sum a b)
parts_twice a b = omega arith

pub joined_twice : (ts us : List ℕ) (vs ws : List ℤ) (l m : List ℕ) → JoinedWithin ts vs us ws l m → (a b : Ratio) (g : ℕ) → 0 < a.q → 0 < b.q
    → AllValid (valid ts vs (limited g a)) l → AllValid (valid us ws (limited g b)) m → AllValid (valid ts (sums_of vs ws) (limited g (twice_sum a b))) (joined_of (length ts) l m)
joined_twice ts us vs ws l m joined a b g ha hb within within' =
    let c = limited g (parts_sum a a b b) in
    let some : 0 < (parts_sum a a b b).q = mul-pos (mul-pos ha ha) (mul-pos hb hb) in
    each_map (λ i j. valid_wider ts (sums_of vs ws) c (limited g (twice_sum a b)) (record { up_some = some; down_some = some; up = parts_twice a b; down = parts_twice a b }) (omega arith) i j)
    (joined_of (length ts) l m) (joined a a b b g within within')

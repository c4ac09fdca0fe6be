-- Laws of the search for the least error: what may be tried, what a trial says, and where the search may end.
-- Assumes nothing.
use Rattle.std.specs.Prelude.{Some}
use mathlib.Core.Path.{◌≡◌, sym}
use mathlib.Core.List.{List}
use mathlib.Core.Logic.{◌↔◌}
use Prim.Native.Nat.{ℕ, suc, ◌+◌, ◌-◌, ◌*◌, ◌/◌, ◌≤◌, ◌<◌}
use native.Mathlib.Nat.{mul-pos, mul-le-mul_right, le_of_mul-le-mul_left, le_of_mul-le-mul_right, le-div_iff_mul-le, div-mul-le_self}
use native.Mathlib.Omega.{arith}
use lib.IntN.{ℤ}
use lib.ListN.{length, take}
use Rattle.ratio.specs.declared.Ratio.{Ratio}
use Rattle.ratio.specs.declared.Neighbours.{Neighbours}
use Rattle.ratio.specs.Order.{over, AtMost, Below}
use Rattle.ratio.specs.Farey.{Searched, Surrounds}
use Rattle.ratio.proofs.OrderLaws.{at_most_trans, at_most_below, common_product}
use Rattle.ratio.proofs.FareyLaws.{nearest_below}
use Rattle.lists.specs.Overwrite.{Wrote}
use Rattle.lists.proofs.OverwriteLaws.{wrote_read}
use Rattle.kept.specs.Kept.{KeptList, AllValid, Greedy}
use Rattle.kept.specs.Stops.{list_by}
use Rattle.kept.proofs.KeptLaws.{greedy_size}
use Rattle.kept.proofs.StopsLaws.{list_greedy_lem}
use Rattle.kept.proofs.LeastLaws.{found_least}
use Rattle.trace.specs.Trace.{Trace}
use Rattle.trace.specs.Link.{obeys, links_end, list_error, limited, criterion, Bounded}
use Rattle.trace.proofs.Holes.{links_end_after, links_end_inside, obeys_to, obeys_past, obeys_inside}
use Rattle.trace.proofs.Errors.{both_bounded, allowed_small, trace_measures, list_error_small, within_error}
use Rattle.shortest.specs.Shortest.{minimum_list}
use Rattle.shortest.proofs.ShortestLaws.{minimum_list_lem}
use Rattle.closest.specs.declared.Interval.{Interval}
use Rattle.closest.specs.Closest.{least_error, obeying_list, fewest_samples, Task, Reached, Tried, Narrowed, Candidate, Before}

-- ---- what may be tried

pub allowed_searched : {x : Ratio} → Bounded (criterion x) → 0 < x.p → Searched x.p x.q 1048575
allowed_searched b pos = record { some = pos; top = b.up.p_bound; small = omega (arith, b.up.q_bound); limit_some = omega arith; limit_small = omega arith }

module _ {x y : Ratio} (a : Bounded (criterion x)) (b : Bounded (criterion y)) where
  -- the middle between x and y
  pub middle_searched : 0 < y.p → {u v w : ℕ} → u ≡ x.p * y.q → v ≡ y.p * x.q → w ≡ x.q * y.q → Searched (u + v) (2 * w) 1048575
  middle_searched pos eu ev ew = rw (eu, ev, ew) (record {
    some = omega (arith, mul-pos pos a.up.positive);
    top = omega (arith, mul-le-mul_right y.q a.up.p_bound, mul-le-mul_right x.q b.up.p_bound);
    small = omega (arith, common_product (allowed_small a) (allowed_small b));
    limit_some = omega arith;
    limit_small = omega arith;
  })

module _ {p q : ℕ} {n : Neighbours} (s : Surrounds p q 1048575 n) (g : Searched p q 1048575) where
  left_top : n.left.p ≤ 65535 * n.left.q
  left_top = le_of_mul-le-mul_right {k = q} (omega (arith, s.below, mul-le-mul_right n.left.q g.top)) (omega (arith, g.some, g.top))

  right_top : n.right.p ≤ 65535 * n.right.q + 1
  right_top = le_of_mul-le-mul_left {k = n.left.q} (omega (arith, s.adjacent, mul-le-mul_right n.right.q left_top, s.left_some)) s.left_some

  pub left_candidate : Candidate n.left
  left_candidate = record { some = s.left_some; small = record { p_bound = omega (arith, left_top, s.left_limit); q_bound = s.left_limit } }

  pub right_candidate : Candidate n.right
  right_candidate = record { some = s.right_some; small = record { p_bound = omega (arith, right_top, s.right_limit); q_bound = s.right_limit } }

  pub left_before : Before (over p q) n.left
  left_before = record {
    allowed = both_bounded (record { positive = s.left_some; q_bound = s.left_limit; p_bound = left_top });
    below = s.below;
    nearest = nearest_below s;
  }

-- a candidate below an allowed tolerance is allowed
pub below_allowed : {x y : Ratio} → Candidate x → Bounded (criterion y) → Below x y → Bounded (criterion x)
below_allowed {x} {y} c b lt = both_bounded (record {
  positive = c.some;
  q_bound = c.small.q_bound;
  p_bound = le_of_mul-le-mul_right {k = y.q} (omega (arith, lt, mul-le-mul_right x.q b.up.p_bound)) b.up.positive;
})

-- ---- what a trial says

-- k entries of a list o' were used for a list l
module _ {l o o' : List ℕ} {k : ℕ} (w : Wrote l o k o') where
  pub wrote_kept : {n : ℕ} → KeptList n l → KeptList n (take k o')
  wrote_kept h = rw (wrote_read w) h

-- the minimum's list at x
module _ (ts : List ℕ) (vs : List ℤ) (g : ℕ) (x : Ratio) {o o' : List ℕ} {k : ℕ} (w : Wrote (minimum_list ts vs (limited g x)) o k o') where
  pub tried_kept : KeptList (length ts - 1) (take k o')
  tried_kept = wrote_kept w (minimum_list_lem ts vs (limited g x)).kept

  -- the minimum's list has at most the error x
  pub tried_fit : {m : ℕ} → Trace ts vs → k ≤ m → {y : Ratio} → y ≡ list_error ts vs (take k o') → Bounded (criterion y) → Tried ts vs g m x (Some y)
  tried_fit t le {y} e b =
      let min = minimum_list_lem ts vs (limited g x) in
      let is : y ≡ list_error ts vs (minimum_list ts vs (limited g x)) = rw (wrote_read w) at e in
      let v = (within_error t g _ min.kept x).0 min.valid in (
        record { list = minimum_list ts vs (limited g x); kept = min.kept; obeying = v.0; fits = omega (arith, w.count); error = sym is; allowed = b },
        rw is v.1,
      )

-- ---- the shortest list that obeys the gap limit

module _ (ts : List ℕ) (g : ℕ) where
  obeying_greedy : Greedy (obeys ts g) (length ts - 1) (obeying_list ts g)
  unfolding obeying_list
  obeying_greedy = list_greedy_lem (obeys ts g) (length ts - 1) (links_end ts g) (λ i lt. record {
    after = links_end_after ts g i (omega arith);
    within = omega (arith, links_end_inside ts g i (omega arith));
    valid = obeys_to ts g i (omega arith) (links_end ts g i) (omega arith);
    maximal = λ h. obeys_past ts g i (omega arith) (suc (links_end ts g i)) (omega arith) (omega arith);
  })

  pub obeying_kept : KeptList (length ts - 1) (obeying_list ts g)
  obeying_kept = obeying_greedy.kept

  pub obeying_obeys : AllValid (obeys ts g) (obeying_list ts g)
  obeying_obeys = obeying_greedy.valid

  -- no kept list that obeys the limit is shorter
  pub obeying_fewest : (h : List ℕ) → KeptList (length ts - 1) h → AllValid (obeys ts g) h → fewest_samples ts g ≤ length h
  obeying_fewest = greedy_size (obeys ts g) (length ts - 1) (obeying_list ts g) obeying_greedy (obeys ts g) (obeys_inside ts g (length ts - 1))

  -- row 16: every kept list that obeys the limit has more than m samples
  pub none_fits : (m : ℕ) → m < fewest_samples ts g ↔ ((h : List ℕ) → KeptList (length ts - 1) h → AllValid (obeys ts g) h → m < length h)
  none_fits m = (λ lt h k o. omega (arith, obeying_fewest h k o), λ f. f (obeying_list ts g) obeying_kept obeying_obeys)

  -- as a loop writes it
  pub obeying_stops : (k : ℕ) → k < length ts - 1 → (k < links_end ts g k) × (links_end ts g k ≤ length ts - 1)
  obeying_stops k lt = (links_end_after ts g k (omega arith), omega (arith, links_end_inside ts g k (omega arith)))

  pub obeying_wrote : {o o' : List ℕ} {k : ℕ} → Wrote (list_by (links_end ts g) (length ts - 1)) o k o' → Wrote (obeying_list ts g) o k o'
  unfolding obeying_list
  obeying_wrote w = w

pub obeying_reached : {ts : List ℕ} {vs : List ℤ} {g m : ℕ} {o o' : List ℕ} {k : ℕ} {x : Ratio} → Task ts vs g m → Wrote (obeying_list ts g) o k o'
    → x ≡ list_error ts vs (take k o') → Bounded (criterion x) → Reached ts vs g m x
obeying_reached {ts} {vs} {g} t w e b = record {
  list = obeying_list ts g;
  kept = obeying_kept ts g;
  obeying = obeying_obeys ts g;
  fits = t.fits;
  error = sym (rw (wrote_read w) at e);
  allowed = b;
}

-- ---- intervals

module _ {ts : List ℕ} {vs : List ℤ} {g m : ℕ} where
  pub narrowed_none : {low high : Ratio} → Bounded (criterion low) → Reached ts vs g m high → Narrowed ts vs g m high (record { low = low; high = high })
  narrowed_none b r = record { low = b; reached = r; high = omega arith }

  -- a list fits at x, below the interval's end
  pub narrowed_fit : {low high e : Ratio} (x : Ratio) → Bounded (criterion low) → Below x high → Reached ts vs g m e × AtMost e x → Narrowed ts vs g m high (record { low = low; high = e })
  narrowed_fit {high = high} {e = e} x b lt r = record { low = b; reached = r.0; high = omega (arith, at_most_below e x high r.0.allowed.up.positive r.1 lt) }

  pub narrowed_more : {x : Ratio} {i r : Interval} → Narrowed ts vs g m x i → Narrowed ts vs g m i.high r → Narrowed ts vs g m x r
  narrowed_more {x} {i} {r} a b = record { low = b.low; reached = b.reached; high = at_most_trans r.high i.high x a.reached.allowed.up.positive b.high a.high }

-- ---- where the search may end

module _ {ts : List ℕ} {vs : List ℤ} {g m : ℕ} (t : Task ts vs g m) {x : Ratio} (r : Reached ts vs g m x) where
  ended : (0 < x.p → (h : List ℕ) → KeptList (length ts - 1) h → AllValid (obeys ts g) h → Below (list_error ts vs h) x → m < length h) → x ≡ least_error ts vs g m
  ended stuck = found_least (trace_measures t.trace g) m t.two r.list r.kept r.obeying r.fits x r.error stuck

  pub ended_zero : x.p ≡ 0 → x ≡ least_error ts vs g m
  ended_zero z = ended (λ pos. absurd (omega arith))

  -- no list fits at the greatest fraction below x
  pub ended_below : {y : Ratio} → Before x y → m < length (minimum_list ts vs (limited g y)) → x ≡ least_error ts vs g m
  ended_below {y} b lt = ended (λ _ h k o lower.
      let close : AtMost (list_error ts vs h) y = b.nearest (list_error ts vs h) (list_error_small t.trace h k) lower in
      omega (arith, (minimum_list_lem ts vs (limited g y)).fewest h k ((within_error t.trace g h k y).1 (o, close))))

-- The search goes on at a lesser error: errors have denominators up to 1,048,575, so they differ by 1 in this many parts.
abbrev pub parts : Ratio → ℕ
parts x = x.p * 1099509530625 / x.q

pub parts_fall : {x y : Ratio} → Bounded (criterion x) → Bounded (criterion y) → Below y x → parts y < parts x
parts_fall {x} {y} a b lt =
    let n : y.p * 1099509530625 / y.q * y.q ≤ y.p * 1099509530625 = div-mul-le_self _ y.q in
    let g = parts y in
    (le-div_iff_mul-le a.up.positive).1 (le_of_mul-le-mul_right {k = y.q}
    (omega (arith, mul-le-mul_right x.q n, mul-le-mul_right 1099509530625 lt, common_product (allowed_small a) (allowed_small b)))
    b.up.positive)

-- a narrowed interval below what is tried before x
pub goes_down : {ts : List ℕ} {vs : List ℤ} {g m : ℕ} {x y e : Ratio} {r : Interval} → Bounded (criterion x) → Before x y → AtMost e y → Bounded (criterion e) → Narrowed ts vs g m e r → parts r.high < parts x
goes_down {x = x} {y = y} {e = e} {r = r} b f le a n =
    let z = r.high in
    parts_fall b n.reached.allowed (at_most_below z e x n.reached.allowed.up.positive n.high (at_most_below e y x a.up.positive le f.below))

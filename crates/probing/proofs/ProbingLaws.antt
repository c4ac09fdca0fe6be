-- Laws of gallop's search over a trace: a probe, and the loops that probe.
-- Assumes nothing.
use mathlib.Core.Path.{◌≡◌, refl, sym, ◌∙◌, subst}
use mathlib.Core.Bool.{Bool, true, false}
use mathlib.Core.List.{List}
use Prim.Native.Nat.{ℕ, ◌+◌, ◌-◌, ◌*◌, ◌≤◌, ◌<◌}
use native.Mathlib.Decide.{dec_lt}
use native.Mathlib.Omega.{arith}
use lib.IntN.{ℤ}
use lib.ListN.{length}
use Rattle.lists.proofs.Tests.{true_false}
use Rattle.kept.specs.declared.Search.{Search}
use Rattle.kept.specs.Gallop.{found, halfway, doubling, bisection, search_by, gallop_search}
use Rattle.kept.proofs.GallopLaws.{probe_within, probe_none, search_bounds, gallop_stop_greedy}
use Rattle.kept.proofs.SearchLaws.{Doubling, doubling_none, doubling_more, doubling_ends, Bisecting, bisecting_yes, bisecting_no}
use Rattle.trace.specs.declared.Criterion.{Criterion}
use Rattle.trace.specs.Link.{obeys, valid, links_end}
use Rattle.trace.proofs.Holes.{links_end_inside, obeys_past}
use Rattle.trace.proofs.Validity.{steps_valid, valid_obeys, hole_invalid}
use Rattle.outgoing.specs.declared.Links.{Links}
use Rattle.probing.specs.declared.Probing.{Probing}
use Rattle.outgoing.specs.Outgoing.{TakenIn, Next, Beyond}
use Rattle.probing.specs.Probing.{probe_at, Yes, Probes, Probed}
use Rattle.outgoing.proofs.OutgoingLaws.{next_at, taken_at, valid_at}

-- ---- a probe

module _ {ts : List ℕ} {vs : List ℤ} {c : Criterion} {s : Probing} {d : ℕ} (p : Probes ts vs c s d) where
  abbrev from : ℕ
  from = s.links.from.sample

  -- one that answers no leaves the yes as it was
  abbrev Refused : Type 0
  Refused = Probed ts vs c from s d false (record { low = s.low; probes = s.probes + 1; links = s.links })

  probed_no : probe_at ts vs c from d ≡ false → Refused
  probed_no q = record {
    answer = sym q;
    after = record { yes = record { pos = p.yes.pos; inside = p.yes.inside; links = p.yes.links }; low = rw q; probes = refl };
  }

  start_inside : from + 1 < length ts
  start_inside = omega (arith, p.yes.inside, p.yes.pos)

  pub probed_past : s.links.limit < from + d → Refused
  probed_past past = probed_no (elim (dec_lt (length ts - 1) (from + d)) [
    | yes out ↦ probe_none (valid ts vs c) (length ts - 1) from d (omega arith)
    | no ins ↦
        probe_within (valid ts vs c) (length ts - 1) from d (omega arith)
        ∙ hole_invalid ts vs c from (from + d) (obeys_past ts c.gap from start_inside (from + d) (omega (arith, p.yes.links.limit)) (omega (arith, start_inside)))
  ])

  module _ (reach : from + d ≤ s.links.limit) where
    pub inside : from + d < length ts
    inside = omega (arith, p.yes.links.limit, links_end_inside ts c.gap from start_inside)

    to_end : from + d ≤ links_end ts c.gap from
    to_end = omega (arith, p.yes.links.limit)

    pub probes_later : Beyond ts vs c s.links (from + d)
    probes_later = record {
      trace = p.trace;
      bounded = p.bounded;
      next = from + s.low + 1;
      taken = p.yes.links;
      order = omega (arith, p.further);
      after = omega (arith, p.further);
      inside = inside;
    }

    pub probes_next : Next ts vs c s.links (from + s.low + 1)
    probes_next = next_at p.yes.links p.trace p.bounded (omega arith) (omega (arith, p.further, to_end)) (omega (arith, p.further, inside))

    answer : {b : Bool} → valid ts vs c from (from + d) ≡ b → probe_at ts vs c from d ≡ b
    answer e = probe_within (valid ts vs c) (length ts - 1) from d (omega (arith, inside)) ∙ e

    pub probed_fails : valid ts vs c from (from + d) ≡ false → Refused
    probed_fails e = probed_no (answer e)

    -- l has taken in every sample before the one probed
    module _ {l : Links} (t : TakenIn ts vs c from (from + d) l) where
      pub far_next : Next ts vs c l (from + d)
      far_next = next_at t p.trace p.bounded (omega (arith, p.further)) to_end inside

      pub probed_invalid : {b : Bool} → b ≡ false → b ≡ valid ts vs c l.from.sample (from + d) → Refused
      probed_invalid q e = probed_fails (sym (valid_at t (from + d) e) ∙ q)

      pub probed_yes : {m : Links} {b : Bool} → b ≡ true → b ≡ valid ts vs c l.from.sample (from + d) → TakenIn ts vs c l.from.sample (from + d + 1) m
          → Probed ts vs c from s d true (record { low = d; probes = s.probes + 1; links = m })
      probed_yes q e u =
          let y : probe_at ts vs c from d ≡ true = answer (sym (valid_at t (from + d) e) ∙ q) in
          record {
            answer = sym y;
            after = record { yes = record { pos = omega (arith, p.further); inside = inside; links = taken_at t u }; low = rw y; probes = refl };
          }

-- a search from sample i
module _ {ts : List ℕ} {vs : List ℤ} {c : Criterion} {i : ℕ} {s : Probing} (y : Yes ts vs c i s) where
  pub yes_own : Yes ts vs c s.links.from.sample s
  yes_own = subst (λ (k : ℕ). Yes ts vs c k s) (sym y.links.start.sample) y

  pub probed_at : {d : ℕ} {b : Bool} {r : Probing} → Probed ts vs c s.links.from.sample s d b r → Probed ts vs c i s d b r
  probed_at {d} {b} {r} h = subst (λ (k : ℕ). Probed ts vs c k s d b r) y.links.start.sample h

-- ---- the loops

-- the doubling from sample i has reached the yes of s
pub record Raising (ts : List ℕ) (vs : List ℤ) (c : Criterion) (i : ℕ) (s : Probing) (high : ℕ) : Type 0 where
  pub yes : Yes ts vs c i s
  pub doubles : Doubling (valid ts vs c) (length ts - 1) i s.low s.probes
  pub next : high ≡ s.low + s.low

pub raising_none : {ts : List ℕ} {vs : List ℤ} {c : Criterion} {i : ℕ} {l : Links} → i + 1 < length ts → TakenIn ts vs c i (i + 1 + 1) l → Raising ts vs c i (record { low = 1; probes = 0; links = l }) 2
raising_none h t = record { yes = record { pos = omega arith; inside = h; links = t }; doubles = doubling_none (omega arith); next = refl }

module _ {ts : List ℕ} {vs : List ℤ} {c : Criterion} {i high : ℕ} {s r : Probing} {b : Bool} (g : Raising ts vs c i s high)
    (h : Probed ts vs c s.links.from.sample s high b r) where
  doubled : Probed ts vs c i s (s.low + s.low) b r
  doubled = probed_at g.yes (rw g.next at h)

  pub raising_more : b ≡ true → Raising ts vs c i r (high + high)
  raising_more q =
      let y : probe_at ts vs c i (s.low + s.low) ≡ true = sym doubled.answer ∙ q in
      let e : r.low ≡ s.low + s.low = rw y at doubled.after.low in
      record { yes = doubled.after.yes; doubles = rw (e, doubled.after.probes) (doubling_more g.doubles y); next = omega (arith, e, g.next) }

  pub raising_ends : b ≡ false → (Yes ts vs c i r × (r.probes ≤ r.low)) × (found r.low r.probes ≡ doubling (probe_at ts vs c i) 1 0 (length ts - 1))
  raising_ends q =
      let n : probe_at ts vs c i (s.low + s.low) ≡ false = sym doubled.answer ∙ q in
      let e : r.low ≡ s.low = rw n at doubled.after.low in
      ((doubled.after.yes, omega (arith, g.doubles.few, doubled.after.probes, e)), rw (e, doubled.after.probes) (doubling_ends g.doubles n))

-- the bisection between the yes of `up` and twice its offset has reached the yes of s and the no `high`
pub record Narrowing (ts : List ℕ) (vs : List ℤ) (c : Criterion) (up s : Probing) (high : ℕ) : Type 0 where
  pub yes : Yes ts vs c up.links.from.sample s
  pub bisects : Bisecting (probe_at ts vs c up.links.from.sample) up.low up.probes s.low high s.probes

module _ {ts : List ℕ} {vs : List ℤ} {c : Criterion} {up s r : Probing} {high : ℕ} {b : Bool} (g : Narrowing ts vs c up s high) (lt : s.low + 1 < high)
    (h : Probed ts vs c s.links.from.sample s (halfway s.low high) b r) where
  halved : Probed ts vs c up.links.from.sample s (halfway s.low high) b r
  halved = probed_at g.yes h

  pub narrowing_yes : b ≡ true → Narrowing ts vs c up r high
  narrowing_yes q =
      let y : probe_at ts vs c up.links.from.sample (halfway s.low high) ≡ true = sym halved.answer ∙ q in
      let e : r.low ≡ halfway s.low high = rw y at halved.after.low in
      record { yes = halved.after.yes; bisects = rw (e, halved.after.probes) (bisecting_yes g.bisects lt y) }

  pub narrowing_no : b ≡ false → Narrowing ts vs c up r (halfway s.low high)
  narrowing_no q =
      let n : probe_at ts vs c up.links.from.sample (halfway s.low high) ≡ false = sym halved.answer ∙ q in
      let e : r.low ≡ s.low = rw n at halved.after.low in
      record { yes = halved.after.yes; bisects = rw (e, halved.after.probes) (bisecting_no g.bisects lt n) }

-- the doubling and then the bisection are the search
module _ {ts : List ℕ} {vs : List ℤ} {c : Criterion} {i : ℕ} {up : Probing} {r : Search} (y : Yes ts vs c i up)
    (d : found up.low up.probes ≡ doubling (probe_at ts vs c i) 1 0 (length ts - 1))
    (b : r ≡ bisection (probe_at ts vs c up.links.from.sample) up.low (up.low + up.low) up.probes up.low) where
  pub searched : r ≡ gallop_search (valid ts vs c) (length ts - 1) i
  unfolding gallop_search search_by
  searched = rw (← d) (rw y.links.start.sample at b)

  pub searched_bounds : {limit : ℕ} → i + 1 < length ts → limit ≡ links_end ts c.gap i → (0 < r.low) × (i + r.low ≤ limit) × (i + r.low < length ts) × (r.probes ≤ 2 * r.low)
  searched_bounds {limit} h e =
      let f = search_bounds (valid ts vs c) (steps_valid ts vs c) (length ts - 1) i (omega arith) r searched in
      let v = (gallop_stop_greedy (valid ts vs c) (steps_valid ts vs c) (length ts - 1) i (omega arith)).valid in
      let o : obeys ts c.gap i (i + r.low) ≡ true = valid_obeys ts vs c i (i + r.low) (rw (← searched) at v) in (
        f.0,
        elim (dec_lt limit (i + r.low)) [ yes q ↦ true_false o (obeys_past ts c.gap i h (i + r.low) (omega arith) (omega (arith, f.1))) | no q ↦ omega arith ],
        omega (arith, f.1),
        f.2,
      )

-- Laws of the pass: a loop over the tolerances, the samples one by one, and the end.
-- Assumes nothing.
use mathlib.Core.Path.{◌≡◌, refl, sym, ap, subst, ◌∙◌}
use mathlib.Core.Logic.{◌≢◌}
use mathlib.Core.Bool.{Bool, true, ◌||◌}
use mathlib.Core.List.{List}
use Prim.Native.Nat.{ℕ, suc, ◌+◌, ◌-◌, ◌*◌, ◌≤◌, ◌<◌}
use native.Mathlib.Nat.{mul-le-mul_right}
use native.Mathlib.Decide.{dec_lt}
use native.Mathlib.Numerals.{add-one}
use native.Mathlib.Omega.{arith}
use borrow.Author.Count.{below_more}
use lib.Dec.{ltb}
use lib.IntN.{ℤ}
use lib.ListN.{length, get_or, set, take, drop, length-drop, length-set}
use lib.Seq.{length-take-le, get_or-set_same, get_or-set_other}
use Rattle.std.proofs.lemmas.List.{get_or-take}
use Rattle.tolerance.specs.declared.Parts.{Parts}
use Rattle.trace.specs.Link.{hole}
use Rattle.trace.proofs.Holes.{hole_test}
use Rattle.trace.proofs.Ticks.{not_earlier}
use Rattle.turns.specs.declared.Sample.{Sample}
use Rattle.turns.specs.declared.Step.{Step}
use Rattle.turns.specs.declared.Walk.{Walk}
use Rattle.turns.specs.Sample.{SampleAt}
use Rattle.turns.specs.Held.{Held, stepped, part, Inside, held_in}
use Rattle.turns.specs.Turn.{started, Became}
use Rattle.turns.proofs.HeldLaws.{place_here, place_there, place_beyond}
use Rattle.scans.specs.Scan.{criterion_at, none, walk_at, Sampling, Insides, next_at, AllBecame, Begun, hole_before, cut_at, Walked, Given, Scanning, Closing, Closed, Scanned}
use Rattle.scans.proofs.WalkedLaws.{walked_none, walked_count, walked_steps, walked_step, closed_count, closed_list}

-- part b has room where all have
part_room : (m n b : ℕ) (o : List ℕ) → m * n ≤ length o → b < m → b * n + n ≤ length o
part_room m n b o h lt = omega (arith, mul-le-mul_right n lt)

pub part_length : (m n b : ℕ) (o : List ℕ) → m * n ≤ length o → b < m → length (part n b o) ≡ n
part_length m n b o h lt = length-take-le n (drop (b * n) o) (rw length-drop (omega (arith, part_room m n b o h lt)))

-- ---- one walk in a list

-- what holds of the walk put in at b, and of the others
each_set : (ws : List Walk) {b : ℕ} {w : Walk} → b < length ws → (P : ℕ → Walk → Type 0) → P b w → ((a : ℕ) → a ≢ b → P a (walk_at ws a)) → (a : ℕ) → P a (walk_at (set ws b w) a)
each_set ws {b} {w} lt P here there a =
    let other : a ≢ b → P a (walk_at (set ws b w) a) = λ ne. rw (get_or-set_other ws b a w none ne) (there a ne) in
    elim (dec_lt a b) [
      | yes q ↦ other (λ e. omega arith)
      | no q ↦ elim (dec_lt b a) [
        | yes r ↦ other (λ e. omega arith)
        | no r ↦ let e : a ≡ b = omega arith in rw (e, get_or-set_same ws b w none lt) here
      ]
    ]

-- ---- a step at every tolerance: before b walk has become what f gives

pub record Looping (n : ℕ) (f : ℕ → Held) (ws₀ : List Walk) (out₀ : List ℕ) (b : ℕ) (ws : List Walk) (out : List ℕ) : Type 0 where
  pub criteria : (a : ℕ) → (walk_at ws a).criterion ≡ (walk_at ws₀ a).criterion
  pub done : (a : ℕ) → a < b → held_in n a (walk_at ws a) out ≡ f a
  pub parts : (a : ℕ) → b ≤ a → part n a out ≡ part n a out₀
  pub places : (a : ℕ) → (walk_at ws₀ a).place ≤ (walk_at ws a).place
  pub beyond : drop (length ws₀ * n) out ≡ drop (length ws₀ * n) out₀

-- whatever the length n of a part
pub record Taking (step : Step) (ws₀ : List Walk) (out₀ : List ℕ) (b : ℕ) (ws : List Walk) (out : List ℕ) : Type 0 where
  pub todo : (a : ℕ) → b ≤ a → walk_at ws a ≡ walk_at ws₀ a
  pub all : (n : ℕ) → Insides n ws₀ → Looping n (next_at n step ws₀ out₀) ws₀ out₀ b ws out

module _ {step : Step} {ws₀ : List Walk} {out₀ : List ℕ} {b : ℕ} {ws : List Walk} {out : List ℕ} (g : Taking step ws₀ out₀ b ws out) (e : length ws ≡ length ws₀) where
  module _ (lt : b < length ws₀) where
    this : walk_at ws b ≡ walk_at ws₀ b
    this = g.todo b (omega arith)

    module _ {w : Walk} {out' : List ℕ} (k : (n a : ℕ) → Inside n a (walk_at ws b).place
        → Became n a (stepped (walk_at ws b).criterion step.cut step.before step.here step.at (held_in n a (walk_at ws b) out)) (walk_at ws b) out w out') where
      pub taking_more : {ws' : List Walk} → ws' ≡ set ws b w → Taking step ws₀ out₀ (b + 1) ws' out'
      taking_more put =
          let inside : b < length ws = omega (arith, e) in
          rw put (record {
            todo = λ a le. get_or-set_other ws b a w none (λ z. omega arith) ∙ g.todo a (omega arith);
            all = λ n i.
                let h = g.all n i in
                let m = k n b (rw this (i.each b lt)) in
                record {
                  criteria = each_set ws inside (λ a x. x.criterion ≡ (walk_at ws₀ a).criterion) (m.criterion ∙ h.criteria b) (λ a ne. h.criteria a);
                  done = each_set ws inside (λ a x. a < b + 1 → held_in n a x out' ≡ next_at n step ws₀ out₀ a) (λ z. m.this ∙ rw (this, h.parts b (omega arith))) (λ a ne z. rw (m.others a ne) (h.done a (omega arith)));
                  parts = λ a le. m.others a (λ z. omega arith) ∙ h.parts a (omega arith);
                  places = each_set ws inside (λ a x. (walk_at ws₀ a).place ≤ x.place) (omega (arith, m.place, h.places b)) (λ a ne. h.places a);
                  beyond = m.beyond (length ws₀) lt ∙ h.beyond;
                };
          })

-- ---- closing: the parts before b are closed

pub record ClosingTo (n : ℕ) (ws : List Walk) (out₀ : List ℕ) (b : ℕ) (counts out : List ℕ) : Type 0 where
  pub sized : length counts ≡ 16
  pub count : (a : ℕ) → a < b → get_or counts a 0 ≡ (walk_at ws a).place - a * n + 1
  pub none : (a : ℕ) → b ≤ a → get_or counts a 0 ≡ 0
  pub list : (a : ℕ) → a < b → part n a out ≡ set (part n a out₀) ((walk_at ws a).place - a * n) (n - 1)
  pub todo : (a : ℕ) → b ≤ a → part n a out ≡ part n a out₀
  pub beyond : drop (length ws * n) out ≡ drop (length ws * n) out₀

module _ {n : ℕ} {ws : List Walk} {out₀ : List ℕ} {b : ℕ} {counts out : List ℕ} (h : Closing n ws out₀) (g : ClosingTo n ws out₀ b counts out) where
  module _ (lt : b < length ws) where
    abbrev x : ℕ
    x = (walk_at ws b).place

    pub close_next : {out' : List ℕ} → out' ≡ set out x (n - 1) → ClosingTo n ws out₀ (b + 1) (set counts b (x - b * n + 1)) out'
    close_next o =
        let i = h.inside.each b lt in
        rw o (record {
          sized = length-set counts b _ ∙ g.sized;
          count = below_more _ b (λ a u. get_or-set_other counts b a _ 0 (λ z. omega arith) ∙ g.count a u) (get_or-set_same counts b _ 0 (omega (arith, g.sized, h.few)));
          none = λ a u. get_or-set_other counts b a _ 0 (λ z. omega arith) ∙ g.none a (omega arith);
          list = below_more _ b (λ a u. place_there n b x out (n - 1) i a (λ z. omega arith) ∙ g.list a u)
              (place_here n b x out (n - 1) i ∙ ap (λ (l : List ℕ). set l (x - b * n) (n - 1)) (g.todo b (omega arith)));
          todo = λ a u. place_there n b x out (n - 1) i a (λ z. omega arith) ∙ g.todo a (omega arith);
          beyond = place_beyond n b x out (n - 1) i (length ws) lt ∙ g.beyond;
        })

  pub close_done : length ws ≤ b → b ≤ length ws → Closed n ws out₀ counts out
  close_done le ge = record {
    count = λ a lt. g.count a (omega arith);
    none = λ a u. g.none a (omega arith);
    list = λ a lt. g.list a (omega arith);
    beyond = g.beyond;
  }

-- ---- the samples one by one

module _ {ts : List ℕ} {vs : List ℤ} {ps : List Parts} {o : List ℕ} {g : ℕ} (i : Given ts vs ps g o) {all : List Walk} (k : Begun ps g (length ts) all) where
  first_walk : (a : ℕ) → a < length ps → walk_at (take (length ps) all) a ≡ started (criterion_at ps g a) (a * length ts)
  first_walk a lt = get_or-take (length ps) all a none lt ∙ k.each a lt

  pub scan_first : {first : Sample} → SampleAt ts vs 0 first → Scanning ts vs ps g o 0 first true (take (length ps) all) o
  unfolding hole_before
  scan_first h = record {
    given = i;
    within = omega (arith, i.trace.some);
    sample = h;
    before_is = refl;
    sized = length-take-le (length ps) all (omega (arith, k.sized, i.ratios.few));
    criteria = λ a lt. rw (first_walk a lt);
    each = λ a lt. rw (first_walk a lt) (walked_none (omega arith) refl);
    from = λ a lt. rw (first_walk a lt) (omega arith);
    beyond = refl;
    same = refl;
  }

hole_after : (ts : List ℕ) (g j : ℕ) → hole ts g j ≡ hole_before ts g (j + 1)
unfolding hole_before
hole_after ts g j = rw (add-one j)

-- a hole, by the ticks of two samples
hole_between : {ts : List ℕ} {vs : List ℤ} {j : ℕ} (g : ℕ) {before here : Sample} {b : Bool} → SampleAt ts vs j before → SampleAt ts vs (suc j) here → b ≡ ltb g (here.tick - before.tick) → b ≡ hole ts g j
hole_between {ts} {j = j} g h k e = e ∙ rw (h.tick, k.tick) (rw (add-one j) at (hole_test ts g j))

module _ {ts : List ℕ} {vs : List ℤ} {ps : List Parts} {o : List ℕ} {gap j : ℕ} {before : Sample} {hole₀ : Bool} {ws : List Walk} {out : List ℕ} (g : Scanning ts vs ps gap o j before hole₀ ws out) where
  abbrev i : Given ts vs ps gap o
  i = g.given

  pub scan_insides : Insides (length ts) ws
  scan_insides = record { each = λ a lt. let u : a < length ps = omega (arith, g.sized) in record { from = g.from a u; to = omega (arith, g.from a u, g.within, walked_count (g.each a u)) } }

  module _ {here : Sample} (inside : j < length ts - 1) (k : SampleAt ts vs (j + 1) here) where
    next : SampleAt ts vs (suc j) here
    next = rw add-one at k

    pub scan_order : before.tick ≤ here.tick
    scan_order = omega (arith, g.sample.tick, next.tick, not_earlier i.trace.rising {i = j} {j = suc j} (omega arith) (omega arith))

    module _ {far : Bool} (f : far ≡ ltb gap (here.tick - before.tick)) where
      abbrev step : Step
      step = record { before = before; here = here; at = j; cut = hole₀ || far }

      cut_is : (hole₀ || far) ≡ cut_at ts gap j
      cut_is = rw (g.before_is, hole_between gap g.sample next f)

      pub sampling : Sampling step ws out
      sampling = record {
        each = λ a lt.
            let u : a < length ps = omega (arith, g.sized) in
            let s = walked_steps i.trace (i.ratios.bounded a u) j (g.each a u) (omega arith) g.sample next in
            record {
              steps = rw (g.criteria a u, cut_is) (record { bounded = s.bounded; goes = s.goes; again = s.again });
              room = omega (arith, g.same, (scan_insides.each a lt).to, part_room (length ps) (length ts) a o i.room u);
              number = omega (arith, i.trace.few);
            };
      }

      pub scan_next : {ws' : List Walk} {out' : List ℕ} → AllBecame (length ts) (next_at (length ts) step ws out) ws out ws' out' → length ws' ≡ length ws → length out' ≡ length out
          → Scanning ts vs ps gap o (j + 1) here far ws' out'
      scan_next {ws'} {out'} h z l = record {
        given = i;
        within = omega arith;
        sample = k;
        before_is = hole_between gap g.sample next f ∙ hole_after ts gap j;
        sized = z ∙ g.sized;
        criteria = λ a u. h.criteria a ∙ g.criteria a u;
        each = λ a u.
            let e : held_in (length ts) a (walk_at ws' a) out' ≡ stepped (criterion_at ps gap a) (cut_at ts gap j) before here j (held_in (length ts) a (walk_at ws a) out) =
            h.each a (omega (arith, g.sized)) ∙ rw (g.criteria a u, cut_is) in
            rw (add-one j) (subst (Walked ts vs (criterion_at ps gap a) (part (length ts) a o) (suc j)) (sym e)
            (walked_step i.trace (i.ratios.bounded a u) j (g.each a u) (omega arith) g.sample next (omega (arith, part_length (length ps) (length ts) a o i.room u))));
        from = λ a u. omega (arith, g.from a u, h.places a);
        beyond = rw g.sized at h.beyond ∙ g.beyond;
        same = l ∙ g.same;
      }

-- ---- the end

module _ {ts : List ℕ} {vs : List ℤ} {ps : List Parts} {o : List ℕ} {gap j : ℕ} {here : Sample} {hole₀ : Bool} {ws : List Walk} {out : List ℕ} (g : Scanning ts vs ps gap o j here hole₀ ws out) (end : length ts - 1 ≤ j) where
  pub closing : Closing (length ts) ws out
  closing = record {
    few = omega (arith, g.sized, g.given.ratios.few);
    room = rw g.sized (omega (arith, g.same, g.given.room));
    some = omega (arith, g.given.trace.some);
    short = g.given.trace.few;
    inside = scan_insides g;
  }

  at_last : (a : ℕ) → a < length ps → Walked ts vs (criterion_at ps gap a) (part (length ts) a o) (length ts - 1) (held_in (length ts) a (walk_at ws a) out)
  at_last a u = let z : j ≡ length ts - 1 = omega (arith, g.within) in rw z at (g.each a u)

  pub scan_closed : {counts out' : List ℕ} → Closed (length ts) ws out counts out' → Scanned ts vs ps gap o counts out'
  scan_closed k = record {
    parts = λ a u. k.list a (omega (arith, g.sized)) ∙ closed_list (at_last a u) (omega (arith, g.within, part_length (length ps) (length ts) a o g.given.room u));
    kept = λ a u. k.count a (omega (arith, g.sized)) ∙ closed_count (at_last a u);
    none = λ a u. k.none a (omega (arith, g.sized));
    beyond = rw g.sized at k.beyond ∙ g.beyond;
  }

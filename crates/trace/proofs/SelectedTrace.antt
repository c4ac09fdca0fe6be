-- The samples that a kept list selects of a trace are a trace, from the same first tick to the same last one; and a list of them that crosses no
-- hole of theirs crosses none of the original trace.
-- Assumes nothing.
use mathlib.Core.Path.{◌≡◌, sym, ap, ◌∙◌}
use mathlib.Core.Bool.{true}
use mathlib.Core.List.{List, [], ◌∷◌}
use Prim.Native.Nat.{ℕ, zero, suc, ◌+◌, ◌-◌, ◌≤◌, ◌<◌, max}
use native.Mathlib.Nat.{add-zero}
use native.Mathlib.Decide.{dec_lt}
use native.Mathlib.Omega.{arith}
use lib.IntN.{ℤ, pos}
use lib.ListN.{length, get_or}
use Rattle.lists.specs.Select.{select}
use Rattle.lists.proofs.SelectLaws.{select_length, select_at}
use Rattle.kept.specs.Kept.{KeptList, AllValid}
use Rattle.kept.proofs.KeptLaws.{kept_length, kept_links, kept_inside, links_at, each_zip}
use Rattle.kept.proofs.SelectedLists.{kept_some, kept_first, kept_final, links_select}
use Rattle.trace.specs.Trace.{tick, Trace}
use Rattle.trace.specs.Link.{obeys}
use Rattle.trace.proofs.Ticks.{later, not_earlier}
use Rattle.trace.proofs.Holes.{obeys_true, true_obeys, obeys_wider}

module _ {ts : List ℕ} {vs : List ℤ} (t : Trace ts vs) {l : List ℕ} (kept : KeptList (length ts - 1) l) where
  pub selected_first : tick (select 0 ts l) 0 ≡ tick ts 0
  selected_first = select_at 0 ts l 0 (kept_some l kept) ∙ ap (tick ts) (kept_first l kept)

  pub selected_last : tick (select 0 ts l) (length (select 0 ts l) - 1) ≡ tick ts (length ts - 1)
  selected_last = let n = kept_some l kept in
      rw (select_length 0 ts l) (select_at 0 ts l (length l - 1) (omega arith) ∙ ap (tick ts) (kept_final l kept))

  selected_rises : (k : ℕ) → suc k < length l → tick (select 0 ts l) k < tick (select 0 ts l) (suc k)
  selected_rises k h =
      let e = links_at (λ i j. (i < j) × (j ≤ length ts - 1)) l (kept_links (length ts - 1) l kept) k h in
      rw (select_at 0 ts l k (omega arith), select_at 0 ts l (suc k) h) (later t.rising (get_or l (suc k) 0) e.0 (omega (arith, e.1, t.some)))

  pub selected_trace : Trace (select 0 ts l) (select (pos 0) vs l)
  selected_trace = record {
    same = select_length (pos 0) vs l ∙ sym (select_length 0 ts l);
    some = rw (select_length 0 ts l) (kept_some l kept);
    few = rw (select_length 0 ts l) (omega (arith, kept_length (length ts - 1) l kept, t.some, t.few));
    rising = record { rises = λ k h. selected_rises k (rw (select_length 0 ts l) at h) };
    span = rw (selected_last, selected_first) t.span;
  }

  -- sample k lies in one of the links from position a to position a + n
  step_within : (n a k : ℕ) → a + n < length l → get_or l a 0 ≤ k → k < get_or l (a + n) 0 → (m : ℕ) × (a ≤ m) × (m < a + n) × (get_or l m 0 ≤ k) × (k < get_or l (suc m) 0)
  step_within zero a k inside from to = absurd (omega (arith, ap (λ (x : ℕ). get_or l x 0) (add-zero a)))
  step_within (suc n) a k inside from to = elim (dec_lt k (get_or l (suc a) 0)) [
    | yes q ↦ (a, omega arith, omega arith, from, q)
    | no q ↦
        let e : a + suc n ≡ suc a + n = omega arith in
        let m = step_within n (suc a) k (omega arith) (omega arith) (rw e at to) in
        (m.0, omega (arith, m.1), omega (arith, m.2), m.3, m.4)
  ]

  -- so a hole between two positions is one between two neighbouring ones
  module _ (g : ℕ) (a b : ℕ) (inside : b < length l) (near : (m : ℕ) → a ≤ m → m < b → tick (select 0 ts l) (suc m) - tick (select 0 ts l) m ≤ g) where
    step_near : (k : ℕ) → a < b → get_or l a 0 ≤ k → k < get_or l b 0 → tick ts (suc k) - tick ts k ≤ g
    step_near k ab from to =
        let e : b ≡ a + (b - a) = omega arith in
        let m = step_within (b - a) a k (omega arith) from (rw e at to) in
        let first = select_at 0 ts l m.0 (omega (arith, m.2)) in
        let second = select_at 0 ts l (suc m.0) (omega (arith, m.2)) in
        let last = kept_inside (length ts - 1) l kept (suc m.0) (omega (arith, m.2)) in
        omega (
          arith,
          near m.0 m.1 (omega (arith, m.2)),
          first,
          second,
          not_earlier t.rising m.3 (omega (arith, m.4, last, t.some)),
          not_earlier t.rising m.4 (omega (arith, last, t.some)),
        )

  pub selected_obeys : (g f : ℕ) → AllValid (obeys ts g) l → (h : List ℕ) → KeptList (length l - 1) h → AllValid (obeys (select 0 ts l) f) h → AllValid (obeys ts (max g f)) (select 0 l h)
  selected_obeys g f o [] k p = absurd k.spans
  selected_obeys g f o (i ∷ s) k p =
      links_select l (λ i j. obeys ts (max g f) i j ≡ true) link s i (each_zip (λ i j b q. (b.0, b.1, q)) (i ∷ s) (kept_links (length l - 1) (i ∷ s) k) p)
    where
      link : (a b : ℕ) → (a < b) × (b ≤ length l - 1) × (obeys (select 0 ts l) f a b ≡ true) → obeys ts (max g f) (get_or l a 0) (get_or l b 0) ≡ true
      link a b (ab, inside, q) = elim (dec_lt (suc a) b) [
        | yes long ↦ obeys_true ts (max g f) _ _ (record {
          near = λ _ n from to. omega (arith, step_near f a b (omega (arith, kept_some l kept)) (λ m u v. (true_obeys (select 0 ts l) f a b q).near long m u v) n ab from to);
        })
        | no short ↦
            let e : b ≡ suc a = omega arith in
            rw e (obeys_wider ts g (max g f) (omega arith) _ _ (links_at (λ i j. obeys ts g i j ≡ true) l o a (omega (arith, kept_some l kept))))
      ]

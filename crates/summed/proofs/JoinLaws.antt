-- Laws of the joined list: one sample more of it, that it is a kept list, and that each of its links lies inside a link of either list.
-- Assumes nothing.
use mathlib.Core.Path.{◌≡◌, refl, sym, ◌∙◌, ap, subst}
use mathlib.Core.Bool.{Bool, true, false, cond, ◌||◌, or_comm}
use mathlib.Core.List.{List, [], ◌∷◌, ◌++◌, append-nil}
use Prim.Native.Nat.{ℕ, zero, suc, ◌+◌, ◌-◌, ◌≤◌, ◌<◌, min}
use native.Mathlib.Numerals.{add-one}
use native.Mathlib.Decide.{dec_le, dec_lt}
use native.Mathlib.Omega.{arith}
use lib.Dec.{eqb}
use lib.ListN.{length, set, length-append}
use borrow.Author.Tests.{eq-eqb}
use Rattle.lists.specs.First.{Clear}
use Rattle.lists.specs.Listed.{listed}
use Rattle.lists.specs.Overwrite.{Wrote}
use Rattle.lists.proofs.Tests.{or_first, or_second, or_false, true_false}
use Rattle.lists.proofs.FirstLaws.{clear_none, clear_more}
use Rattle.lists.proofs.OverwriteLaws.{overwrite_length, overwrite_snoc}
use Rattle.lists.proofs.ListedLaws.{listed_length, listed_alike, listed_next}
use Rattle.kept.specs.Kept.{LinksFrom, EachLink, final, KeptList}
use Rattle.kept.proofs.KeptLaws.{links_map, kept_inside, kept_length, links_snoc, final_snoc}
use Rattle.proposed.specs.Proposed.{entry}
use Rattle.summed.specs.Sum.{is_entry, in_either, joined_of, Joinable}
use Rattle.summed.proofs.EntryLaws.{entry_is, first_entry, last_entry, Passed, passed_none, passed_inside, passed_absent, passed_more, entries_listed}

-- ---- one pass over both lists

-- the samples below `next` are joined: positions i and j are the first of l and m that are not, and `out` has the joined ones over o
pub record Joining (n : ℕ) (l m o out : List ℕ) (i j count next : ℕ) : Type 0 where
  pub upto : next ≤ n
  pub first : Passed l i next
  pub second : Passed m j next
  pub wrote : Wrote (listed (in_either l m) next) o count out

pub joining_none : (n : ℕ) (l m o : List ℕ) → Joining n l m o o 0 0 0 0
joining_none n l m o = record { upto = omega arith; first = passed_none l; second = passed_none m; wrote = record { count = refl; content = refl } }

module _ {n : ℕ} {l m o out : List ℕ} {i j count next : ℕ} (g : Joining n l m o out i j count next) (ready : Joinable n l m (length o)) where
  few : length (listed (in_either l m) next) ≤ next
  few = listed_length (in_either l m) next

  pub joining_same : length out ≡ length o
  joining_same = ap length g.wrote.content ∙ overwrite_length (listed (in_either l m) next) o (omega (arith, few, g.upto, ready.entries))

  pub joining_ends : n ≤ next → Wrote (joined_of n l m) o count out
  unfolding joined_of
  joining_ends ge = let e : next ≡ n = omega (arith, g.upto) in rw e at g.wrote

  module _ (lt : next < n) where
    -- there is a next entry of either list, and room for it
    pub joining_inside : (i < length l) × (j < length m) × (count < length out)
    joining_inside = (
      passed_inside ready.first g.first (omega arith),
      passed_inside ready.second g.second (omega arith),
      omega (arith, g.wrote.count, few, joining_same, ready.entries),
    )

    pub joining_few : (i < 4096) × (j < 4096) × (count < 4096)
    joining_few = (
      omega (arith, joining_inside.0, kept_length (n - 1) l ready.first, ready.few),
      omega (arith, joining_inside.1, kept_length (n - 1) m ready.second, ready.few),
      omega (arith, g.wrote.count, few, ready.few),
    )

    module _ {s : ℕ} (is : s ≡ min (entry l i) (entry m j)) where
      pub joining_from : next ≤ s
      joining_from = omega (arith, is, g.first.at joining_inside.0, g.second.at joining_inside.1)

      clear : Clear (in_either l m) next s
      clear = record {
        none = λ k a u. rw (
          passed_absent ready.first g.first joining_inside.0 k a (omega (arith, is)),
          passed_absent ready.second g.second joining_inside.1 k a (omega (arith, is)),
        );
      }

      here : in_either l m s ≡ true
      here = elim (dec_le (entry l i) (entry m j)) [
        | yes q ↦ let e : s ≡ entry l i = omega (arith, is) in or_first (is_entry l s) _ (rw e (entry_is l i joining_inside.0))
        | no q ↦ let e : s ≡ entry m j = omega (arith, is) in or_second (is_entry l s) _ (rw e (entry_is m j joining_inside.1))
      ]

      one_more : listed (in_either l m) (s + 1) ≡ listed (in_either l m) next ++ (s ∷ [])
      one_more = rw (add-one s) (listed_next (in_either l m) joining_from clear here)

      wrote_more : Wrote (listed (in_either l m) (s + 1)) o (count + 1) (set out count s)
      wrote_more = rw one_more (record {
        count = ap (λ (c : ℕ). c + 1) g.wrote.count ∙ sym (length-append (listed (in_either l m) next) (s ∷ []));
        content = rw (g.wrote.content, g.wrote.count) (overwrite_snoc (listed (in_either l m) next) o s (omega (arith, few, ready.entries)));
      })

      pub joining_more : {x y : ℕ} → x ≡ entry l i → y ≡ entry m j → Joining n l m o (set out count s) (cond (eqb x s) (i + 1) i) (cond (eqb y s) (j + 1) j) (count + 1) (s + 1)
      joining_more ex ey = rw (ex, ey) (record {
        upto = omega (arith, is, kept_inside (n - 1) l ready.first i joining_inside.0, ready.some);
        first = passed_more ready.first g.first joining_inside.0 s joining_from (omega (arith, is));
        second = passed_more ready.second g.second joining_inside.1 s joining_from (omega (arith, is));
        wrote = wrote_more;
      })

-- ---- a kept list

-- j is the next number after i that f holds of
pub record NextOf (f : ℕ → Bool) (i j : ℕ) : Type 0 where
  pub after : i < j
  pub clear : Clear f (suc i) j

-- the numbers below m that f holds of, the first of which is 0
record Chain (f : ℕ → Bool) (m : ℕ) (l : List ℕ) : Type 0 where
  rest : List ℕ
  is : l ≡ 0 ∷ rest
  links : LinksFrom (NextOf f) 0 rest
  below : final 0 rest < m
  clear : Clear f (suc (final 0 rest)) m

module _ (f : ℕ → Bool) {m : ℕ} {l : List ℕ} (h : Chain f m l) where
  chain_more : (t : Bool) → f m ≡ t → Chain f (suc m) (l ++ cond t (m ∷ []) [])
  chain_more true e = record {
    rest = h.rest ++ (m ∷ []);
    is = rw h.is;
    links = links_snoc (NextOf f) 0 h.rest h.links (record { after = h.below; clear = h.clear });
    below = rw (final_snoc 0 h.rest m) (omega arith);
    clear = rw (final_snoc 0 h.rest m) clear_none;
  }
  chain_more false e = record {
    rest = h.rest;
    is = rw append-nil h.is;
    links = h.links;
    below = omega (arith, h.below);
    clear = rw (← add-one m) (clear_more h.clear e);
  }

  -- f holds of the last one
  chain_ends : {last : ℕ} → m ≡ suc last → f last ≡ true → final 0 h.rest ≡ last
  chain_ends {last} e t = elim (dec_lt (final 0 h.rest) last) [
    | yes q ↦ true_false t (h.clear.none last q (omega arith))
    | no q ↦ omega (arith, h.below)
  ]

listed_chain : (f : ℕ → Bool) → f 0 ≡ true → (m : ℕ) → Chain f (suc m) (listed f (suc m))
listed_chain f e zero = rw e (record { rest = []; is = refl; links = tt; below = omega arith; clear = clear_none })
listed_chain f e (suc m) = chain_more f (listed_chain f e m) (f (suc m)) refl

module _ {n : ℕ} {l m : List ℕ} (some : 1 ≤ n) (first : KeptList (n - 1) l) (second : KeptList (n - 1) m) where
  chain : Chain (in_either l m) n (joined_of n l m)
  unfolding joined_of
  chain =
      let e : suc (n - 1) ≡ n = omega arith in
      subst (λ (k : ℕ). Chain (in_either l m) k (listed (in_either l m) k)) e (listed_chain (in_either l m) (or_first _ _ (first_entry l first)) (n - 1))

  pub joined_kept : KeptList (n - 1) (joined_of n l m)
  joined_kept = let c = chain in rw c.is (record {
    spans = (refl, chain_ends (in_either l m) c (omega arith) (or_first _ _ (last_entry l first)));
    rises = links_map (λ i j r. r.after) 0 c.rest c.links;
  })

  -- the samples between those of a link are in neither list
  pub joined_links : EachLink (NextOf (in_either l m)) (joined_of n l m)
  joined_links = let c = chain in rw c.is c.links

-- ---- lists exchanged, and a list joined with samples of its own

pub joined_swap : (n : ℕ) (l m : List ℕ) → joined_of n l m ≡ joined_of n m l
unfolding joined_of
joined_swap n l m = listed_alike n (λ k u. or_comm (is_entry l k) (is_entry m k))

-- two tests of which the second holds only where the first does
absorbed : (a b : Bool) → (b ≡ true → a ≡ true) → (a || b) ≡ a
absorbed true b h = refl
absorbed false true h = sym (h refl)
absorbed false false h = refl

-- which stays as it is
pub joined_part : {n : ℕ} {l : List ℕ} → 1 ≤ n → KeptList (n - 1) l → (m : List ℕ) → ((k : ℕ) → is_entry m k ≡ true → is_entry l k ≡ true) → joined_of n l m ≡ l
unfolding joined_of
joined_part {n} {l} some kept m h = listed_alike n (λ k u. absorbed (is_entry l k) (is_entry m k) (h k)) ∙ entries_listed some kept

-- ---- links of a list around a link

-- a link of which R holds goes from i or before it to j or after it
pub record Around (R : ℕ → ℕ → Type 0) (i j : ℕ) : Type 0 where
  pub from : ℕ
  pub to : ℕ
  pub link : R from to
  pub starts : from ≤ i
  pub ends : j ≤ to

module _ {R : ℕ → ℕ → Type 0} {i j : ℕ} (forward : i < j) where
  around_from : (x : ℕ) (s : List ℕ) → LinksFrom R x s → x ≤ i → j ≤ final x s → ((k : ℕ) → i < k → k < j → is_entry s k ≡ false) → Around R i j
  around_from x [] r le ge none = absurd (omega arith)
  around_from x (y ∷ s) r le ge none = elim (dec_le y i) [
    | yes q ↦ around_from y s r.1 q ge (λ k a u. (or_false (eqb k y) _ (none k a u)).1)
    | no q ↦ elim (dec_le j y) [
      | yes p ↦ record { from = x; to = y; link = r.0; starts = le; ends = p }
      | no p ↦ true_false (or_first _ _ (eq-eqb y y refl)) (none y (omega arith) (omega arith))
    ]
  ]

  pub around : {last : ℕ} (l : List ℕ) → KeptList last l → EachLink R l → j ≤ last → ((k : ℕ) → i < k → k < j → is_entry l k ≡ false) → Around R i j
  around [] kept r le none = absurd kept.spans
  around (x ∷ s) kept r le none =
      around_from x s r (omega (arith, kept.spans.0)) (omega (arith, kept.spans.1)) (λ k a u. (or_false (eqb k x) _ (none k a u)).1)

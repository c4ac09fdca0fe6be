-- Laws of the entries of a kept list by position: it rises from each to every later one, and those that another kept list selects are a kept list.
-- Assumes nothing.
use mathlib.Core.Path.{◌≡◌, refl, sym, ◌∙◌, ap, subst}
use mathlib.Core.Logic.{⊎_elim}
use mathlib.Core.List.{List, [], ◌∷◌}
use Prim.Native.Nat.{ℕ, zero, suc, ◌-◌, ◌≤◌, ◌<◌}
use native.Mathlib.Nat.{eq-or-lt_of_le, le_of_suc-le-suc}
use native.Mathlib.Omega.{arith}
use lib.ListN.{length, get_or}
use Rattle.lists.specs.Select.{select}
use Rattle.kept.specs.Kept.{LinksFrom, EachLink, final, KeptList}
use Rattle.kept.proofs.KeptLaws.{links_at, kept_links}

-- a list that rises from each entry to the next rises from each to every later one
pub rises_later : (l : List ℕ) → EachLink ◌<◌ l → (j : ℕ) {i : ℕ} → i < j → j < length l → get_or l i 0 < get_or l j 0
rises_later l r zero h k = absurd (omega arith)
rises_later l r (suc j) {i} h k =
    ⊎_elim (λ e. subst (λ (x : ℕ). get_or l x 0 < get_or l (suc j) 0) (sym e) (links_at ◌<◌ l r j k))
    (λ lt. omega (arith, rises_later l r j lt (omega arith), links_at ◌<◌ l r j k))
    (eq-or-lt_of_le (le_of_suc-le-suc h))

final_at : (s : List ℕ) (i : ℕ) → get_or (i ∷ s) (length s) 0 ≡ final i s
final_at [] i = refl
final_at (j ∷ s) i = final_at s j

-- the ends of a kept list
module _ {last : ℕ} where
  pub kept_some : (l : List ℕ) → KeptList last l → 1 ≤ length l
  kept_some [] k = absurd k.spans
  kept_some (i ∷ s) k = omega arith

  pub kept_first : (l : List ℕ) → KeptList last l → get_or l 0 0 ≡ 0
  kept_first [] k = absurd k.spans
  kept_first (i ∷ s) k = k.spans.0

  pub kept_final : (l : List ℕ) → KeptList last l → get_or l (length l - 1) 0 ≡ last
  kept_final [] k = absurd k.spans
  kept_final (i ∷ s) k = let e : suc (length s) - 1 ≡ length s = omega arith in rw e (final_at s i ∙ k.spans.1)

-- what a selection of entries has, from its positions
module _ (l : List ℕ) where
  select_final : (s : List ℕ) (i : ℕ) → final (get_or l i 0) (select 0 l s) ≡ get_or l (final i s) 0
  select_final [] i = refl
  select_final (j ∷ s) i = select_final s j

  pub links_select : {R : ℕ → ℕ → Type 0} (S : ℕ → ℕ → Type 0) → ((i j : ℕ) → R i j → S (get_or l i 0) (get_or l j 0)) → (s : List ℕ) (i : ℕ) → LinksFrom R i s → LinksFrom S (get_or l i 0) (select 0 l s)
  links_select S f [] i r = tt
  links_select S f (j ∷ s) i r = (f i j r.0, links_select S f s j r.1)

  -- the samples that h names among those of l
  pub kept_select : {last : ℕ} (h : List ℕ) → KeptList last l → KeptList (length l - 1) h → KeptList last (select 0 l h)
  kept_select [] k g = absurd g.spans
  kept_select (i ∷ s) k g = record {
    spans = (ap (λ (n : ℕ). get_or l n 0) g.spans.0 ∙ kept_first l k, select_final s i ∙ ap (λ (n : ℕ). get_or l n 0) g.spans.1 ∙ kept_final l k);
    rises = links_select ◌<◌ (λ i j r. rises_later l k.rises j r.0 (omega (arith, r.1, kept_some l k))) s i (kept_links (length l - 1) (i ∷ s) g);
  }

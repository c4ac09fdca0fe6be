-- The entries of a list, and the list of all samples, which is a kept list.
-- Assumes nothing.
use mathlib.Core.Path.{◌≡◌, refl, ◌∙◌, ap}
use mathlib.Core.Logic.{◌⊎◌, inl, inr, ⊎_elim}
use mathlib.Core.List.{List, [], ◌∷◌}
use Prim.Native.Nat.{ℕ, zero, suc, ◌+◌, ◌≤◌, ◌<◌}
use native.Mathlib.Nat.{eq-or-lt_of_le}
use native.Mathlib.Omega.{arith}
use lib.ListN.{length, get_or}
use borrow.Author.Tests.{lt-ltb}
use Rattle.kept.specs.Kept.{LinksFrom, EachLink, final, KeptList}
use Rattle.kept.specs.Stops.{stops, list_by}
use Rattle.kept.proofs.KeptLaws.{rise_le}
use Rattle.heights.specs.Heights.{samples_after, every_sample}

-- k is an entry of the list
abbrev pub Entry : ℕ → List ℕ → Type 0
Entry k [] = ⊥
Entry k (i ∷ s) = (k ≡ i) ⊎ Entry k s

pub entry_inside : (k : ℕ) (s : List ℕ) (i : ℕ) → LinksFrom ◌<◌ i s → Entry k (i ∷ s) → (i ≤ k) × (k ≤ final i s)
entry_inside k [] i r e = ⊎_elim (λ q. omega arith) (λ z. absurd z) e
entry_inside k (j ∷ s) i r e =
    ⊎_elim (λ q. omega (arith, rise_le j s r.1)) (λ m. omega (arith, entry_inside k s j r.1 m)) e

pub kept_entry : {last k : ℕ} (l : List ℕ) → KeptList last l → Entry k l → k ≤ last
kept_entry [] h e = absurd e
kept_entry {k = k} (i ∷ s) h e = omega (arith, entry_inside k s i h.rises e, h.spans.1)

-- ---- all samples

module _ (R : ℕ → ℕ → Type 0) (last : ℕ) (step : (k : ℕ) → k < last → R k (suc k)) where
  after_links : (n i : ℕ) → i + n ≤ last → LinksFrom R i (samples_after i n)
  unfolding samples_after
  after_links zero i h = tt
  after_links (suc n) i h = (step i (omega arith), after_links n (suc i) (omega arith))

  pub every_links : EachLink R (every_sample last)
  every_links = after_links last 0 (omega arith)

after_final : (n i : ℕ) → final i (samples_after i n) ≡ i + n
unfolding samples_after
after_final zero i = omega arith
after_final (suc n) i = after_final n (suc i) ∙ omega arith

pub every_kept : (last : ℕ) → KeptList last (every_sample last)
every_kept last = record { spans = (refl, after_final last 0 ∙ omega arith); rises = every_links ◌<◌ last (λ k h. omega arith) }

after_entry : (n i k : ℕ) → i ≤ k → k ≤ i + n → Entry k (i ∷ samples_after i n)
unfolding samples_after
after_entry zero i k l u = inl (omega arith)
after_entry (suc n) i k l u = ⊎_elim (λ e. inl (omega arith)) (λ m. inr (after_entry n (suc i) k m (omega arith))) (eq-or-lt_of_le l)

pub every_entry : (last k : ℕ) → k ≤ last → Entry k (every_sample last)
every_entry last k h = after_entry last 0 k (omega arith) (omega arith)

after_length : (n i : ℕ) → length (samples_after i n) ≡ n
unfolding samples_after
after_length zero i = refl
after_length (suc n) i = ap suc (after_length n (suc i))

pub every_length : (last : ℕ) → length (every_sample last) ≡ suc last
every_length last = ap suc (after_length last 0)

after_at : (n i k : ℕ) → k ≤ n → get_or (i ∷ samples_after i n) k 0 ≡ i + k
unfolding samples_after
after_at n i zero h = omega arith
after_at zero i (suc k) h = absurd (omega arith)
after_at (suc n) i (suc k) h = after_at n (suc i) k (omega arith) ∙ omega arith

pub every_at : (last k : ℕ) → k ≤ last → get_or (every_sample last) k 0 ≡ k
every_at last k h = after_at last 0 k h ∙ omega arith

-- from each sample to the next
after_stops : (n i last : ℕ) → i + n ≡ last → stops suc last i n ≡ samples_after i n
unfolding stops samples_after
after_stops zero i last e = refl
after_stops (suc n) i last e = rw (lt-ltb i last (omega arith), after_stops n (suc i) last (omega arith))

pub every_stops : (last : ℕ) → list_by suc last ≡ every_sample last
every_stops last = rw (after_stops last 0 last (omega arith))

-- Laws of the probe total of a kept list of the samples 0 .. last, from its links alone (document 02, "Probes to the digit"). With s stops:
--   total_stops     at most s times the probes of one stop of `last` samples
--   total_samples   at most 2 last - s
--   total_reached   which is reached where no stop advances by more than 2 samples
--   reached_only    and only there
-- Assumes nothing.
use mathlib.Core.Path.{◌≡◌}
use mathlib.Core.List.{List, [], ◌∷◌}
use Prim.Native.Nat.{ℕ, zero, suc, ◌+◌, ◌-◌, ◌*◌, ◌^◌, ◌≤◌, ◌<◌}
use native.Mathlib.Nat.{two-pow-succ, suc-mul}
use native.Mathlib.Omega.{arith}
use native.Mathlib.Decide.{dec_le}
use lib.Count.{count_leading_zeros, leading_top}
use lib.ListN.{length}
use lib.Pow.{pow_mono}
use Rattle.kept.specs.Kept.{LinksFrom, EachLink, final, KeptList}
use Rattle.kept.specs.Gallop.{sum_from, floor_log2, stop_probes, list_probes}
use Rattle.kept.proofs.KeptLaws.{each_map, each_zip, kept_links}
use Rattle.kept.proofs.GallopLaws.{lt_pow}

-- ---- one stop

-- 2 to the floor (log2 r) is the last power of two up to r
log2_place : (r : ℕ) → 0 < r → r < 2 ^ 64 → (2 ^ floor_log2 64 r ≤ r) × (r < 2 ^ suc (floor_log2 64 r))
log2_place r pos fit =
    let t = leading_top 64 r pos fit in
    let e : floor_log2 64 r ≡ t.0 = omega (arith, t.1) in
    rw e (t.2, t.3)

-- a shorter stop takes no more probes
stop_mono : (r m : ℕ) → 0 < r → r ≤ m → m < 2 ^ 64 → stop_probes r ≤ stop_probes m
stop_mono r m pos le fit =
    let a = log2_place r pos (omega arith) in
    let b = log2_place m (omega arith) fit in
    elim (dec_le (floor_log2 64 r) (floor_log2 64 m)) [
      | yes q ↦ omega arith
      | no q ↦ absurd (omega (arith, pow_mono {i = suc (floor_log2 64 m)} {j = floor_log2 64 r} (omega arith)))
    ]

-- a stop of r samples takes at most 2 r - 1 probes, and as many exactly if r is at most 2
stop_most : (r : ℕ) → 0 < r → r < 2 ^ 64 → stop_probes r + 1 ≤ 2 * r
stop_most r pos fit = omega (arith, (log2_place r pos fit).0, lt_pow (floor_log2 64 r))

stop_reached : (r : ℕ) → 0 < r → r ≤ 2 → stop_probes r + 1 ≡ 2 * r
unfolding count_leading_zeros
stop_reached zero pos le = absurd (omega arith)
stop_reached (suc zero) pos le = omega arith
stop_reached (suc (suc zero)) pos le = omega arith
stop_reached (suc (suc (suc r))) pos le = absurd (omega arith)

stop_less : (r : ℕ) → 2 < r → r < 2 ^ 64 → stop_probes r + 1 < 2 * r
stop_less r gt fit = go (floor_log2 64 r) (log2_place r (omega arith) fit).0
  where
    go : (a : ℕ) → 2 ^ a ≤ r → 2 * a + 1 + 1 < 2 * r
    go zero h = omega arith
    go (suc zero) h = omega arith
    go (suc (suc a)) h = omega (arith, two-pow-succ (suc a), lt_pow (suc a))

-- ---- sums over links

sum_most : (f : ℕ → ℕ → ℕ) (b i : ℕ) (s : List ℕ) → LinksFrom (λ i j. f i j ≤ b) i s → sum_from f i s ≤ length s * b
unfolding sum_from
sum_most f b i [] h = omega arith
sum_most f b i (j ∷ s) h = omega (arith, suc-mul (length s) b, sum_most f b j s h.1)

-- f of each link, plus 1, is at most twice the samples that the link advances by
module _ (f : ℕ → ℕ → ℕ) where
  sum_steps : (i : ℕ) (s : List ℕ) → LinksFrom (λ i j. (i < j) × (f i j + 1 ≤ 2 * (j - i))) i s → sum_from f i s + length s + 2 * i ≤ 2 * final i s
  unfolding sum_from
  sum_steps i [] h = omega arith
  sum_steps i (j ∷ s) h = omega (arith, sum_steps j s h.1)

  sum_reached : (i : ℕ) (s : List ℕ) → LinksFrom (λ i j. (i < j) × (f i j + 1 ≡ 2 * (j - i))) i s → sum_from f i s + length s + 2 * i ≡ 2 * final i s
  unfolding sum_from
  sum_reached i [] h = omega arith
  sum_reached i (j ∷ s) h = omega (arith, sum_reached j s h.1)

  reached_each : (i : ℕ) (s : List ℕ) → LinksFrom (λ i j. (i < j) × (f i j + 1 ≤ 2 * (j - i))) i s → sum_from f i s + length s + 2 * i ≡ 2 * final i s
      → LinksFrom (λ i j. f i j + 1 ≡ 2 * (j - i)) i s
  unfolding sum_from
  reached_each i [] h e = tt
  reached_each i (j ∷ s) h e = let rest = sum_steps j s h.1 in (omega arith, reached_each j s h.1 (omega arith))

-- ---- the total of a kept list

-- the probes of the stop at j after i
abbrev probes : ℕ → ℕ → ℕ
probes i j = stop_probes (j - i)

pub total_reached : {last : ℕ} (l : List ℕ) → KeptList last l → EachLink (λ i j. j ≤ i + 2) l → list_probes l + (length l - 1) ≡ 2 * last
total_reached [] k h = absurd k.spans
total_reached (i ∷ s) k h =
    let each = each_zip {Q = λ i j. (i < j) × (probes i j + 1 ≡ 2 * (j - i))} (λ i j a b. (a, stop_reached (j - i) (omega arith) (omega arith))) (i ∷ s) k.rises h in
    omega (arith, k.spans, sum_reached probes i s each)

module _ {last : ℕ} (fit : last < 2 ^ 64) where
  each_most : (l : List ℕ) → KeptList last l → EachLink (λ i j. (i < j) × (probes i j + 1 ≤ 2 * (j - i))) l
  each_most l k = each_map (λ i j h. (h.0, stop_most (j - i) (omega arith) (omega arith))) l (kept_links last l k)

  pub total_stops : (l : List ℕ) → KeptList last l → list_probes l ≤ (length l - 1) * stop_probes last
  total_stops [] k = absurd k.spans
  total_stops (i ∷ s) k =
      let each = each_map {S = λ i j. probes i j ≤ stop_probes last} (λ i j h. stop_mono (j - i) last (omega arith) (omega arith) fit) (i ∷ s) (kept_links last (i ∷ s) k) in
      let e : length (i ∷ s) - 1 ≡ length s = omega arith in
      rw e (sum_most probes (stop_probes last) i s each)

  pub total_samples : (l : List ℕ) → KeptList last l → list_probes l + (length l - 1) ≤ 2 * last
  total_samples [] k = absurd k.spans
  total_samples (i ∷ s) k = omega (arith, k.spans, sum_steps probes i s (each_most (i ∷ s) k))

  pub reached_only : (l : List ℕ) → KeptList last l → list_probes l + (length l - 1) ≡ 2 * last → EachLink (λ i j. j ≤ i + 2) l
  reached_only [] k e = tt
  reached_only (i ∷ s) k e =
      let each = reached_each probes i s (each_most (i ∷ s) k) (omega (arith, k.spans)) in
      each_zip near (i ∷ s) (kept_links last (i ∷ s) k) each
    where
      near : (i j : ℕ) → (i < j) × (j ≤ last) → probes i j + 1 ≡ 2 * (j - i) → j ≤ i + 2
      near i j h e = elim (dec_le j (i + 2)) [ yes q ↦ q | no q ↦ absurd (omega (arith, stop_less (j - i) (omega arith) (omega arith))) ]

-- What a comparison of pedestals takes from the values of a trace, and when a channel has moved or is noisy (document 02, "Morning pedestals").
--   total, squares    the sum S of values, and the sum Q of their squares
--   spread            n Q - S²: the square of n times the width of n values
--   moved, noisy      the two tests of today's values and those of the run before
--   Summed            n, S and Q as they are computed
--   spread_in         n Q - S² from them
--   Comparable        values that the checks pass
--   Judged            what is said of a channel is what the two tests say
-- Laws are in SumLaws. Assumes nothing.
use Rattle.std.specs.Prelude.{◌≡◌, Bool, List, [], ◌∷◌, ℕ, ◌*◌, ◌-◌, ◌≤◌, ltb, ℤ, pos, ◌+ℤ◌, ◌-ℤ◌, ◌*ℤ◌, nat_abs, length}
use Rattle.std.specs.Int.Signed.{lt_z}
use Rattle.ratio.specs.declared.Ratio.{Ratio}
use Rattle.tolerance.specs.Meaning.{Held}
use Rattle.verdicts.specs.declared.sums.Sums.{Sums}
use Rattle.verdicts.specs.declared.Verdict.{Verdict}

abbrev pub total : List ℤ → ℤ
total [] = pos 0
total (v ∷ vs) = v +ℤ total vs

abbrev pub squares : List ℤ → ℤ
squares [] = pos 0
squares (v ∷ vs) = v *ℤ v +ℤ squares vs

unfoldable pub spread : List ℤ → ℤ
spread vs = pos (length vs) *ℤ squares vs -ℤ total vs *ℤ total vs

-- |S1 - S2| q exceeds p n
unfoldable pub moved : Ratio → List ℤ → List ℤ → Bool
moved r today earlier = ltb (r.p * length today) (nat_abs (total today -ℤ total earlier) * r.q)

-- n Q1 - S1² exceeds k² (n Q2 - S2²)
unfoldable pub noisy : ℕ → List ℤ → List ℤ → Bool
noisy k today earlier = lt_z (pos (k * k) *ℤ spread earlier) (spread today)

pub record Summed (vs : List ℤ) (r : Sums) : Type 0 where
  pub count : r.count ≡ length vs
  pub sum : r.sum ≡ total vs
  pub squares : pos r.squares ≡ squares vs

-- n Q - S², from the sums as they are computed
abbrev pub spread_in : Sums → ℕ
spread_in x = x.count * x.squares - nat_abs x.sum * nat_abs x.sum

-- the values of a channel that passes the checks, in two runs
pub record Comparable (today earlier : List ℤ) (r : Ratio) (k : ℕ) : Type 0 where
  pub same : length earlier ≡ length today
  pub few : length today ≤ 4096
  pub held : Held r
  pub factor : k ≤ 16

pub record Judged (today earlier : List ℤ) (r : Ratio) (k : ℕ) (v : Verdict) : Type 0 where
  pub moved : v.moved ≡ moved r today earlier
  pub noisy : v.noisy ≡ noisy k today earlier

-- Laws of the checks: what each finds, and what it shows where it passes.
-- Assumes nothing.
use Rattle.std.specs.Prelude.{Err, Ok, Result, ⊤}
use mathlib.Core.Path.{◌≡◌, refl, sym, ◌∙◌, ap, subst}
use Prim.Native.Nat.{ℕ, zero, suc, ◌+◌, ◌-◌, ◌≤◌, ◌<◌}
use native.Mathlib.Numerals.{add-one}
use native.Mathlib.Omega.{arith}
use lib.Dec.{eqb}
use Rattle.std.proofs.lemmas.Bool.Decides.{nat_tests}
use lib.ListN.{length, take, get_or}
use lib.Seq.{take-suc}
use borrow.Author.Tests.{eqb-true, eqb-false}
use Rattle.lists.proofs.Tests.{by_test}
use Rattle.refusal.specs.declared.Refusal.TheVariants.{Crate}
use Rattle.refusal.proofs.TableLaws.{row_fine, then_fine}
use Rattle.channels.specs.Channels.{sum, place_of, crate_row}
use Rattle.channels.proofs.ChannelLaws.{crate_divided, place_next, place_fits, channel_length}
use Rattle.tolerance.specs.declared.Tolerance.{Tolerance}
use Rattle.pedestals.specs.declared.Cause.{Cause}
use Rattle.pedestals.specs.Compare.{Run, values_of, ◌then◌, factor_row, runs_row, channel_row, channel_rows, compare_rows}
use Rattle.pedestals.specs.Checking.{HasPart, parts_row, ChannelChecked, ChannelsChecked, DividedRuns}

-- ---- all channels: those before c pass, and channel c begins at the place `at` in both runs
pub record Checking (a b : Run) (at c : ℕ) : Type 0 where
  pub upto : c ≤ length a.lengths
  pub place : at ≡ place_of a.lengths c
  pub same : take c b.lengths ≡ take c a.lengths
  pub few : (j : ℕ) → j < c → get_or a.lengths j 0 ≤ 4096
  pub rows : channel_rows a b c (length a.lengths - c) ≡ channel_rows a b 0 (length a.lengths)

module _ {a b : Run} {at c : ℕ} (h : Checking a b at c) where
  second_place : at ≡ place_of b.lengths c
  second_place = h.place ∙ ap sum (sym h.same)

  module _ (d : DividedRuns a b) (lt : c < length a.lengths) where
    pub checking_fits : HasPart a at (get_or a.lengths c 0) × HasPart b at (get_or b.lengths c 0)
    checking_fits =
        let p = place_fits a.lengths c lt in
        let q = place_fits b.lengths c (omega arith) in
        let e = second_place in
        (record { ticks = omega arith; values = omega arith }, record { ticks = omega arith; values = omega arith })

    -- the rows from channel c on are its own and those after it
    next : channel_rows a b c (length a.lengths - c) ≡ channel_row a b c then channel_rows a b (suc c) (length a.lengths - suc c)
    next = ap (channel_rows a b c) {x = length a.lengths - c} {y = suc (length a.lengths - suc c)} (omega arith)

    row_is : channel_row a b c ≡ parts_row c a b at (get_or a.lengths c 0) (get_or b.lengths c 0)
    unfolding channel_row
    row_is = rw (← h.place, ← second_place)

    pub checking_stop : {x : Cause} → ChannelChecked c a b at (get_or a.lengths c 0) (get_or b.lengths c 0) (Err x) → ChannelsChecked a b (Err x)
    checking_stop k = record {
      is = sym (ap (λ (z : Result ⊤ Cause). z then channel_rows a b (suc c) (length a.lengths - suc c)) (row_is ∙ sym k.is)) ∙ sym next ∙ h.rows;
      alike = λ f. absurd (cc);
    }

    pub checking_more : ChannelChecked c a b at (get_or a.lengths c 0) (get_or b.lengths c 0) (Ok tt) → Checking a b (at + get_or a.lengths c 0) (c + 1)
    checking_more k = rw (add-one c) (record {
      upto = lt;
      place = ap (λ (z : ℕ). z + get_or a.lengths c 0) h.place ∙ sym (place_next a.lengths c lt);
      same = rw (take-suc b.lengths c 0 (omega (arith, d.counts)), take-suc a.lengths c 0 lt, h.same, k.same refl);
      few = grind (arith, h.few, k.few refl);
      rows = ap (λ (z : Result ⊤ Cause). z then channel_rows a b (suc c) (length a.lengths - suc c)) (k.is ∙ sym row_is) ∙ sym next ∙ h.rows;
    })

-- ---- what a call that is not refused shows

then_passes : (x y : Result ⊤ Cause) → x then y ≡ Ok tt → (x ≡ Ok tt) × (y ≡ Ok tt)
then_passes (Ok _) y e = (refl, e)
then_passes (Err x) y e = absurd (cc)

channel_passes : (a b : Run) (c n i : ℕ) → channel_rows a b c n ≡ Ok tt → c ≤ i → i < c + n → channel_row a b i ≡ Ok tt
channel_passes a b c zero i e le lt = absurd (omega arith)
channel_passes a b c (suc n) i e le lt =
    let p = then_passes (channel_row a b c) _ e in
    by_test (eqb c i)
    (λ t. subst (λ (j : ℕ). channel_row a b j ≡ Ok tt) (eqb-true c i t) p.0)
    (λ t. channel_passes a b (suc c) n i p.1 (omega (arith, eqb-false c i t)) (omega arith))

same_lengths : (a b : Run) (c : ℕ) → channel_row a b c ≡ Ok tt → get_or b.lengths c 0 ≡ get_or a.lengths c 0
unfolding channel_row
same_lengths a b c e = grind (arith, nat_tests)

module _ (a b : Run) (t : Tolerance) (k room room' : ℕ) (e : compare_rows a b t k room room' ≡ Ok tt) where
  passing : (factor_row k ≡ Ok tt) × (runs_row a b ≡ Ok tt) × (channel_rows a b 0 (length a.lengths) ≡ Ok tt)
  unfolding compare_rows
  passing = (grind arith, grind arith, grind arith)

  pub passing_factor : 1 ≤ k
  passing_factor = grind (arith, nat_tests, passing.0)

  -- a channel has as many values in both runs
  pub passing_lengths : (c : ℕ) → c < length a.lengths → length (values_of b c) ≡ length (values_of a c)
  unfolding runs_row
  passing_lengths c lt =
      let r = then_fine (crate_row a.ticks a.values a.lengths) _ passing.1 in
      let s = then_fine (crate_row b.ticks b.values b.lengths) _ r.1 in
      let counts = eqb-true (length b.lengths) (length a.lengths) (row_fine _ Crate s.1) in
      channel_length b.lengths c b.values (omega (arith, counts, lt)) (crate_divided _ _ _ s.0).values
      ∙ same_lengths a b c (channel_passes a b 0 (length a.lengths) c passing.2 (omega arith) (omega arith))
      ∙ sym (channel_length a.lengths c a.values lt (crate_divided _ _ _ r.0).values)

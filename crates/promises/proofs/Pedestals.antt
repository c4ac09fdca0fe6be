-- What a comparison of pedestals says of each channel, from its contract alone.
--   moved_exactly, noisy_exactly   each list has exactly its channels, in rising order
--   moved_own, noisy_own           the verdict on a channel depends on its own values in the two runs, on nothing else in the crate
--   itself_none                    a run compared with itself lists nothing
--   compare_shift                  a constant added to every value of both runs changes no answer and no list
-- Assumes nothing.
use Rattle.std.specs.Prelude.{Err, Ok, Result}
use mathlib.Core.Path.{◌≡◌, refl, sym, ◌∙◌, ap, subst}
use mathlib.Core.Bool.{Bool}
use mathlib.Core.List.{List, [], ◌∷◌, map, Memᴰ}
use mathlib.Core.Logic.{◌↔◌}
use Prim.Native.Nat.{ℕ, zero, suc, ◌<◌}
use lib.IntN.{ℤ, ◌+ℤ◌}
use lib.ListN.{length, take, drop, get_or, length-map}
use Rattle.lists.specs.Overwrite.{Wrote}
use Rattle.lists.specs.Listed.{listed}
use Rattle.lists.proofs.OverwriteLaws.{wrote_read}
use Rattle.lists.proofs.ListedLaws.{listed_alike, listed_none, listed_only, listed_each, listed_rising}
use Rattle.channels.specs.Channels.{part, place_of}
use Rattle.channels.proofs.ChannelLaws.{crate_counts}
use Rattle.trace.proofs.TraceLaws.{rows_counts}
use Rattle.tolerance.specs.declared.Tolerance.{Tolerance}
use Rattle.tolerance.specs.Meaning.{meaning}
use Rattle.listing.specs.declared.Counts.{Counts}
use Rattle.pedestals.specs.Compare.{Run, values_of, held_ratio, runs_row, channel_row, channel_rows, compare_rows, has_moved, is_noisy, moved_channels, noisy_channels, CompareOutcome}
use Rattle.verdicts.proofs.SumLaws.{moved_itself, noisy_itself}
use Rattle.pedestals.proofs.CheckLaws.{passing_factor, passing_lengths}
use Rattle.promises.specs.Pedestals.{Exactly, added_to, shifted}
use Rattle.promises.proofs.PedestalShift.{moved_shift, noisy_shift}
use Rattle.pedestals.specs.declared.Cause.{Cause}

-- ---- the lists

listed_exactly : (f : ℕ → Bool) (m : ℕ) → Exactly f m (listed f m)
listed_exactly f m = record { only = λ c. listed_only f m; each = λ c. listed_each f m; rises = (listed_rising f m).rises }

module _ {a b : Run} {t : Tolerance} {k : ℕ} {m s : List ℕ} {n : Counts} {m' s' : List ℕ} (r : CompareOutcome a b t k m s (Ok n) m' s') where
  pub moved_exactly : Exactly (has_moved (held_ratio (meaning t)) a b) (length a.lengths) (take n.moved m')
  moved_exactly = rw (wrote_read r.moved) (listed_exactly (has_moved (held_ratio (meaning t)) a b) (length a.lengths))

  pub noisy_exactly : Exactly (is_noisy k a b) (length a.lengths) (take n.noisy s')
  noisy_exactly = rw (wrote_read r.noisy) (listed_exactly (is_noisy k a b) (length a.lengths))

-- ---- a channel by itself: c and d are channels of two crates that hold the same values in both runs

module _ {a b a' b' : Run} {t : Tolerance} {k : ℕ} {m s e f : List ℕ} {n n' : Counts} {m' s' e' f' : List ℕ}
    (r : CompareOutcome a b t k m s (Ok n) m' s') (q : CompareOutcome a' b' t k e f (Ok n') e' f')
    (c d : ℕ) (inside : c < length a.lengths) (inside' : d < length a'.lengths)
    (first : values_of a c ≡ values_of a' d) (second : values_of b c ≡ values_of b' d) where
  pub moved_own : Memᴰ c (take n.moved m') ↔ Memᴰ d (take n'.moved e')
  moved_own =
      let alike : has_moved (held_ratio (meaning t)) a b c ≡ has_moved (held_ratio (meaning t)) a' b' d = rw (first, second) in (
        λ h. (moved_exactly q).each d inside' (sym alike ∙ ((moved_exactly r).only c h).1),
        λ h. (moved_exactly r).each c inside (alike ∙ ((moved_exactly q).only d h).1),
      )

  pub noisy_own : Memᴰ c (take n.noisy s') ↔ Memᴰ d (take n'.noisy f')
  noisy_own =
      let alike : is_noisy k a b c ≡ is_noisy k a' b' d = rw (first, second) in (
        λ h. (noisy_exactly q).each d inside' (sym alike ∙ ((noisy_exactly r).only c h).1),
        λ h. (noisy_exactly r).each c inside (alike ∙ ((noisy_exactly q).only d h).1),
      )

-- ---- a run compared with itself

pub itself_none : {a : Run} {t : Tolerance} {k : ℕ} {m s : List ℕ} {n : Counts} {m' s' : List ℕ} → CompareOutcome a a t k m s (Ok n) m' s' → (n.moved ≡ 0) × (n.noisy ≡ 0)
itself_none {a} {t} {k} {m} {s} r =
    let x = held_ratio (meaning t) in
    let some = passing_factor a a t k (length m) (length s) r.rows in (
      r.moved.count ∙ ap length (listed_none {f = has_moved x a a} (length a.lengths) (λ c h. moved_itself x (values_of a c))),
      r.noisy.count ∙ ap length (listed_none {f = is_noisy k a a} (length a.lengths) (λ c h. noisy_itself k (values_of a c) some)),
    )

-- ---- a constant added to every value

module _ {A B : Type 0} (f : A → B) where
  take_map : (n : ℕ) (l : List A) → take n (map f l) ≡ map f (take n l)
  take_map zero l = refl
  take_map (suc n) [] = refl
  take_map (suc n) (x ∷ l) = ap (λ (z : List B). f x ∷ z) (take_map n l)

  drop_map : (n : ℕ) (l : List A) → drop n (map f l) ≡ map f (drop n l)
  drop_map zero l = refl
  drop_map (suc n) [] = refl
  drop_map (suc n) (x ∷ l) = drop_map n l

  part_map : (at n : ℕ) (l : List A) → part at n (map f l) ≡ map f (part at n l)
  part_map at n l = ap (take n) (drop_map at l) ∙ take_map n (drop at l)

module _ (d : ℤ) where
  values_shift : (a : Run) (c : ℕ) → values_of (shifted d a) c ≡ added_to d (values_of a c)
  values_shift a c = part_map (λ (v : ℤ). v +ℤ d) (place_of a.lengths c) (get_or a.lengths c 0) a.values

  counts_shift : (a : Run) (c : ℕ) → length (values_of (shifted d a) c) ≡ length (values_of a c)
  counts_shift a c = ap length (values_shift a c) ∙ length-map (values_of a c) (λ v. v +ℤ d)

  module _ (a b : Run) where
    runs_shift : runs_row (shifted d a) (shifted d b) ≡ runs_row a b
    unfolding runs_row
    runs_shift = rw (
      crate_counts a.ticks a.values (added_to d a.values) a.lengths (length-map a.values (λ v. v +ℤ d)),
      crate_counts b.ticks b.values (added_to d b.values) b.lengths (length-map b.values (λ v. v +ℤ d)),
    )

    channel_shift : (c : ℕ) → channel_row (shifted d a) (shifted d b) c ≡ channel_row a b c
    unfolding channel_row
    channel_shift c = rw (
      rows_counts 4096 _ (values_of a c) (values_of (shifted d a) c) (counts_shift a c),
      rows_counts 4096 _ (values_of b c) (values_of (shifted d b) c) (counts_shift b c),
    )

    channels_shift : (c n : ℕ) → channel_rows (shifted d a) (shifted d b) c n ≡ channel_rows a b c n
    channels_shift c zero = refl
    channels_shift c (suc n) = rw (channel_shift c, channels_shift (suc c) n)

    module _ (t : Tolerance) (k room room' : ℕ) where
      rows_shift : compare_rows (shifted d a) (shifted d b) t k room room' ≡ compare_rows a b t k room room'
      unfolding compare_rows
      rows_shift = rw (runs_shift, channels_shift 0 (length a.lengths))

      module _ (fine : compare_rows a b t k room room' ≡ Ok tt) where
        moved_lists : moved_channels (held_ratio (meaning t)) (shifted d a) (shifted d b) ≡ moved_channels (held_ratio (meaning t)) a b
        moved_lists = listed_alike (length a.lengths)
            (λ c h. rw (values_shift a c, values_shift b c) (moved_shift d (held_ratio (meaning t)) (values_of a c) (values_of b c) (passing_lengths a b t k room room' fine c h)))

        noisy_lists : noisy_channels k (shifted d a) (shifted d b) ≡ noisy_channels k a b
        noisy_lists = listed_alike (length a.lengths) (λ c h. rw (values_shift a c, values_shift b c) (noisy_shift d k (values_of a c) (values_of b c)))

    -- all values being in range again, the two calls answer the same and write the same
    pub compare_shift : (t : Tolerance) (k : ℕ) (m s : List ℕ) (r : Result Counts Cause) (m' s' : List ℕ) → CompareOutcome (shifted d a) (shifted d b) t k m s r m' s' ↔ CompareOutcome a b t k m s r m' s'
    compare_shift t k m s (Ok n) m' s' =
        let rows = rows_shift t k (length m) (length s) in (
          λ o. let fine = sym rows ∙ o.rows in record {
            rows = fine;
            moved = subst (λ (l : List ℕ). Wrote l m n.moved m') (moved_lists t k (length m) (length s) fine) o.moved;
            noisy = subst (λ (l : List ℕ). Wrote l s n.noisy s') (noisy_lists t k (length m) (length s) fine) o.noisy;
          },
          λ o. record {
            rows = rows ∙ o.rows;
            moved = subst (λ (l : List ℕ). Wrote l m n.moved m') (sym (moved_lists t k (length m) (length s) o.rows)) o.moved;
            noisy = subst (λ (l : List ℕ). Wrote l s n.noisy s') (sym (noisy_lists t k (length m) (length s) o.rows)) o.noisy;
          },
        )
    compare_shift t k m s (Err x) m' s' =
        let rows = rows_shift t k (length m) (length s) in
        (λ o. (sym rows ∙ o.0, o.1, o.2), λ o. (rows ∙ o.0, o.1, o.2))

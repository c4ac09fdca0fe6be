-- Laws of the two lists: one channel more, and the lists of the channels before c.
-- Assumes nothing.
use mathlib.Core.Path.{◌≡◌, sym, ◌∙◌, ap, subst}
use mathlib.Core.Bool.{Bool, true, false, cond}
use mathlib.Core.List.{List, [], ◌∷◌, ◌++◌, append-nil}
use Prim.Native.Nat.{ℕ, ◌+◌, ◌≤◌, ◌<◌}
use native.Mathlib.Numerals.{add-one}
use native.Mathlib.Omega.{arith}
use lib.IntN.{ℤ}
use lib.ListN.{length, get_or, length-append}
use Rattle.lists.specs.Overwrite.{Wrote}
use Rattle.lists.specs.Listed.{listed}
use Rattle.lists.proofs.OverwriteLaws.{overwrite_length, overwrite_snoc}
use Rattle.lists.proofs.ListedLaws.{listed_length}
use Rattle.channels.specs.Channels.{place_of, part}
use Rattle.channels.proofs.ChannelLaws.{place_next, place_fits}
use Rattle.ratio.specs.declared.Ratio.{Ratio}
use Rattle.verdicts.specs.declared.Verdict.{Verdict}
use Rattle.verdicts.specs.Sums.{Judged}
use Rattle.listing.specs.Listing.{Put, PartFits, Listable, moved_in, noisy_in}

-- ---- a list

module _ (f : ℕ → Bool) {o o₁ : List ℕ} {n c : ℕ} (w : Wrote (listed f c) o n o₁) (room : c < length o) where
  -- there is room for channel c
  pub listed_room : n < length o₁
  listed_room =
      let k = listed_length f c in
      omega (arith, w.count, ap length w.content, overwrite_length (listed f c) o (omega arith))

  put_one : (t : Bool) {r : ℕ} {o₂ : List ℕ} → Put o₁ n c t r o₂ → Wrote (listed f c ++ cond t (c ∷ []) []) o r o₂
  put_one true p = record {
    count = p.count ∙ ap (λ (i : ℕ). i + 1) w.count ∙ sym (length-append (listed f c) (c ∷ []));
    content = p.content ∙ rw (w.content, w.count) (overwrite_snoc (listed f c) o c (omega (arith, listed_length f c)));
  }
  put_one false {r} {o₂} p = subst (λ (l : List ℕ). Wrote l o r o₂) (sym (append-nil (listed f c))) (record { count = p.count ∙ w.count; content = p.content ∙ w.content })

  pub listed_more : {t : Bool} {r : ℕ} {o₂ : List ℕ} → t ≡ f c → Put o₁ n c t r o₂ → Wrote (listed f (c + 1)) o r o₂
  listed_more e p = rw (add-one c, ← e) (put_one _ p)

-- ---- the lists of the channels before c
pub record Listing (vs ws : List ℤ) (ls : List ℕ) (r : Ratio) (k : ℕ) (m s m' s' : List ℕ) (a b at c : ℕ) : Type 0 where
  pub upto : c ≤ length ls
  pub place : at ≡ place_of ls c
  pub moved : Wrote (listed (moved_in r vs ws ls) c) m a m'
  pub noisy : Wrote (listed (noisy_in k vs ws ls) c) s b s'

module _ {vs ws : List ℤ} {ls : List ℕ} {r : Ratio} {k : ℕ} {m s m' s' : List ℕ} {a b at c : ℕ} (h : Listing vs ws ls r k m s m' s' a b at c) (ready : Listable vs ws ls r k (length m) (length s)) where
  module _ (lt : c < length ls) where
    pub listing_fits : PartFits vs ws at (get_or ls c 0) r k
    listing_fits =
        let p = place_fits ls c lt in
        record {
          today = omega (arith, p, h.place, ready.today);
          earlier = omega (arith, p, h.place, ready.earlier);
          few = ready.few c lt;
          held = ready.held;
          factor = ready.factor;
        }

    pub listing_rooms : (a < length m') × (b < length s')
    listing_rooms = (listed_room (moved_in r vs ws ls) {c = c} h.moved (omega (arith, lt, ready.first_room)), listed_room (noisy_in k vs ws ls) {c = c} h.noisy (omega (arith, lt, ready.second_room)))

    pub listing_more : {v : Verdict} {a' b' : ℕ} {m'' s'' : List ℕ} → Judged (part at (get_or ls c 0) vs) (part at (get_or ls c 0) ws) r k v → Put m' a c v.moved a' m'' → Put s' b c v.noisy b' s'' → Listing vs ws ls r k m s m'' s'' a' b' (at + get_or ls c 0) (c + 1)
    listing_more {v} j p q =
        let i = subst (λ (n : ℕ). Judged (part n (get_or ls c 0) vs) (part n (get_or ls c 0) ws) r k v) h.place j in
        record {
          upto = omega (arith, lt);
          place = rw (add-one c) (ap (λ (n : ℕ). n + get_or ls c 0) h.place ∙ sym (place_next ls c lt));
          moved = listed_more (moved_in r vs ws ls) {c = c} h.moved (omega (arith, lt, ready.first_room)) i.moved p;
          noisy = listed_more (noisy_in k vs ws ls) {c = c} h.noisy (omega (arith, lt, ready.second_room)) i.noisy q;
        }

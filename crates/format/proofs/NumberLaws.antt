-- Laws of numbers in a record: reading the bytes of a number gives the number, and the bytes of a number that was read are those;
-- a level and its value; two's complement is the machine's.
-- Assumes nothing.
use mathlib.Core.Path.{◌≡◌, refl, ap, ◌∙◌}
use mathlib.Core.Bool.{Bool, true, false, cond}
use mathlib.Core.List.{List, [], ◌∷◌, ◌++◌}
use Prim.Native.Nat.{ℕ, zero, suc, ◌+◌, ◌-◌, ◌*◌, ◌/◌, ◌%◌, ◌^◌, ◌<◌, ◌≤◌}
use native.Mathlib.Nat.{add-zero, add-suc, suc-add, pow-succ'}
use native.Mathlib.Omega.{arith}
use lib.Dec.{ltb}
use lib.IntN.{ℤ, pos, negsuc, ◌-ℤ◌}
use lib.ListN.{length, get_or, take, drop}
use lib.Seq.{get_or-drop}
use lib.Signed.{mag}
use borrow.Author.Tests.{lt-ltb, le-ltb, ltb-true, ltb-false}
use mir.Syntax.{w8, w16}
use mir.Val.{Fits, of_z}
use Rattle.trace.specs.Level.{level}
use Rattle.trace.proofs.Difference.{Diff, less}
use Rattle.trace.proofs.Level.{level_diff}
use Rattle.format.specs.Number.{number_from, bytes_onto, Bytes, flip16, flip8, value_of}

-- ---- bytes

pub bytes_fit : {s : List ℕ} → ((i : ℕ) → Fits w8 (get_or s i 0)) → Bytes s
bytes_fit h = record { byte = λ i. (h i).fits }

pub bytes_drop : {s : List ℕ} (i : ℕ) → Bytes s → Bytes (drop i s)
bytes_drop {s} i b = record { byte = λ k. rw (get_or-drop i s k 0) (b.byte (i + k)) }

bytes_tail : {x : ℕ} {s : List ℕ} → Bytes (x ∷ s) → Bytes s
bytes_tail b = record { byte = λ i. b.byte (suc i) }

pub bytes_take : (i : ℕ) {s : List ℕ} → Bytes s → Bytes (take i s)
bytes_take i {s} b = record { byte = go i s b.byte }
  where
    go : (i : ℕ) (s : List ℕ) → ((k : ℕ) → get_or s k 0 < 256) → (k : ℕ) → get_or (take i s) k 0 < 256
    go zero s b k = omega arith
    go (suc i) [] b k = omega arith
    go (suc i) (x ∷ s) b zero = b 0
    go (suc i) (x ∷ s) b (suc k) = go i s (λ j. b (suc j)) k

-- the bytes of n read as n
pub number_bytes : (k n : ℕ) (xs : List ℕ) → n < 256 ^ k → number_from 0 (bytes_onto k n xs) ≡ number_from n xs
unfolding bytes_onto number_from
number_bytes zero n xs h = let e : n ≡ 0 = omega arith in rw e
number_bytes (suc k) n xs h =
    let l : n < 256 * 256 ^ k = rw pow-succ' at h in
    let e : n / 256 * 256 + n % 256 ≡ n = omega arith in
    number_bytes k (n / 256) (n % 256 ∷ xs) (omega arith) ∙ ap (λ (m : ℕ). number_from m xs) e

-- the bytes of the number that was read are those that were read
pub bytes_number : (xs : List ℕ) (j n : ℕ) (ys : List ℕ) → Bytes xs → bytes_onto (j + length xs) (number_from n xs) ys ≡ bytes_onto j n (xs ++ ys)
unfolding bytes_onto number_from
bytes_number [] j n ys b = rw add-zero
bytes_number (x ∷ xs) j n ys b =
    let h : x < 256 = b.byte 0 in
    let d : (n * 256 + x) / 256 ≡ n = omega arith in
    let m : (n * 256 + x) % 256 ≡ x = omega arith in
    rw (add-suc, ← suc-add j (length xs)) (bytes_number xs (suc j) (n * 256 + x) ys (bytes_tail b) ∙ rw (d, m))

-- a number of k bytes is below 256 ^ k
pub number_below : (xs : List ℕ) (j n : ℕ) → Bytes xs → n < 256 ^ j → number_from n xs < 256 ^ (j + length xs)
unfolding number_from
number_below [] j n b h = rw add-zero h
number_below (x ∷ xs) j n b h =
    let l : x < 256 = b.byte 0 in
    rw (add-suc, ← suc-add j (length xs)) (number_below xs (suc j) (n * 256 + x) (bytes_tail b) (rw pow-succ' (omega arith)))

pub bytes_append : (k n : ℕ) (xs ys : List ℕ) → bytes_onto k n (xs ++ ys) ≡ bytes_onto k n xs ++ ys
unfolding bytes_onto
bytes_append zero n xs ys = refl
bytes_append (suc k) n xs ys = bytes_append k (n / 256) (n % 256 ∷ xs) ys

pub bytes_length : (k n : ℕ) (xs : List ℕ) → length (bytes_onto k n xs) ≡ k + length xs
unfolding bytes_onto
bytes_length zero n xs = omega arith
bytes_length (suc k) n xs = bytes_length k (n / 256) (n % 256 ∷ xs) ∙ omega arith

-- ---- values and levels

pub value_level : (v : ℤ) → mag v < 32768 → value_of (level v) ≡ v
unfolding value_of
value_level (pos n) h = rw (le-ltb (32768 + n) 32768 (omega arith)) (ap pos (omega arith))
value_level (negsuc n) h = rw (lt-ltb (32768 - suc n) 32768 (omega arith)) (ap negsuc (omega arith))

pub level_value : (l : ℕ) → l ≤ 65535 → level (value_of l) ≡ l
unfolding value_of
level_value l h = go (ltb l 32768) refl
  where
    go : (t : Bool) → ltb l 32768 ≡ t → level (cond t (negsuc (32768 - suc l)) (pos (l - 32768))) ≡ l
    go true e = omega (arith, ltb-true l 32768 e)
    go false e = omega (arith, ltb-false l 32768 e)

pub value_short : (l : ℕ) → l ≤ 65535 → mag (value_of l) < 32768
unfolding value_of
value_short l h = go (ltb l 32768) refl
  where
    go : (t : Bool) → ltb l 32768 ≡ t → mag (cond t (negsuc (32768 - suc l)) (pos (l - 32768))) < 32768
    go true e = omega arith
    go false e = omega arith

-- a value in a record is its 16 bits in two's complement
pub value_bits : (v : ℤ) → mag v < 32768 → flip16 (level v) ≡ of_z w16 v
value_bits (pos n) h = omega arith
value_bits (negsuc n) h = omega arith

-- and a change from -128 to 127 its 8 bits
pub change_bits : (v v' : ℤ) → mag v < 32768 → mag v' < 32768 → mag (v' -ℤ v) < 128 → flip8 (level v' + 128 - level v) ≡ of_z w8 (v' -ℤ v)
change_bits v v' h h' = go (v' -ℤ v) (less {x = v'} {y = v} (level_diff (record { is = refl; range = h' })) (level_diff (record { is = refl; range = h })))
  where
    go : (z : ℤ) → Diff z (level v' + 32768) (32768 + level v) → mag z < 128 → flip8 (level v' + 128 - level v) ≡ of_z w8 z
    go (pos n) d s = omega arith
    go (negsuc n) d s = omega arith

-- `writer::commands::put_number` meets its contract: the last k of the eight bytes of n are its k bytes. Assumes nothing.
use Rattle.std.proofs.Common.{◌≡◌, refl, sym, ap, ◌∙◌, subst, ℕ, zero, suc, ◌+◌, ◌-◌, ◌/◌, ◌%◌, ◌^◌, ◌≤◌, List, [], ◌∷◌, ◌++◌, append-nil, length, take, drop, take_all, arith}
use Rattle.std.proofs.Math.Nat.{div-div-eq-div-mul, zero-add, suc-add, pow-succ'}
use Rattle.std.specs.Int.{byte_at, bytes_high_first}
use Rattle.format.specs.Number.{bytes_onto}
use Rattle.format.proofs.NumberLaws.{bytes_length}
use Rattle.writer.proofs.commands.put_number.Goals as goal

-- byte k + 1 of n is byte k of n / 256
byte_above : (k n : ℕ) → byte_at k (n / 256) ≡ byte_at (suc k) n
byte_above zero n = refl
byte_above (suc k) n = rw (div-div-eq-div-mul n 256 (256 ^ suc k)) (ap (λ (m : ℕ). n / m % 256) (sym (pow-succ' 256 (suc k))))

one_more : (k n : ℕ) (xs : List ℕ) → bytes_high_first k (n / 256) ++ (n % 256 ∷ xs) ≡ bytes_high_first (suc k) n ++ xs
one_more zero n xs = refl
one_more (suc k) n xs = rw (byte_above k n, one_more k n xs)

high_first : (k n : ℕ) (xs : List ℕ) → bytes_onto k n xs ≡ bytes_high_first k n ++ xs
unfolding bytes_onto
high_first zero n xs = refl
high_first (suc k) n xs = high_first k (n / 256) (n % 256 ∷ xs) ∙ one_more k n xs

last : (j k n : ℕ) → drop j (bytes_high_first (j + k) n) ≡ bytes_high_first k n
last zero k n = rw zero-add
last (suc j) k n = rw suc-add (last j k n)

-- the last k of eight
last_of : (k n : ℕ) → k ≤ 8 → take (8 - (8 - k)) (drop (8 - k) (bytes_high_first 8 n)) ≡ bytes_onto k n []
last_of k n h =
    let e : 8 - k + k ≡ 8 = omega arith in
    let f : 8 - (8 - k) ≡ k = omega arith in
    let l = subst (λ (m : ℕ). drop (8 - k) (bytes_high_first m n) ≡ bytes_high_first k n) e (last (8 - k) k n) in
    let w = rw append-nil at (high_first k n []) in
    rw (f, l, w) (take_all k (bytes_high_first k n) (omega (arith, ap length w, bytes_length k n [])))

pub returns : goal.returns
returns c =
    let k = c.args.k in
    let n = c.args.n in
    let b = rw (c.to_be_bytes.ensures, last_of k n c.requires.1) at c.copy_from_slice.ensures.after in
    let l : length (bytes_onto k n []) ≡ k = bytes_length k n [] ∙ omega arith in
    rw (b, l)

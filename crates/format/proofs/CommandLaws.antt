-- Laws of commands: a command that was written is read as it is, and one that was read is written as it was.
-- Assumes nothing.
use mathlib.Core.Path.{◌≡◌, refl, sym, ap, ◌∙◌}
use mathlib.Core.Bool.{Bool, true, false}
use mathlib.Core.List.{List, [], ◌∷◌, ◌++◌}
use Prim.Native.Nat.{ℕ, ◌+◌, ◌^◌, ◌≤◌, ◌<◌}
use native.Mathlib.Omega.{arith}
use borrow.Author.Tests.{le-leb, leb-true, eqb-true}
use lib.Dec.{eqb}
use lib.ListN.{length, take, drop, get_or, length-drop, take-append-drop}
use lib.Seq.{drop-drop, drop-cons, length-take-le}
use Rattle.lists.proofs.Tests.{and_first, and_second}
use Rattle.ratio.specs.declared.Ratio.{Ratio}
use Rattle.ratio.specs.Order.{over}
use Rattle.format.specs.Number.{number_from, bytes_onto, field, Bytes, flip16, flip8}
use Rattle.format.specs.Command.{ratio_onto, ratio_at, RatioRange, size_of, command_onto, choose, opens, command_of, Operands}
use Rattle.format.specs.declared.Command.{Command}
use Rattle.format.specs.declared.Command.TheVariants.{Tolerance, Sides, First, Short, Long, End, Invalid}
use Rattle.format.proofs.NumberLaws.{number_bytes, bytes_number, number_below, bytes_drop, bytes_take}

-- ---- writing

-- a command, and what follows it
pub command_append : (m : Command) (ys : List ℕ) → command_onto m ys ≡ command_onto m [] ++ ys
unfolding bytes_onto
command_append (Tolerance r) ys = refl
command_append (Sides x) ys = refl
command_append (First t l) ys = refl
command_append (Short a d) ys = refl
command_append (Long a l) ys = refl
command_append (End n) ys = refl
command_append Invalid ys = refl

pub command_length : (m : Command) (xs : List ℕ) → length (command_onto m xs) ≡ size_of m + length xs
unfolding bytes_onto
command_length (Tolerance r) xs = omega arith
command_length (Sides x) xs = omega arith
command_length (First t l) xs = omega arith
command_length (Short a d) xs = omega arith
command_length (Long a l) xs = omega arith
command_length (End n) xs = omega arith
command_length Invalid xs = omega arith

-- what is left after a command
pub command_rest : (m : Command) (xs : List ℕ) → drop (size_of m) (command_onto m xs) ≡ xs
unfolding bytes_onto
command_rest (Tolerance r) xs = refl
command_rest (Sides x) xs = refl
command_rest (First t l) xs = refl
command_rest (Short a d) xs = refl
command_rest (Long a l) xs = refl
command_rest (End n) xs = refl
command_rest Invalid xs = refl

-- ---- what was written is read

over_same : {a b p q : ℕ} → a ≡ p → b ≡ q → over a b ≡ over p q
over_same e f = rw (e, f)

module _ (xs : List ℕ) where
  -- the ratio r from place 1 on, and from place 9 on
  ratio_first : (x : ℕ) (r : Ratio) → RatioRange r → ratio_at (x ∷ ratio_onto r xs) 1 ≡ r
  unfolding bytes_onto number_from
  ratio_first x r h = over_same (number_bytes 5 r.p [] (omega arith)) (number_bytes 3 r.q [] (omega arith))

  ratio_second : (x : ℕ) (u r : Ratio) → RatioRange r → ratio_at (x ∷ ratio_onto u (ratio_onto r xs)) 9 ≡ r
  unfolding bytes_onto number_from
  ratio_second x u r h = over_same (number_bytes 5 r.p [] (omega arith)) (number_bytes 3 r.q [] (omega arith))

sides_same : {a b c d : Ratio} → a ≡ c → b ≡ d → Sides (record { up = a; down = b }) ≡ Sides (record { up = c; down = d })
sides_same e f = rw (e, f)

module _ (xs : List ℕ) where
  pub command_read : (m : Command) → Operands m → command_of (command_onto m xs) ≡ m
  unfolding command_of bytes_onto number_from
  command_read (Tolerance r) h =
      let n : ℕ = length (command_onto (Tolerance r) xs) in
      rw (le-leb 9 n (omega arith)) (ap Tolerance (ratio_first xs 0x54 r h))
  command_read (Sides x) h =
      let n : ℕ = length (command_onto (Sides x) xs) in
      rw (le-leb 17 n (omega arith))
      (sides_same (ratio_first (ratio_onto x.down xs) 0x42 x.up h.0) (ratio_second xs 0x42 x.up x.down h.1))
  command_read (First t l) h =
      let n : ℕ = length (command_onto (First t l) xs) in
      let f : flip16 (flip16 l) ≡ l = omega arith in
      rw (le-leb 7 n (omega arith)) (cc (number_bytes 4 t [] (omega arith), number_bytes 2 (flip16 l) [] (omega arith), f))
  command_read (Short a d) h =
      let n : ℕ = length (command_onto (Short a d) xs) in
      let f : flip8 (flip8 d) ≡ d = omega arith in
      rw (le-leb 3 n (omega arith)) (cc (number_bytes 1 a [] (omega arith), number_bytes 1 (flip8 d) [] (omega arith), f))
  command_read (Long a l) h =
      let n : ℕ = length (command_onto (Long a l) xs) in
      let f : flip16 (flip16 l) ≡ l = omega arith in
      rw (le-leb 6 n (omega arith)) (cc (number_bytes 3 a [] (omega arith), number_bytes 2 (flip16 l) [] (omega arith), f))
  command_read (End m) h =
      let n : ℕ = length (command_onto (End m) xs) in
      rw (le-leb 3 n (omega arith)) (cc (number_bytes 2 m [] (omega arith)))
  command_read Invalid h = absurd h

-- ---- what was read is written

module _ {s : List ℕ} (by : Bytes s) (i k : ℕ) (fits : i + k ≤ length s) where
  field_length : length (take k (drop i s)) ≡ k
  field_length = length-take-le k (drop i s) (rw length-drop (omega arith))

  -- the bytes of a field that was read, and what follows it
  field_onto : bytes_onto k (field s i k) (drop (i + k) s) ≡ drop i s
  unfolding bytes_onto
  field_onto =
      let xs : List ℕ = take k (drop i s) in
      let e : bytes_onto (0 + length xs) (number_from 0 xs) (drop (i + k) s) ≡ xs ++ drop (i + k) s = bytes_number xs 0 0 (drop (i + k) s) (bytes_take k (bytes_drop i by)) in
      let n : 0 + length xs ≡ k = omega (arith, field_length) in
      sym (ap (λ (m : ℕ). bytes_onto m (field s i k) (drop (i + k) s)) n) ∙ e ∙ ap (λ (r : List ℕ). xs ++ r) (sym (drop-drop k i s)) ∙ take-append-drop k (drop i s)

  pub field_below : field s i k < 256 ^ k
  field_below =
      let xs : List ℕ = take k (drop i s) in
      let h : number_from 0 xs < 256 ^ (0 + length xs) = number_below xs 0 0 (bytes_take k (bytes_drop i by)) (omega arith) in
      let n : 0 + length xs ≡ k = omega (arith, field_length) in
      rw n at h

-- s starts with the command m, whole
pub record Starts (s : List ℕ) (m : Command) : Type 0 where
  pub bytes : s ≡ command_onto m (drop (size_of m) s)
  pub whole : size_of m ≤ length s
  pub operands : Operands m

abbrev pub Read : List ℕ → Command → Type 0
Read s (Tolerance r) = Starts s (Tolerance r)
Read s (Sides x) = Starts s (Sides x)
Read s (First t l) = Starts s (First t l)
Read s (Short a d) = Starts s (Short a d)
Read s (Long a l) = Starts s (Long a l)
Read s (End n) = Starts s (End n)
Read s Invalid = Unit {0}

module _ {s : List ℕ} (by : Bytes s) where
  head : (x k : ℕ) → opens x k s ≡ true → 0 < k → (s ≡ x ∷ drop 1 s) × (k ≤ length s)
  head x k e some =
      let h : k ≤ length s = leb-true k (length s) (and_second (eqb (get_or s 0 0) x) _ e) in
      let g : get_or s 0 0 ≡ x = eqb-true (get_or s 0 0) x (and_first (eqb (get_or s 0 0) x) _ e) in
      (drop-cons s 0 0 (omega arith) ∙ ap (λ (y : ℕ). y ∷ drop 1 s) g, h)

  -- two fields side by side
  fields : (i k j : ℕ) → i + k + j ≤ length s → bytes_onto k (field s i k) (bytes_onto j (field s (i + k) j) (drop (i + k + j) s)) ≡ drop i s
  fields i k j h = rw (field_onto by (i + k) j h) (field_onto by i k (omega arith))

  -- a ratio
  ratio_onto_lem : (i : ℕ) → i + 8 ≤ length s → ratio_onto (ratio_at s i) (drop (i + 8) s) ≡ drop i s
  ratio_onto_lem i h = let e : i + 5 + 3 ≡ i + 8 = omega arith in rw (← e) (fields i 5 3 (omega arith))

  ratio_range : (i : ℕ) → i + 8 ≤ length s → RatioRange (ratio_at s i)
  ratio_range i h = (omega (arith, field_below by i 5 (omega arith)), omega (arith, field_below by (i + 5) 3 (omega arith)))

  read_tolerance : opens 0x54 9 s ≡ true → Starts s (Tolerance (ratio_at s 1))
  read_tolerance e =
      let h = head 0x54 9 e (omega arith) in
      record {
        bytes = h.0 ∙ ap (λ (r : List ℕ). 0x54 ∷ r) (sym (ratio_onto_lem 1 h.1));
        whole = h.1;
        operands = ratio_range 1 h.1;
      }

  read_sides : opens 0x42 17 s ≡ true → Starts s (Sides (record { up = ratio_at s 1; down = ratio_at s 9 }))
  read_sides e =
      let h = head 0x42 17 e (omega arith) in
      let n : 1 + 8 ≤ length s = omega (arith, h.1) in
      record {
        bytes = h.0 ∙ ap (λ (r : List ℕ). 0x42 ∷ r) (sym (ap (ratio_onto (ratio_at s 1)) (ratio_onto_lem 9 h.1) ∙ ratio_onto_lem 1 n));
        whole = h.1;
        operands = (ratio_range 1 n, ratio_range 9 h.1);
      }

  read_first : opens 0x41 7 s ≡ true → Starts s (First (field s 1 4) (flip16 (field s 5 2)))
  read_first e =
      let h = head 0x41 7 e (omega arith) in
      let b : field s 5 2 < 256 ^ 2 = field_below by 5 2 h.1 in
      let f : flip16 (flip16 (field s 5 2)) ≡ field s 5 2 = omega arith in
      record {
        bytes = rw f (h.0 ∙ ap (λ (r : List ℕ). 0x41 ∷ r) (sym (fields 1 4 2 h.1)));
        whole = h.1;
        operands = (omega (arith, field_below by 1 4 (omega arith)), omega arith);
      }

  read_short : opens 0x53 3 s ≡ true → Starts s (Short (field s 1 1) (flip8 (field s 2 1)))
  read_short e =
      let h = head 0x53 3 e (omega arith) in
      let b : field s 2 1 < 256 ^ 1 = field_below by 2 1 h.1 in
      let f : flip8 (flip8 (field s 2 1)) ≡ field s 2 1 = omega arith in
      record {
        bytes = rw f (h.0 ∙ ap (λ (r : List ℕ). 0x53 ∷ r) (sym (fields 1 1 1 h.1)));
        whole = h.1;
        operands = (omega (arith, field_below by 1 1 (omega arith)), omega arith);
      }

  read_long : opens 0x4C 6 s ≡ true → Starts s (Long (field s 1 3) (flip16 (field s 4 2)))
  read_long e =
      let h = head 0x4C 6 e (omega arith) in
      let b : field s 4 2 < 256 ^ 2 = field_below by 4 2 h.1 in
      let f : flip16 (flip16 (field s 4 2)) ≡ field s 4 2 = omega arith in
      record {
        bytes = rw f (h.0 ∙ ap (λ (r : List ℕ). 0x4C ∷ r) (sym (fields 1 3 2 h.1)));
        whole = h.1;
        operands = (omega (arith, field_below by 1 3 (omega arith)), omega arith);
      }

  read_end : opens 0x45 3 s ≡ true → Starts s (End (field s 1 2))
  read_end e =
      let h = head 0x45 3 e (omega arith) in
      record {
        bytes = h.0 ∙ ap (λ (r : List ℕ). 0x45 ∷ r) (sym (field_onto by 1 2 h.1));
        whole = h.1;
        operands = omega (arith, field_below by 1 2 h.1);
      }

  pub read : Read s (command_of s)
  unfolding command_of
  read = go (opens 0x54 9 s) refl (opens 0x41 7 s) refl (opens 0x53 3 s) refl (opens 0x4C 6 s) refl (opens 0x45 3 s) refl (opens 0x42 17 s) refl
    where
      go : (a : Bool) → opens 0x54 9 s ≡ a → (f : Bool) → opens 0x41 7 s ≡ f → (h : Bool) → opens 0x53 3 s ≡ h → (l : Bool) → opens 0x4C 6 s ≡ l → (n : Bool) → opens 0x45 3 s ≡ n
          → (k : Bool) → opens 0x42 17 s ≡ k
          → Read s (choose a (Tolerance (ratio_at s 1)) (choose f (First (field s 1 4) (flip16 (field s 5 2)))
          (choose h (Short (field s 1 1) (flip8 (field s 2 1))) (choose l (Long (field s 1 3) (flip16 (field s 4 2))) (choose n (End (field s 1 2))
          (choose k (Sides (record { up = ratio_at s 1; down = ratio_at s 9 })) Invalid))))))
      go true e f ef h eh l el n en k ek = read_tolerance e
      go false e true ef h eh l el n en k ek = read_first ef
      go false e false ef true eh l el n en k ek = read_short eh
      go false e false ef false eh true el n en k ek = read_long el
      go false e false ef false eh false el true en k ek = read_end en
      go false e false ef false eh false el false en true ek = read_sides ek
      go false e false ef false eh false el false en false ek = tt

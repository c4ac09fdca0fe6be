-- The live view (document 02, "Live view"; document 001, section 2), over a link error `err i j`, a fraction.
--   cost          what the drop of an inner entry brings: the error of the link between its neighbours
--   cheapest      of some numbers, the earliest at which a fraction is smallest, by one scan
--   without       a list without its entry at a position
--   thinned       a list without the inner entry that costs least, the earliest among equals
--   view_with     the list after an addition: the new sample last, and one inner sample dropped if there are now more than 2k
--   view_of       the view of the samples 0 .. n: begun with the list 0, and changed by the additions of samples 1 .. n
--   twice         twice a fraction
--   Doubles       what is assumed: the error of a link is at most twice that of a link that encloses it (document 001, 2-monotone)
--   StepsExact    what is assumed: a link over one step has the error 0
-- Laws are in CheapestLaws and ViewLaws. Assumes nothing.
use Rattle.std.specs.Prelude.{◌≡◌, cond, List, [], ◌∷◌, ◌++◌, ℕ, zero, suc, ◌+◌, ◌-◌, ◌*◌, ◌≤◌, ◌<◌, leb, length, get_or}
use Rattle.ratio.specs.declared.Ratio.{Ratio}
use Rattle.ratio.specs.Order.{over, AtMost}

-- the error of the link from entry t to entry t + 2: what the drop of entry t + 1 brings
abbrev pub cost : (ℕ → ℕ → Ratio) → List ℕ → ℕ → Ratio
cost err l t = err (get_or l t 0) (get_or l (suc (suc t)) 0)

-- of the numbers 0 .. n - 1, the earliest at which f is smallest
unfoldable pub cheapest : (ℕ → Ratio) → ℕ → ℕ
cheapest f zero = 0
cheapest f (suc n) = let b = cheapest f n in cond (leb ((f b).p * (f n).q) ((f n).p * (f b).q)) b n

-- the list without its entry t
abbrev pub without : ℕ → List ℕ → List ℕ
without t [] = []
without zero (i ∷ s) = s
without (suc t) (i ∷ s) = i ∷ without t s

unfoldable pub thinned : (ℕ → ℕ → Ratio) → List ℕ → List ℕ
thinned err l = without (suc (cheapest (cost err l) (length l - 2))) l

-- an inner sample is dropped when there are more than 2k, so more than 2k + 2 entries
unfoldable pub view_with : (ℕ → ℕ → Ratio) → ℕ → List ℕ → ℕ → List ℕ
view_with err k l n = let w = l ++ n ∷ [] in cond (leb (length w) (2 * k + 2)) w (thinned err w)

unfoldable pub view_of : (ℕ → ℕ → Ratio) → ℕ → ℕ → List ℕ
view_of err k zero = 0 ∷ []
view_of err k (suc n) = view_with err k (view_of err k n) (suc n)

abbrev pub twice : Ratio → Ratio
twice x = over (2 * x.p) x.q

-- up to the last sample, the error of a link is at most twice that of a link that encloses it
abbrev pub Doubles : (ℕ → ℕ → Ratio) → ℕ → Type 0
Doubles err last = (i j l r : ℕ) → i ≤ l → l < r → r ≤ j → j ≤ last → AtMost (err l r) (twice (err i j))

-- up to the last sample, a link over one step has the error 0
abbrev pub StepsExact : (ℕ → ℕ → Ratio) → ℕ → Type 0
StepsExact err last = (i : ℕ) → i < last → (err i (suc i)).p ≡ 0

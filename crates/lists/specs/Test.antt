-- What a search asks of the test that is called with a number, and what its answers tell.
--   Asks pre a b       the test may be called with each number from a on and below b
--   Tells f post a b   there each of its answers is that of f
-- Assumes nothing.
use Rattle.std.specs.Prelude.{◌≡◌, Bool, ℕ, ◌≤◌, ◌<◌}

abbrev pub Asks : (ℕ → Type 0) → ℕ → ℕ → Type 0
Asks pre a b = (k : ℕ) → a ≤ k → k < b → pre k

abbrev pub Tells : (ℕ → Bool) → (ℕ → Bool → Type 0) → ℕ → ℕ → Type 0
Tells f post a b = (k : ℕ) (here : Bool) → a ≤ k → k < b → post k here → here ≡ f k

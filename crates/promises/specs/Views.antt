-- A live view that is begun on the first sample and changed only by additions (document 02, "Live view").
--   Watched    the state after a run of calls: a view begun from k, then n additions, each lent the samples so far with the new one last
--   Shows      what such a state shows of the samples so far
-- A refused addition leaves the state as it was, so that a run is the same without it. The theorems are in proofs/Views. Assumes nothing.
use Rattle.std.specs.Prelude.{◌≡◌, List, ℕ, zero, suc, ◌+◌, ◌*◌, ◌≤◌, ℤ, length, take, Ok}
use Rattle.ratio.specs.Order.{AtMost}
use Rattle.kept.specs.Kept.{KeptList}
use Rattle.views.specs.View.{view_of, twice}
use Rattle.trace.specs.Link.{link_error, list_error}
use Rattle.live.specs.declared.View.{View}
use Rattle.live.specs.Live.{begun_of, entries, AddOutcome}

-- of the samples of ts and vs, call n lends the first n + 1
unfoldable pub Watched : List ℕ → List ℤ → ℕ → ℕ → View → Type 0
Watched ts vs k zero v = begun_of k ≡ Ok v
Watched ts vs k (suc n) v = (u : View) × (Watched ts vs k n u × AddOutcome (take (suc (suc n)) ts) (take (suc (suc n)) vs) u (Ok tt) v)

-- of samples 0 to n: a kept list with at most 2k inner samples, whose error is at most twice that of every kept list with at most k
pub record Shows (ts : List ℕ) (vs : List ℤ) (k n : ℕ) (v : View) : Type 0 where
  pub same : v.k ≡ k
  pub list : entries v ≡ view_of (link_error ts vs) k n
  pub kept : KeptList n (entries v)
  pub inner : length (entries v) ≤ 2 * k + 2
  pub close : (h : List ℕ) → KeptList n h → length h ≤ k + 2 → AtMost (list_error (take (suc n) ts) (take (suc n) vs) (entries v)) (twice (list_error (take (suc n) ts) (take (suc n) vs) h))

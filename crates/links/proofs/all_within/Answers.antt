-- `links::all_within` meets its contract. Assumes nothing.
use Rattle.std.proofs.Common.{ℕ, zero, suc, ◌≡◌, ◌+◌, Bool, refl, ◌∙◌, rules, add-one}
use Rattle.std.specs.List.{range_with_len, list_all}
use Rattle.std.proofs.lemmas.Iterator.{serves_from_Range, YieldsList-from_range}
use Rattle.std.proofs.lemmas.Iterator.Search.{all_from_yields_List}
use Rattle.trace.specs.Link.{within, all_from, all_within}
use Rattle.links.proofs.all_within.Goals as goal

-- `all` over a range is the definition's
range_all : (f : ℕ → Bool) (k n : ℕ) → list_all f (range_with_len k n) ≡ all_from k n f
unfolding all_from
range_all f k zero = refl
range_all f k (suc n) = rw (add-one k, range_all f (suc k) n)

pub all-requires-clause-callable : goal.all-requires-clause-callable
all-requires-clause-callable c = serves_from_Range (λ x q k. search rules) (λ x low high. search rules)

pub returns : goal.returns
unfolding all_within
returns c =
    let a = c.args in
    all_from_yields_List (within a.ticks.now a.values.now a.c a.i a.j) _ _ _ c.all.ensures.ran (YieldsList-from_range (a.i + 1) a.j _ refl refl) (λ x b q k. search rules)
    ∙ rw (add-one a.i) (range_all _ _ _)

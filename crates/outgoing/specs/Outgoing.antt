-- The links from one sample of a trace, with the samples taken in so far.
--   TakenIn  the start is sample i, every sample between i and j has been taken in, and the limit is where links from i end
--   Next     j is a sample of the trace up to the limit, and every sample between the start and j has been taken in
--   Beyond   e is a sample of the trace after all that have been taken in
-- Laws are in OutgoingLaws. Assumes nothing.
use Rattle.std.specs.Prelude.{◌≡◌, List, ℕ, ◌≤◌, ◌<◌, ℤ, length}
use Rattle.trace.specs.declared.Criterion.{Criterion}
use Rattle.trace.specs.Trace.{Trace}
use Rattle.trace.specs.Link.{Bounded, links_end}
use Rattle.trace.specs.Edge.{StartAt}
use Rattle.trace.specs.Cone.{ConeFits, Takes}
use Rattle.outgoing.specs.declared.Links.{Links}

pub record TakenIn (ts : List ℕ) (vs : List ℤ) (c : Criterion) (i j : ℕ) (l : Links) : Type 0 where
  pub start : StartAt ts vs i l.from
  pub takes : Takes ts vs c i j l.cone
  pub fits : ConeFits l.cone
  pub limit : l.limit ≡ links_end ts c.gap i

pub record Next (ts : List ℕ) (vs : List ℤ) (c : Criterion) (l : Links) (j : ℕ) : Type 0 where
  pub trace : Trace ts vs
  pub bounded : Bounded c
  pub taken : TakenIn ts vs c l.from.sample j l
  pub after : l.from.sample < j
  pub reach : j ≤ l.limit
  pub inside : j < length ts

pub record Beyond (ts : List ℕ) (vs : List ℤ) (c : Criterion) (l : Links) (e : ℕ) : Type 0 where
  pub trace : Trace ts vs
  pub bounded : Bounded c
  pub next : ℕ
  pub taken : TakenIn ts vs c l.from.sample next l
  pub order : next ≤ e
  pub after : l.from.sample < e
  pub inside : e < length ts

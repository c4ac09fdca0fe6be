-- Laws of the outcomes: what the header, a record's verdict and the bytes of two records say.
-- Assumes nothing.
use Rattle.std.specs.Prelude.{Result, Err, Ok, is_ok}
use Rattle.std.proofs.lemmas.Bool.{false≢true}
use mathlib.Core.Path.{◌≡◌, refl, sym, ap, ◌∙◌, subst}
use mathlib.Core.Logic.{◌↔◌}
use mathlib.Core.Bool.{Bool, true, false, ◌&&◌}
use mathlib.Core.List.{List}
use Prim.Native.Nat.{ℕ, ◌≤◌}
use native.Mathlib.Omega.{arith}
use borrow.Author.Tests.{leb-true}
use lib.Dec.{leb}
use lib.IntN.{ℤ}
use lib.ListN.{length, take, length-drop}
use Rattle.lists.proofs.OverwriteLaws.{wrote_read}
use Rattle.refusal.specs.declared.Refusal.{Refusal}
use Rattle.refusal.specs.declared.Refusal.TheVariants.{Record, Room}
use Rattle.refusal.proofs.TableLaws.{row_fine}
use Rattle.refusal.specs.Table.{row, room_row, ◌then_check◌}
use Rattle.tolerance.specs.declared.Parts.{Parts}
use Rattle.trace.specs.Trace.{Trace}
use Rattle.format.specs.declared.Header.{Header}
use Rattle.format.specs.declared.Fault.{Fault}
use Rattle.format.specs.Number.{Bytes}
use Rattle.format.specs.Format.{Content, Accepted, SameRecord, Samples, fault, samples, samples_from, header_of, Parsed, faulty, says, attach, began, parse}
use Rattle.format.proofs.HeaderLaws.{tolerance_size, by_first, by_tolerance}
use Rattle.format.proofs.EncodeParse.{encode_parse}
use Rattle.format.proofs.SameLaws.{same_bytes}
use Rattle.commands.specs.Passing.{Verdict, record_verdict, AfterFirst, Fitting, Filled}
use Rattle.reader.specs.Reading.{read_rows, same_rows, Said, CheckOutcome, ReadBack, ReadDeclined, Compared, SameOutcome}
use Rattle.reader.specs.declared.Comparison.{Comparison}
use Rattle.reader.specs.declared.Comparison.TheVariants.{Same, Different}

-- ---- the header

pub parse_start : (b : List ℕ) {h : Header} → header_of b ≡ Ok h → parse b ≡ attach h.tolerance (samples_from b h.first)
unfolding parse
parse_start b e = ap (began b) e

pub parse_fault : (b : List ℕ) {fault : Fault} → header_of b ≡ Err fault → parse b ≡ faulty fault.at
unfolding parse
parse_fault b e = ap (began b) e

AfterFirstBy : ℕ → Result Header Fault → Type 0
AfterFirstBy n (Ok h) = AfterFirst n h.first
AfterFirstBy n (Err _) = Unit {0}

-- the cursor after the first sample
pub header_after_first : {b : List ℕ} → Bytes b → {h : Header} → header_of b ≡ Ok h → AfterFirst (length b) h.first
unfolding AfterFirstBy
header_after_first {b} by e =
    subst (AfterFirstBy (length b)) e (by_tolerance by (AfterFirstBy (length b)) tt
    (λ x h v. by_first by (AfterFirstBy (length b)) (tolerance_size x) x tt
    (λ t l w. record {
      ready = record { at = omega (arith, v.whole, w.whole, length-drop (tolerance_size x) b); begun = omega arith; tick = w.operands.0; level = w.operands.1; count = omega arith };
      one = refl;
    })))

-- ---- check

pub verdict : {b : List ℕ} → Bytes b → {v : Verdict} → v ≡ record_verdict (parse b) → CheckOutcome b v
verdict {b} by e = subst (CheckOutcome b) (sym e) (go (parse b) refl)
  where
    go : (p : Parsed) → parse b ≡ p → CheckOutcome b (record_verdict p)
    go (faulty k) e = e
    go (says x) e = record { content = x; accepted = encode_parse by e; count = refl; tolerance = refl }

-- the count of the samples after the header is such a verdict
pub counted : {b : List ℕ} {h : Header} {v : Verdict} → Bytes b → header_of b ≡ Ok h → v ≡ record_verdict (attach h.tolerance (samples_from b h.first)) → CheckOutcome b v
counted {b} by start is = verdict by (is ∙ sym (ap record_verdict (parse_start b start)))

-- ---- read

samples_of : Parsed → Samples
samples_of (faulty k) = fault k
samples_of (says x) = samples x.ticks x.values

samples_attach : (x : Parts) (s : Samples) → samples_of (attach x s) ≡ s
unfolding samples_of
samples_attach x (fault k) = refl
samples_attach x (samples ts vs) = refl

row_both : (p q : Bool) (e : Refusal) → row (p && q) e ≡ (row p e then_check row q e)
row_both true q e = refl
row_both false q e = refl

has_room : {needed room : ℕ} → Ok tt ≡ room_row needed room → needed ≤ room
has_room e = leb-true _ _ (row_fine _ _ (sym e))

module _ {b : List ℕ} {n : ℕ} {x : Parts} (s : Said b n x) where
  -- of an accepted record the rows are those of both outputs
  pub rows_of : (k m : ℕ) → read_rows b k m ≡ (room_row n k then_check room_row n m)
  rows_of k m = rw (s.accepted.parsed, ← s.count) (row_both (leb n k) (leb n m) (Room n))

  module _ {first : Header} (e : header_of b ≡ Ok first) (ts : List ℕ) (vs : List ℤ) (h : Ok tt ≡ room_row n (length ts)) (k : Ok tt ≡ room_row n (length vs)) where
    said_samples : samples_from b first.first ≡ samples s.content.ticks s.content.values
    unfolding samples_of
    said_samples = sym (samples_attach first.tolerance (samples_from b first.first)) ∙ ap samples_of (sym (parse_start b e) ∙ s.accepted.parsed)

    pub room : Fitting (samples_from b first.first) n (length ts) (length vs)
    room = rw said_samples (sym s.count, has_room h, has_room k)

    pub read_back : {ts' : List ℕ} {vs' : List ℤ} → Filled (samples_from b first.first) ts vs ts' vs' → ReadBack b ts vs n x ts' vs'
    read_back f =
        let w = rw said_samples at f in
        record {
          rows = rows_of (length ts) (length vs) ∙ rw (← h, ← k);
          content = s.content;
          accepted = s.accepted;
          tolerance = s.tolerance;
          ticks = record { count = s.count; content = w.0 };
          values = record { count = s.count ∙ sym s.accepted.legal.trace.same; content = w.1 };
        }

pub fault_row : (b : List ℕ) {k : ℕ} (m n : ℕ) → parse b ≡ faulty k → read_rows b m n ≡ Err (Record k)
fault_row b m n e = rw e

-- a faulty record is declined
pub read_fault : {b : List ℕ} (ts : List ℕ) (vs : List ℤ) {k : ℕ} → parse b ≡ faulty k → ReadDeclined b ts vs (Record k) ts vs
read_fault {b} ts vs e = record { rows = fault_row b (length ts) (length vs) e; ticks = refl; values = refl }

-- the entries that were written are a trace
pub read_trace : {b ts : List ℕ} {vs : List ℤ} {n : ℕ} {x : Parts} {ts' : List ℕ} {vs' : List ℤ} → ReadBack b ts vs n x ts' vs' → Trace (take n ts') (take n vs')
read_trace h = rw (wrote_read h.ticks, wrote_read h.values) h.accepted.legal.trace

-- ---- same

pub first_fault : (a b : List ℕ) {k : ℕ} → parse a ≡ faulty k → same_rows a b ≡ Err (Record k)
first_fault a b e = rw e

-- what a record that was checked says
pub checked : {b : List ℕ} (v : Verdict) → CheckOutcome b v → is_ok v ≡ true → (n : ℕ) × (x : Parts) × Said b n x
checked (Ok x) o e = (x.samples, x.tolerance, o)
checked (Err _) o e = absurd (false≢true e)

-- two accepted records
module _ {a b : List ℕ} {n m : ℕ} {x y : Parts} (s : Said a n x) (t : Said b m y) where
  compared : {P : Content → Content → Type 0} → P s.content t.content → Compared a b P
  compared h = record {
    first = s.content;
    second = t.content;
    first_accepted = s.accepted;
    second_accepted = t.accepted;
    bytes = same_bytes s.accepted t.accepted;
    holds = h;
  }

  pub same_yes : a ≡ b → Compared a b SameRecord
  same_yes e = compared ((same_bytes s.accepted t.accepted).1 e)

  pub same_no : (a ≡ b → ⊥) → Compared a b (λ x y. SameRecord x y → ⊥)
  same_no h = compared (λ r. h ((same_bytes s.accepted t.accepted).0 r))

-- of two accepted records the answer is yes exactly if their bytes agree
pub yes_bytes : {a b : List ℕ} {x y : Content} → Accepted a x → Accepted b y → (r : Result Comparison Refusal) → SameOutcome a b r → r ≡ Ok Same ↔ a ≡ b
yes_bytes p q (Ok Same) o = (λ e. o.bytes.0 o.holds, λ e. refl)
yes_bytes p q (Ok Different) o = (λ e. cc, λ e. absurd (o.holds (o.bytes.1 e)))
yes_bytes p q (Err c) o = let fine = rw (p.parsed, q.parsed) at o in (λ e. cc, λ e. cc)

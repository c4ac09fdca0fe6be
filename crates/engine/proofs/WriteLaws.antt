-- Laws of the rows of write, and its contract from the writer's.
-- Assumes nothing.
use Rattle.std.specs.Prelude.{Result, Ok, Err}
use mathlib.Core.Path.{◌≡◌, sym, subst}
use mathlib.Core.List.{List}
use Prim.Native.Nat.{ℕ, ◌-◌, ◌≤◌, ◌<◌}
use lib.IntN.{ℤ}
use lib.ListN.{length}
use borrow.Author.Tests.{le-leb, lt-leb}
use Rattle.refusal.specs.declared.Refusal.{Refusal}
use Rattle.refusal.specs.declared.Refusal.TheVariants.{Link}
use Rattle.refusal.proofs.TableLaws.{then_fine}
use Rattle.limits.specs.declared.Limits.{Limits}
use Rattle.tolerance.specs.Meaning.{HeldParts}
use Rattle.trace.specs.declared.Criterion.{Criterion}
use Rattle.trace.specs.Trace.{trace_rows}
use Rattle.proposed.specs.Proposed.{list_row, first_invalid}
use Rattle.proposed.proofs.ProposedLaws.{row_kept}
use Rattle.format.specs.Format.{encode}
use Rattle.writer.specs.Writing.{Kept, selected, write_row, WrittenAt, WriteDeclined, ContentWritten}
use Rattle.limits.specs.Prepare.{common_rows, criterion_of, parts_of, ReadyAt}
use Rattle.limits.proofs.PrepareLaws.{limits_held}
use Rattle.judging.specs.Judge.{judge_rows}
use Rattle.engine.specs.Write.{content_of, write_rows, Recorded, WriteOutcome, ListReady}
use Rattle.refusal.specs.Table.{Checked}

-- an allowed tolerance is held in lowest terms
pub common_held : (ts : List ℕ) (vs : List ℤ) (t : Limits) → common_rows ts vs t ≡ Ok tt → HeldParts (parts_of (criterion_of t))
unfolding common_rows
common_held ts vs t e = limits_held t (then_fine (trace_rows 4096 ts vs) _ e).1

module _ (ts : List ℕ) (vs : List ℤ) (l : List ℕ) (t : Limits) (m place : ℕ) where
  module _ (a : common_rows ts vs t ≡ Ok tt) (b : list_row (length ts) l ≡ Ok tt) where
    pub link_refuses : {k : ℕ} → k ≡ first_invalid ts vs (criterion_of t) l → k < length l - 1 → write_rows ts vs l t m place ≡ Err (Link k)
    unfolding write_rows judge_rows
    link_refuses {k} e lt = rw (a, b, ← e, lt-leb (length l - 1) k lt)

    pub links_pass : {k : ℕ} {x : Checked} → k ≡ first_invalid ts vs (criterion_of t) l → length l - 1 ≤ k → write_row (encode (content_of ts vs l t)) m place ≡ x → write_rows ts vs l t m place ≡ x
    unfolding write_rows judge_rows
    links_pass {k} e le w = rw (a, b, ← e, le-leb (length l - 1) k le) w

-- a kept list of a ready call, as the writer asks for it
pub kept_at : {ts : List ℕ} {vs : List ℤ} {l : List ℕ} {t : Limits} {c : Criterion} → ListReady ts vs l t c → Kept ts vs l × HeldParts (parts_of c)
kept_at {ts} {vs} {l} {t} {c} r = (
  record { trace = r.ready.trace; list = r.kept },
  subst (λ (x : Criterion). HeldParts (parts_of x)) (sym r.ready.is) (common_held ts vs t r.ready.rows),
)

pub list_ready : {ts : List ℕ} {vs : List ℤ} {l : List ℕ} {t : Limits} {c : Criterion} → ReadyAt ts vs t c → list_row (length ts) l ≡ Ok tt → ListReady ts vs l t c
list_ready {l} r e = record { ready = r; list = e; kept = (row_kept r.trace.some l).0 e }

module _ {ts : List ℕ} {vs : List ℤ} {l : List ℕ} {t : Limits} {c : Criterion} (r : ListReady ts vs l t c) where
  at_tolerance : {k : ℕ} → k ≡ first_invalid ts vs c l → k ≡ first_invalid ts vs (criterion_of t) l
  at_tolerance {k} e = subst (λ (x : Criterion). k ≡ first_invalid ts vs x l) r.ready.is e

  module _ (o : List ℕ) (place : ℕ) {k : ℕ} (e : k ≡ first_invalid ts vs c l) where
    pub link_declines : k < length l - 1 → write_rows ts vs l t (length o) place ≡ Err (Link k)
    link_declines lt = link_refuses ts vs l t (length o) place r.ready.rows r.list (at_tolerance e) lt

    pub recorded : {n : ℕ} {o' : List ℕ} → length l - 1 ≤ k → WrittenAt (selected (parts_of c) ts vs l) o place n o' → Recorded ts vs l t o place n o'
    recorded {n} {o'} le w =
        let v = subst (λ (x : Criterion). WrittenAt (selected (parts_of x) ts vs l) o place n o') r.ready.is w in
        record { rows = links_pass ts vs l t (length o) place r.ready.rows r.list (at_tolerance e) le v.rows; count = v.count; content = v.content; accepted = v.accepted }

    pub declined : {x : Refusal} {o' : List ℕ} → length l - 1 ≤ k → WriteDeclined (selected (parts_of c) ts vs l) o place x o' → (write_rows ts vs l t (length o) place ≡ Err x) × (o' ≡ o)
    declined {x} {o'} le w =
        let v = subst (λ (y : Criterion). WriteDeclined (selected (parts_of y) ts vs l) o place x o') r.ready.is w in
        (links_pass ts vs l t (length o) place r.ready.rows r.list (at_tolerance e) le v.rows, v.content)

    -- the outcome, from what the writer answers
    pub outcome : (a : Result ℕ Refusal) (o' : List ℕ) → length l - 1 ≤ k → ContentWritten (selected (parts_of c) ts vs l) o place a o' → WriteOutcome ts vs l t o place a o'
    outcome (Ok n) o' le w = recorded le w
    outcome (Err x) o' le w = declined le w

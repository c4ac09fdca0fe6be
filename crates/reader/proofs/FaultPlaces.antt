-- The byte of a refusal 8 or 9 is the fault's: `read` refuses a record at byte k exactly if the record's fault lies there, and so does
-- `same` for its first record, and for its second where the first is accepted.
-- Assumes nothing.
use Rattle.std.specs.Prelude.{Err}
use mathlib.Core.Path.{◌≡◌}
use mathlib.Core.Logic.{◌↔◌}
use mathlib.Core.Bool.{Bool, true, false, ◌&&◌}
use mathlib.Core.List.{List}
use Prim.Native.Nat.{ℕ}
use lib.Dec.{leb}
use lib.ListN.{length}
use Rattle.refusal.specs.declared.Refusal.TheVariants.{Record, SecondRecord, Room}
use Rattle.refusal.specs.Table.{row, ◌then_check◌}
use Rattle.format.specs.Number.{Bytes}
use Rattle.format.specs.Format.{Content, Parsed, faulty, says, parse, Accepted}
use Rattle.format.specs.Fault.{FaultAt}
use Rattle.format.proofs.FaultLaws.{fault_exact}
use Rattle.reader.specs.Reading.{record_row, outputs_row, read_rows, same_rows}
use Rattle.reader.proofs.ReadingLaws.{fault_row, first_fault}

read_row : (p : Parsed) (m n k : ℕ) → record_row Record p then_check outputs_row m n p ≡ Err (Record k) → p ≡ faulty k
read_row (faulty j) m n k e = cc
read_row (says x) m n k e = go (leb (length x.ticks) m && leb (length x.ticks) n) e
  where
    go : (t : Bool) → row t (Room (length x.ticks)) ≡ Err (Record k) → says x ≡ faulty k
    go true e = cc
    go false e = cc

first_row : (p q : Parsed) (k : ℕ) → record_row Record p then_check record_row SecondRecord q ≡ Err (Record k) → p ≡ faulty k
first_row (faulty j) q k e = cc
first_row (says x) (faulty j) k e = cc
first_row (says x) (says y) k e = cc

second_row_lem : (p q : Parsed) (k : ℕ) → record_row Record p then_check record_row SecondRecord q ≡ Err (SecondRecord k) → q ≡ faulty k
second_row_lem (faulty j) q k e = cc
second_row_lem (says x) (faulty j) k e = cc
second_row_lem (says x) (says y) k e = cc

pub read_refused : {b : List ℕ} → Bytes b → (m n k : ℕ) → read_rows b m n ≡ Err (Record k) ↔ FaultAt b k
read_refused {b} by m n k = (λ e. (fault_exact by k).0 (read_row (parse b) m n k e), λ f. fault_row b m n ((fault_exact by k).1 f))

pub first_refused : {a : List ℕ} → Bytes a → (b : List ℕ) (k : ℕ) → same_rows a b ≡ Err (Record k) ↔ FaultAt a k
first_refused {a} by b k = (λ e. (fault_exact by k).0 (first_row (parse a) (parse b) k e), λ f. first_fault a b ((fault_exact by k).1 f))

pub second_refused : {a b : List ℕ} → Bytes b → {x : Content} → Accepted a x → (k : ℕ) → same_rows a b ≡ Err (SecondRecord k) ↔ FaultAt b k
second_refused {a} {b} by h k = (λ e. (fault_exact by k).0 (second_row_lem (parse a) (parse b) k e), λ f. rw (h.parsed, (fault_exact by k).1 f))

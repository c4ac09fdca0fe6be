-- Laws of the report: what a sheet gives, whatever list it is written over.
-- Assumes nothing.
use Rattle.std.specs.Prelude.{Ok}
use mathlib.Core.Path.{◌≡◌, sym, ◌∙◌, ap, subst}
use mathlib.Core.List.{List}
use Prim.Native.Nat.{ℕ, ◌≤◌, ◌<◌}
use native.Mathlib.Omega.{arith}
use lib.IntN.{ℤ}
use lib.ListN.{length, take}
use borrow.Author.Tests.{leb-true}
use Rattle.lists.specs.Overwrite.{overwrite}
use Rattle.refusal.specs.Table.{room_row}
use Rattle.refusal.proofs.TableLaws.{row_fine}
use Rattle.limits.specs.declared.Limits.{Limits}
use Rattle.trace.specs.declared.Criterion.{Criterion}
use Rattle.sheet.specs.declared.Summary.{Summary}
use Rattle.sheet.specs.declared.Sheet.{Sheet}
use Rattle.channels.specs.Channels.{crate_row}
use Rattle.channels.proofs.ChannelLaws.{crate_divided}
use Rattle.sheet.specs.Report.{rows_from, totals_of, Rows, filled}
use Rattle.limits.specs.Prepare.{limit_rows, Sets}
use Rattle.reporting.specs.Report.{crate_rows, Made}

module _ (ts : List ℕ) (vs : List ℤ) (ls : List ℕ) (t : Limits) (room : ℕ) where
  -- a whole sheet
  module _ (fine : crate_row ts vs ls ≡ Ok tt) {c : Criterion} (sets : Sets t c) (enough : room_row (length ls) room ≡ Ok tt) where
    all_fine : crate_rows ts vs ls t room ≡ Ok tt
    unfolding crate_rows
    all_fine = rw (fine, sets.row, enough)

    pub sheet_made : {s : Sheet} → Rows c ts vs ls s → Made ts vs ls t room s
    sheet_made {s} r =
        let d = crate_divided ts vs ls fine in
        record {
          fits = record { written = omega (arith, r.count, d.few); room = omega (arith, r.count, leb-true (length ls) room (row_fine _ _ enough)) };
          outcome = λ o e. record {
            rows = ap (λ (n : ℕ). crate_rows ts vs ls t n) e ∙ all_fine;
            content = ap (λ (l : List Summary). overwrite l o) (r.rows ∙ ap (λ (k : Criterion). rows_from k ts vs 0 ls) sets.is);
            totals = r.totals ∙ ap (λ (k : Criterion). totals_of (rows_from k ts vs 0 ls)) sets.is;
          };
        }

-- `writer::write` meets its contract: where any record of so many samples has room, it is written at once. Assumes nothing.
use mathlib.Core.Path.{◌≡◌, sym, ◌∙◌}
use mathlib.Core.Bool.{Bool, true, ◌&&◌}
use mathlib.Core.List.{List}
use Prim.Native.Nat.{ℕ, ◌-◌, ◌≤◌}
use native.Mathlib.Omega.{arith}
use lib.Dec.{leb}
use lib.ListN.{length}
use borrow.Author.Tests.{leb-true}
use Rattle.lists.proofs.PartLaws.{part_length}
use Rattle.lists.proofs.Tests.{and_first, and_second}
use Rattle.tolerance.specs.declared.Parts.{Parts}
use Rattle.writer.specs.Writing.{selected, most_bytes}
use Rattle.writer.proofs.SelectedLaws.{list_few, selected_legal}
use Rattle.writer.proofs.WritingLaws.{record_most, wrote}
use Rattle.writer.proofs.write.Goals as goal

-- there is room for any record of so many samples
fits : (x : Parts) (n place : ℕ) (buffer : List ℕ) {most : ℕ} {b : Bool} → most ≡ most_bytes x n → b ≡ (leb place (length buffer) && leb most (length buffer - place)) → b ≡ true
    → (place ≤ length buffer) × (most_bytes x n ≤ length buffer - place)
fits x n place buffer {most} e is taken =
    let t = sym is ∙ taken in
    let l : most ≤ length buffer - place = leb-true _ _ (and_second (leb place (length buffer)) _ t) in
    (leb-true _ _ (and_first (leb place (length buffer)) _ t), omega (arith, l, e))

pub most_bytes-requires : goal.most_bytes-requires
most_bytes-requires c = list_few c.requires.0

pub put_record-n-requires : goal.put_record-n-requires
put_record-n-requires c = (c.requires.0, simp part_length (omega (arith, record_most c.requires.0 c.args.held, (fits c.args.held (length c.args.list.now) c.args.place c.args.buffer.now c.most_bytes.ensures c.has_room.ensures c.if-has_room.true).1)))

pub returns-then-has_room : goal.returns-then-has_room
returns-then-has_room c =
    let n = c.put_record-n.ensures.1 in
    let e = n.is in
    wrote (selected c.args.held c.args.ticks.now c.args.values.now c.args.list.now) c.args.buffer.now c.args.place e
    (selected_legal c.requires.0 c.args.held c.requires.1 (λ k. omega (arith, c.shared_slice_known-1.given k)) n.range)
    (fits c.args.held (length c.args.list.now) c.args.place c.args.buffer.now c.most_bytes.ensures c.has_room.ensures c.if-has_room.true).0 (omega (arith, e, record_most c.requires.0 c.args.held, (fits c.args.held (length c.args.list.now) c.args.place c.args.buffer.now c.most_bytes.ensures c.has_room.ensures c.if-has_room.true).1)) c.put_record-n.ensures.0

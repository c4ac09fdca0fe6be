-- `writer::put_record` meets its contract: the samples are written over the part after the tolerance. Assumes nothing.
use Rattle.std.proofs.Common.{refl, sym, ap, ◌∙◌, List, [], ℕ, arith}
use Rattle.lists.specs.Overwrite.{overwrite}
use Rattle.lists.proofs.PartLaws.{part_length, written_part}
use Rattle.format.specs.Command.{command_onto}
use Rattle.format.specs.Format.{tolerance_command}
use Rattle.format.proofs.CommandLaws.{command_length}
use Rattle.writer.specs.Writing.{kept_samples}
use Rattle.writer.proofs.WritingLaws.{record_parts, record_length, whole_length}
use Rattle.writer.proofs.put_record.Goals as goal

pub put_tolerance-at-requires : goal.put_tolerance-at-requires
put_tolerance-at-requires c =
    omega (arith, record_length c.args.held c.args.ticks.now c.args.values.now c.args.list.now, c.requires.1)

pub slice_bounds-put_samples-count : goal.slice_bounds-put_samples-count
slice_bounds-put_samples-count c =
    omega (arith, record_length c.args.held c.args.ticks.now c.args.values.now c.args.list.now, c.put_tolerance-at.ensures.1, c.put_tolerance-at.auto.part)

pub slice_bounds-put_samples-start : goal.slice_bounds-put_samples-start
slice_bounds-put_samples-start c =
    omega (arith, record_length c.args.held c.args.ticks.now c.args.values.now c.args.list.now, c.put_tolerance-at.ensures.1, c.put_tolerance-at.auto.part)

pub put_samples-rest-requires : goal.put_samples-rest-requires
put_samples-rest-requires c =
    let a = c.args in
    (c.requires.0, rw (part_length c.put_tolerance-at.new.part c.put_tolerance-at.result) (omega (arith, record_length a.held a.ticks.now a.values.now a.list.now, c.put_tolerance-at.ensures.1, c.put_tolerance-at.auto.part)))

pub returns : goal.returns
returns c =
    let a = c.args in
    let o = a.part.now in
    let m = tolerance_command a.held in
    let n = command_length m [] in (
      written_part c.put_tolerance-at.new.part o (command_onto m []) (kept_samples a.ticks.now a.values.now a.list.now) c.put_samples-rest.new.part c.put_tolerance-at.result c.put_tolerance-at.ensures.0 (omega (arith, n, c.put_tolerance-at.ensures.1)) c.put_samples-rest.ensures.0
          ∙ ap (λ (x : List ℕ). overwrite x o) (sym (record_parts a.held a.ticks.now a.values.now a.list.now)),
      whole_length a.held c.put_tolerance-at.ensures.1 c.put_samples-rest.ensures.1 refl,
    )

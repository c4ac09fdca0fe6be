-- `writer::put_samples` meets its contract: the rest is written over the part after the first sample. Assumes nothing.
use Rattle.std.proofs.Common.{refl, sym, ap, ◌∙◌, List, [], ℕ, arith}
use Rattle.lists.specs.Overwrite.{overwrite}
use Rattle.lists.proofs.PartLaws.{part_length, written_part}
use Rattle.trace.proofs.Level.{short}
use Rattle.format.specs.declared.Command.TheVariants.{First}
use Rattle.format.specs.Command.{command_onto}
use Rattle.format.proofs.CommandLaws.{command_length}
use Rattle.writer.specs.Writing.{kept_ticks, kept_values, rest_of}
use Rattle.writer.proofs.WritingLaws.{kept_parts, kept_length, samples_length}
use Rattle.writer.proofs.put_samples.Goals as goal

pub put_first-requires : goal.put_first-requires
put_first-requires c = (omega (arith, kept_length c.requires.0), short c.sample_at-s.ensures.level_is)

pub slice_bounds-put_steps-count : goal.slice_bounds-put_steps-count
slice_bounds-put_steps-count c = omega (arith, kept_length c.requires.0, c.put_first.auto.part)

pub slice_bounds-put_steps-start : goal.slice_bounds-put_steps-start
slice_bounds-put_steps-start c = omega (arith, kept_length c.requires.0, c.put_first.auto.part)

pub put_steps-rest-requires : goal.put_steps-rest-requires
put_steps-rest-requires c = (
  c.requires.0,
  c.sample_at-s.ensures,
  rw (part_length c.put_first.new.part 7) (omega (arith, kept_length c.requires.0, c.put_first.auto.part)),
)

pub returns : goal.returns
returns c =
    let a = c.args in
    let o = a.part.now in
    let first = First c.sample_at-s.result.tick c.sample_at-s.result.level in
    let rest = rest_of (kept_ticks a.ticks.now a.list.now) (kept_values a.values.now a.list.now) 0 in (
      written_part c.put_first.new.part o (command_onto first []) rest c.put_steps-rest.new.part 7 c.put_first.ensures (command_length first []) c.put_steps-rest.ensures.0
          ∙ ap (λ (x : List ℕ). overwrite x o) (sym (kept_parts c.requires.0 c.sample_at-s.ensures)),
      samples_length c.requires.0 c.put_steps-rest.ensures.1 refl,
    )

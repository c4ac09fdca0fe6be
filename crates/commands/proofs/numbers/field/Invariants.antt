-- `commands::numbers::field` meets its contract. The loop's invariant: the number so far, gone on with the bytes left, is the field's; and it is below 256 for each byte read.
-- Assumes nothing.
use Rattle.std.proofs.Common.{◌≡◌, ◌^◌, ◌<◌, drop}
use Rattle.format.specs.Number.{number_from, field}
use Rattle.commands.proofs.numbers.field.Given as goal

abbrev pub invariant-loop-byte : goal.invariant-loop-byte
invariant-loop-byte l = record {
  number : number_from l.n (drop l.byte-index l.byte-items) ≡ field l.s l.i l.k;
  below : l.n < 256 ^ l.byte-index;
}

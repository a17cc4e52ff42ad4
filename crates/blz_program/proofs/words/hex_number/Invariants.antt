use Rattle.std.proofs.Common.{◌≡◌, ◌<◌, ◌^◌, Some, drop}
use Rattle.blz_program.specs.Words.{hex_from}
use Rattle.blz_program.proofs.words.hex_number.Given as goal

abbrev pub invariant-loop-digit : goal.invariant-loop-digit
invariant-loop-digit l = record {
  same : hex_from (Some l.value) (drop l.digit-index l.digits) ≡ hex_from (Some 0) l.digits;
  small : l.value < 16 ^ l.digit-index;
}

use Rattle.std.proofs.Common.{◌≡◌, ◌≤◌, Some, drop}
use Rattle.blz_program.specs.Words.{decimal_from, up_to}
use Rattle.blz_program.proofs.words.longer_number.Given as goal

abbrev pub invariant-loop-digit : goal.invariant-loop-digit
invariant-loop-digit l = record {
  same : up_to l.most (decimal_from (Some l.value) (drop l.digit-index l.digits)) ≡ up_to l.most (decimal_from (Some l.first) l.digits);
  longer : l.first ≤ l.value;
}

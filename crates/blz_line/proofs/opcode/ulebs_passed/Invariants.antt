use Rattle.std.proofs.Common.{◌≡◌, ◌≤◌, ◌-◌, length}
use Rattle.blz_line.specs.Opcodes.{ulebs_passed}
use Rattle.blz_line.proofs.opcode.ulebs_passed.Given as goal

abbrev pub invariant-loop : goal.invariant-loop
invariant-loop l = record {
  ahead : l.at ≤ l.offset;
  within : l.offset ≤ length l.bytes;
  rest : ulebs_passed (l.count - l.counter) l.bytes l.offset ≡ ulebs_passed l.count l.bytes l.at;
}

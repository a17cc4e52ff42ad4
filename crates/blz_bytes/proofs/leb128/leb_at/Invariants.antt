use Rattle.std.proofs.Common.{◌≡◌, ◌<◌, ◌-◌, ◌+◌, ◌^◌}
use Rattle.blz_model.specs.LebNumbers.{leb_in}
use Rattle.blz_bytes.proofs.LebLoop.{with_low}
use Rattle.blz_bytes.proofs.leb128.leb_at.Given as goal

abbrev pub invariant-loop-i : goal.invariant-loop-i
invariant-loop-i l = record {
  small : l.value < l.factor;
  power : l.factor ≡ 128 ^ l.i;
  rest : with_low l.value l.factor (leb_in (10 - l.i) l.bytes (l.at + l.i)) ≡ leb_in 10 l.bytes l.at;
}

use Rattle.std.proofs.Common.{◌≡◌, ◌<◌, ◌^◌}
use Rattle.blz_bytes.proofs.NumberLoop.{top}
use Rattle.blz_bytes.proofs.places.number_at.Given as goal

abbrev pub invariant-loop-i : goal.invariant-loop-i
invariant-loop-i l = record {
  small : l.value < 256 ^ l.i;
  read : l.value ≡ top l.order l.bytes l.at l.width l.i;
}

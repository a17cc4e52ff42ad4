use Rattle.std.proofs.Common.{◌≡◌, ◌+◌, ◌*◌, ◌-◌, ◌++◌, length, drop}
use Rattle.blz_bytes.specs.Records.{values_in}
use Rattle.blz_bytes.proofs.cursor.records_in.Given as goal

abbrev pub invariant-loop : goal.invariant-loop
invariant-loop g l = record {
  left : l.at + (l.count - l.counter) * g.T.Pod.SIZE ≡ length l.bytes;
  read : l.records.items ++ values_in (g.T.Pod.value l.order) g.T.Pod.SIZE (l.count - l.counter) (drop l.at l.bytes) ≡ values_in (g.T.Pod.value l.order) g.T.Pod.SIZE l.count l.bytes;
}

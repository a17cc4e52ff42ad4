use Rattle.std.proofs.Common.{◌≡◌, ◌≤◌, length}
use Rattle.blz_index.specs.Cold.{AreEmpty}
use Rattle.blz_index.proofs.cold.empty_caches.Given as goal

abbrev pub invariant-loop : goal.invariant-loop
invariant-loop l = record {
  within : l.counter ≤ l.count;
  count : length l.units.items ≡ l.counter;
  empty : AreEmpty l.units.items;
}

use Rattle.std.proofs.Common.{◌≡◌, ◌≤◌, length}
use Rattle.blz_index.specs.Cold.{NothingKept}
use Rattle.blz_index.proofs.cold.empty_units.Given as goal

abbrev pub invariant-loop : goal.invariant-loop
invariant-loop l = record {
  within : l.counter ≤ l.count;
  count : length l.units.items ≡ l.counter;
  empty : NothingKept l.units.items;
}

use Rattle.std.proofs.Common.{◌≡◌, length}
use Rattle.blz_ranges.specs.Skipping.{AreFirstSkips}
use Rattle.blz_ranges.proofs.skips.skips_of.Given as goal

abbrev pub invariant-loop-entry : goal.invariant-loop-entry
invariant-loop-entry l = record {
  same : length l.skips.items ≡ l.entry-index;
  each : AreFirstSkips l.order l.skips.items;
}

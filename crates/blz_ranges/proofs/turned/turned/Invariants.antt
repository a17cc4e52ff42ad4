use Rattle.std.proofs.Common.{◌≡◌, ℕ, ◌<◌, length}
use Rattle.blz_ranges.specs.Turned.{IsBehind, IsMirrored}
use Rattle.blz_ranges.proofs.turned.turned.Given as goal

abbrev pub invariant-loop-at : goal.invariant-loop-at
invariant-loop-at l = record {
  behind : IsBehind l.keys l.places l.at l.run;
  same : length l.turned.items ≡ l.at;
  each : (i : ℕ) → i < l.at → IsMirrored l.keys l.places l.turned.items i;
}

use Rattle.std.proofs.Common.{ℕ, ◌-◌, ◌<◌, ◌≤◌, length}
use Rattle.blz_ranges.specs.Turned.{key_in, Alike}
use Rattle.blz_ranges.proofs.turned.run_to.Given as goal

abbrev pub invariant-loop-to : goal.invariant-loop-to
invariant-loop-to l = record {
  some : l.from < l.to;
  within : l.to ≤ length l.places;
  alike : (i : ℕ) → l.from ≤ i → i < l.to → Alike (key_in l.keys l.places i) (key_in l.keys l.places l.from);
}

abbrev pub decreases-loop-to : goal.decreases-loop-to
decreases-loop-to l = length l.places - l.to

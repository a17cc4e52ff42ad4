use Rattle.std.proofs.Common.{◌-◌, ◌≡◌, ℕ, ◌^◌, ◌<◌, ◌≤◌, length, Some}
use Rattle.std.specs.List.{slice_get}
use Rattle.blz_ranges.specs.declared.ordered.Ordered.{Ordered}
use Rattle.blz_ranges.specs.Search.{IsBelow, IsAbove, Halved}
use Rattle.blz_ranges.proofs.ordered.split.Given as goal

abbrev pub invariant-loop-low : goal.invariant-loop-low
invariant-loop-low g l = record {
  within : l.low ≤ l.high;
  inside : l.high ≤ length l.order;
  later : l.initial.steps ≤ l.steps;
  below : (i : ℕ) (e : Ordered) → i < l.low → slice_get l.order i ≡ Some e → IsBelow l.target e;
  above : (i : ℕ) (e : Ordered) → l.high ≤ i → slice_get l.order i ≡ Some e → IsAbove l.target e;
  paid : Halved (2 ^ (l.steps - l.initial.steps)) (l.high - l.low) (length l.order);
}

abbrev pub decreases-loop-low : goal.decreases-loop-low
decreases-loop-low g l = l.high - l.low

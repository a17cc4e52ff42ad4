use Rattle.std.proofs.Common.{◌≡◌, ◌≤◌}
use Rattle.blz_ranges.specs.Search.{IsPassed}
use Rattle.blz_ranges.specs.Sorted.{IsChain}
use Rattle.blz_ranges.proofs.ordered.last_before.Given as goal

abbrev pub invariant-loop-at : goal.invariant-loop-at
invariant-loop-at g l = record {
  passed : IsPassed l.order l.group l.addr l.at l.high;
  later : l.initial.steps ≤ l.steps;
  paid : IsChain l.order → l.steps ≡ l.initial.steps;
}

abbrev pub decreases-loop-at : goal.decreases-loop-at
decreases-loop-at g l = l.at

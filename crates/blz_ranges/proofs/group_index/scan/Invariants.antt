use Rattle.std.proofs.Common.{◌≡◌, ◌≤◌, length, drop}
use Rattle.blz_ranges.specs.Best.{best_by, passes}
use Rattle.blz_ranges.specs.Groups.{in_group, spans_of}
use Rattle.blz_ranges.proofs.group_index.scan.Given as goal

abbrev pub invariant-loop-at : goal.invariant-loop-at
invariant-loop-at g l = record {
  later : l.initial.steps ≤ l.steps;
  within : l.at ≤ length l.list;
  best_is : l.best ≡ best_by (in_group l.list l.group (passes l.addr l.after)) l.at (drop l.at (spans_of l.list));
}

abbrev pub decreases-loop-at : goal.decreases-loop-at
decreases-loop-at g l = l.at

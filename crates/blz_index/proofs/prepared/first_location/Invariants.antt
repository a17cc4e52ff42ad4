use Rattle.std.proofs.Common.{◌≡◌, ◌≤◌, length}
use Rattle.blz_units.specs.KeptAnswers.{first_kept_line}
use Rattle.blz_index.proofs.prepared.first_location.Given as goal

abbrev pub invariant-loop-number : goal.invariant-loop-number
invariant-loop-number g l = record {
  same : first_kept_line l.texts l.units l.addr l.announcing.left ≡ first_kept_line l.texts l.units l.addr l.fn.announcing.left;
  later : l.initial.steps ≤ l.steps;
}

abbrev pub decreases-loop-number : goal.decreases-loop-number
decreases-loop-number g l = length l.announcing.left

use Rattle.std.proofs.Common.{◌≡◌, length}
use Rattle.blz_entry.specs.Folds.{over_pending}
use Rattle.blz_entry.specs.Roots.{root_step}
use Rattle.blz_entry.proofs.root.ranged_over.Given as goal

abbrev pub invariant-loop-name : goal.invariant-loop-name
invariant-loop-name l = over_pending (root_step l.sections l.header) l.root l.entries ≡ over_pending (root_step l.sections l.header) l.fn.root l.fn.entries

abbrev pub decreases-loop-name : goal.decreases-loop-name
decreases-loop-name l = length l.entries.pending

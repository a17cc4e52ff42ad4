use Rattle.std.proofs.Common.{◌≡◌, length}
use Rattle.blz_entry.specs.Folds.{over_pending}
use Rattle.blz_entry.specs.Roots.{noted_step, nothing_noted}
use Rattle.blz_entry.proofs.root.noted_over.Given as goal

abbrev pub invariant-loop-name : goal.invariant-loop-name
invariant-loop-name l = over_pending noted_step l.values l.entries ≡ over_pending noted_step nothing_noted l.fn.entries

abbrev pub decreases-loop-name : goal.decreases-loop-name
decreases-loop-name l = length l.entries.pending

use Rattle.std.proofs.Common.{◌≡◌, ◌≤◌, drop}
use Rattle.blz_image.specs.TargetTables.{beneath}
use Rattle.blz_image.proofs.relocations.target.put_unread.Given as goal

abbrev pub invariant-loop-end : goal.invariant-loop-end
invariant-loop-end l = (l.end ≤ l.rows.count) × (l.map ≡ beneath l.symbols (drop l.end l.entries) l.fn.map)

abbrev pub decreases-loop-end : goal.decreases-loop-end
decreases-loop-end l = l.end

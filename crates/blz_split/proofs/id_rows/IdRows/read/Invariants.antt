use Rattle.std.proofs.Common.{◌-◌}
use Rattle.blz_split.specs.IndexRows.{HasRows}
use Rattle.blz_split.proofs.id_rows.IdRows.read.Given as goal

abbrev pub invariant-loop-noted : goal.invariant-loop-noted
invariant-loop-noted l = HasRows l.order l.index l.tables l.noted (l.tables.slots - l.noted) l.rows.rows

use Rattle.std.proofs.Common.{◌-◌}
use Rattle.blz_split.proofs.IndexRows.{no_rows, next_rows}
use Rattle.blz_split.proofs.id_rows.IdRows.read.Goals as goal

pub loop-noted-init : goal.loop-noted-init
loop-noted-init c = no_rows c.args.order c.args.index.now c.args.tables.now (c.args.tables.now.slots - 0) c.new-rows.result.rows c.new-rows.ensures

pub loop-noted-preserved : goal.loop-noted-preserved
loop-noted-preserved c = next_rows c.args.order c.args.index.now c.args.tables.now c.args.tables.now.slots c.loop-noted.noted c.loop-noted.rows.rows c.note.new.self.rows c.loop-noted-test.true (c.in_ok-note.ensures c.loop-noted.noted) c.loop-noted.invariant

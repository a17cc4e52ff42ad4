use Rattle.std.proofs.Common.{rules, arith}
use Rattle.blz_split.proofs.IndexRows.{slot_noted, slot_passed}
use Rattle.blz_split.proofs.id_rows.IdRows.note.Goals as goal

pub returns-in_ok-insert : goal.returns-in_ok-insert
returns-in_ok-insert c = λ n has. slot_noted c.args.order c.args.index.now c.args.tables.now n c.args.slot c.args.self.now.rows c.insert.new.self (rw (c.id.ensures, c.row-row.ensures) at c.in_ok-insert.ensures.updates) (rw c.row-row.ensures at c.if-row-gt0.true) has

pub returns-else-row-gt0 : goal.returns-else-row-gt0
returns-else-row-gt0 c = λ n has. slot_passed c.args.order c.args.index.now c.args.tables.now n c.args.slot c.args.self.now.rows (let e = rw c.row-row.ensures at c.if-row-gt0.false in omega (arith, e)) has

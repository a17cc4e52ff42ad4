use Rattle.std.proofs.Common.{sym, ◌∙◌}
use Rattle.blz_split.specs.Contributions.{is_column_of}
use Rattle.blz_split.proofs.FirstIn.{first_behind}
use Rattle.blz_split.proofs.tables.Tables.find_column.Goals as goal

pub loop-column-preserved : goal.loop-column-preserved
loop-column-preserved c = first_behind (is_column_of c.args.order c.args.index.now c.args.self.now c.args.kind) c.args.self.now.columns c.loop-column.column _ c.loop-column-test.true (sym c.is_column_of.ensures ∙ c.if-is_column_of.false) c.loop-column.invariant

use Rattle.std.proofs.Common.{◌≡◌, ◌-◌}
use Rattle.blz_split.specs.Contributions.{first_in, is_column_of}
use Rattle.blz_split.proofs.tables.Tables.find_column.Given as goal

abbrev pub invariant-loop-column : goal.invariant-loop-column
invariant-loop-column l = first_in (is_column_of l.order l.index l.self l.kind) (l.self.columns - l.column) l.column ≡ first_in (is_column_of l.order l.index l.self l.kind) l.self.columns 0

-- What the lines of a unit in the code stand for.
use Rattle.blz_resolver.specs.UnitRowsRead.{Rows, rows_with}
use Rattle.blz_resolver.specs.declared.rows.UnitRows.{UnitRows}

abbrev pub rows_view : UnitRows → Rows
rows_view r = rows_with r.texts r.lines.now.table

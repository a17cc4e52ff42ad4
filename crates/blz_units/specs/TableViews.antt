-- What the table of the units of a file stands for.
use Rattle.blz_units.specs.UnitTables.{UnitTable}
use Rattle.blz_units.specs.declared.unit_table.UnitTable as table

abbrev pub table_view : table.UnitTable → UnitTable
table_view t = record { kept = t.kept; announced = t.announced.ranges; sups = t.sups }

-- What the table of a line program stands for before its order.
use Rattle.std.specs.Arc.{arc_value}
use Rattle.blz_line.specs.ProgramTables.{ProgramTable}
use Rattle.blz_line.specs.declared.program_lines.Unordered.{Unordered}

abbrev pub table_view : Unordered → ProgramTable
table_view t = record { sequences = t.sequences.items; first = t.files.first; files = arc_value t.files.table }

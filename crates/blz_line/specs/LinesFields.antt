-- What the fields of the lines of a program stand for, and what holds of them.
use Rattle.std.specs.Prelude.{◌≡◌}
use Rattle.std.specs.Arc.{arc_value}
use Rattle.blz_line.specs.declared.program_lines.ProgramLines.TheInside.{Inside}
use Rattle.blz_line.specs.Lookups.{spans_of}
use Rattle.blz_line.specs.ProgramTables.{OrderedProgram}
use Rattle.blz_line.specs.RowOrder.{AreRising}

abbrev pub lines_value : Inside → OrderedProgram
lines_value l = record {
  table = record { sequences = (arc_value l.sequences).items; first = l.files.first; files = arc_value l.files.table };
  ordered = (arc_value l.index).ordered;
}

-- The index is that of the sequences, and the rows of each sequence rise.
pub record AreIndexed (l : Inside) : Type 0 where
  pub index : (arc_value l.index).spans ≡ spans_of (arc_value l.sequences).items
  pub rising : AreRising (arc_value l.sequences).items

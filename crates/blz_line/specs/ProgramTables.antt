-- The table of a line program, of which each unit that reads it so has its own: its sequences, and its files without the
-- names of a unit (DWARF 5 section 6.2).
use Rattle.std.specs.Prelude.{ℕ, Bool, List, length, Option, Some}
use Rattle.blz_model.specs.Reads.{◌>>=◌}
use Rattle.blz_info.specs.Contents.{section_view}
use Rattle.blz_info.specs.declared.section.Sections.{Sections}
use Rattle.blz_info.specs.declared.units.UnitHeader.{UnitHeader}
use Rattle.blz_entry.specs.declared.root.UnitRoot.{UnitRoot}
use Rattle.blz_line.specs.declared.files.FilePlaces.{FilePlaces}
use Rattle.blz_line.specs.declared.files.FirstFile.{FirstFile}
use Rattle.blz_line.specs.declared.files.UnitNames.{UnitNames}
use Rattle.blz_line.specs.declared.header.LineHeader.{LineHeader}
use Rattle.blz_line.specs.FileNames.{naming_of, all_files}
use Rattle.blz_line.specs.Headers.{header_at}
use Rattle.blz_line.specs.ProgramFiles.{files_by, first_of, nameless}
use Rattle.blz_line.specs.Sequences.{Sequence}
use Rattle.blz_line.specs.UnitLines.{LineTable, program_of}

pub record ProgramTable : Type 0 where
  pub sequences : List Sequence
  pub first : FirstFile
  pub files : List FilePlaces

-- such a table, and whether the order that it was given was accepted
pub record OrderedProgram : Type 0 where
  pub table : ProgramTable
  pub ordered : Bool

-- the table of a header, the whole of which has to have a value
unfoldable pub program_table : Sections → UnitHeader → UnitRoot → LineHeader → Option ProgramTable
program_table sections unit root h = do
  state ← program_of (section_view sections.line) h
  files ← all_files (nameless (naming_of sections unit root h.version h.paths.directories)) state.files
  Some (record { sequences = state.sequences; first = first_of h.version (length state.files); files = files })

-- the table at an offset of `.debug_line`
unfoldable pub program_at : Sections → UnitHeader → UnitRoot → ℕ → Option ProgramTable
program_at sections unit root at = do
  header ← header_at (section_view sections.line) at unit.address_size
  program_table sections unit root header

-- the table of a unit with some names
abbrev pub unit_table : UnitNames → ProgramTable → LineTable
unit_table names p = record { sequences = p.sequences; files = files_by names p.first p.files }

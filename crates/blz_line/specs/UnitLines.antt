-- The line table of a unit: its sequences and its files (DWARF 5 section 6.2).
use Rattle.std.specs.Prelude.{ℕ, ◌+◌, ◌-◌, Bool, List, slice_range, Option, Some, None}
use Rattle.blz_error.specs.declared.kind.ErrorKind.TheVariants.{InvalidDwarf}
use Rattle.blz_model.specs.Part.{Part, or_mark}
use Rattle.blz_model.specs.Reads.{◌>>=◌}
use Rattle.blz_info.specs.Contents.{Contents, cut, section_view}
use Rattle.blz_info.specs.declared.section.Sections.{Sections}
use Rattle.blz_info.specs.declared.units.UnitHeader.{UnitHeader}
use Rattle.blz_entry.specs.declared.root.UnitRoot.{UnitRoot}
use Rattle.blz_line.specs.declared.header.LineHeader.{LineHeader}
use Rattle.blz_line.specs.declared.files.FilePlaces.{FilePlaces}
use Rattle.blz_line.specs.Sequences.{Sequence}
use Rattle.blz_line.specs.Headers.{header_at, rules_of}
use Rattle.blz_line.specs.Program.{State, first_state, run_from}
use Rattle.blz_line.specs.FileNames.{naming_of, files_of}

-- the sequences that a line program gives, and the files that its rows name by their numbers
pub record LineTable : Type 0 where
  pub sequences : List Sequence
  pub files : List FilePlaces

-- a line table, and whether the order that it was given was accepted
pub record OrderedLines : Type 0 where
  pub table : LineTable
  pub ordered : Bool

-- the numbers of operands of the standard opcodes
abbrev pub counts_of : Contents → LineHeader → List ℕ
counts_of s h = slice_range s.bytes h.counts (h.counts + (h.opcode_base - 1))

-- what the program of a header does
unfoldable pub program_of : Contents → LineHeader → Option State
program_of s h = run_from (rules_of h) (counts_of s h) (cut h.end s) (first_state h.paths.files) h.program

-- the table of a header, the whole of which has to have a value
unfoldable pub table_of : Sections → UnitHeader → UnitRoot → LineHeader → Option LineTable
table_of sections unit root h = do
  state ← program_of (section_view sections.line) h
  files ← files_of (naming_of sections unit root h.version h.paths.directories) state.files
  Some (record { sequences = state.sequences; files = files })

-- the table at an offset of `.debug_line`
unfoldable pub table_at : Sections → UnitHeader → UnitRoot → ℕ → Option LineTable
table_at sections unit root at = do
  header ← header_at (section_view sections.line) at unit.address_size
  table_of sections unit root header

-- a table that has to have a value
abbrev pub some_table : Option LineTable → Option (Option LineTable)
some_table None = None
some_table (Some table) = Some (Some table)

-- the table at an offset of `.debug_line`; none where there is no offset
abbrev pub maybe_table : Sections → UnitHeader → UnitRoot → Option ℕ → Option (Option LineTable)
maybe_table sections unit root None = Some None
maybe_table sections unit root (Some at) = some_table (table_at sections unit root at)

-- the lines of a unit: none where its root tells no line program
abbrev pub lines_of : Sections → UnitHeader → UnitRoot → Part (Option LineTable)
lines_of sections unit root = or_mark (maybe_table sections unit root root.line) InvalidDwarf

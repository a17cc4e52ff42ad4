-- The files of a line program, by which each unit that reads it so has its own: only the directory of the unit differs, and
-- file 0 before version 5 (DWARF 5 section 6.2.4).
use Rattle.std.specs.Prelude.{ℕ, List, map, Option, Some, None, ◌==◌, nat_le, if◌then◌else◌}
use Rattle.std.specs.Arc.{arc_value}
use Rattle.blz_entry.specs.declared.root.UnitRoot.{UnitRoot}
use Rattle.blz_line.specs.FileNames.{Naming, at_front, nowhere, unit_file}
use Rattle.blz_line.specs.declared.files.FilePlaces.{FilePlaces}
use Rattle.blz_line.specs.declared.files.FirstFile.{FirstFile}
use Rattle.blz_line.specs.declared.files.FirstFile.TheVariants.{Listed, Nowhere, OfUnit}
use Rattle.blz_line.specs.declared.files.ProgramFiles.{ProgramFiles}
use Rattle.blz_line.specs.declared.files.UnitNames.{UnitNames}

-- what a root calls its unit, and the directory that its files lie in
abbrev pub names_of : UnitRoot → UnitNames
names_of root = record { name = root.name; comp_dir = root.comp_dir }

-- the same names, for a unit that has none of its own
abbrev pub nameless : Naming → Naming
nameless n = record n { unit_name = None; comp_dir = None }

-- a file in the directory of a unit
abbrev pub in_unit : UnitNames → FilePlaces → FilePlaces
in_unit names f = record f { comp_dir = names.comp_dir }

-- what file 0 is, by the version and the number of entries
abbrev pub first_of : ℕ → ℕ → FirstFile
first_of version count = if nat_le version 4 then OfUnit else (if count == 0 then Nowhere else Listed)

-- file 0, where the table does not have it
abbrev pub first_file : FirstFile → UnitNames → Option FilePlaces
first_file Listed names = None
first_file Nowhere names = Some nowhere
first_file OfUnit names = Some (unit_file names.comp_dir names.name)

-- the files of a unit, by what file 0 is and by the files without its names
abbrev pub files_by : UnitNames → FirstFile → List FilePlaces → List FilePlaces
files_by names first files = at_front (first_file first names) (map (in_unit names) files)

abbrev pub files_in : UnitNames → ProgramFiles → List FilePlaces
files_in names p = files_by names p.first (arc_value p.table)

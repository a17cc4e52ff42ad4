-- The files that rows name by their numbers (DWARF 5 section 6.2.4).
use Rattle.std.specs.Prelude.{ℕ, ◌-◌, List, [], ◌∷◌, length, Option, Some, None, ◌==◌, nat_le, if◌then◌else◌, slice_get}
use Rattle.std.specs.Option.{option_map}
use Rattle.blz_model.specs.Reads.{◌>>=◌}
use Rattle.blz_bytes.specs.Joined.{joined}
use Rattle.blz_entry.specs.StringPlaces.{string_of}
use Rattle.blz_info.specs.TextParts.{text_of}
use Rattle.blz_info.specs.declared.section.Sections.{Sections}
use Rattle.blz_info.specs.declared.units.UnitHeader.{UnitHeader}
use Rattle.blz_entry.specs.declared.root.UnitRoot.{UnitRoot}
use Rattle.blz_info.specs.declared.text.StrPlace.{StrPlace}
use Rattle.blz_info.specs.declared.text.Texts.{Texts}
use Rattle.blz_info.specs.declared.forms.value.AttrValue.{AttrValue}
use Rattle.blz_line.specs.declared.paths.FileEntry.{FileEntry}
use Rattle.blz_line.specs.declared.files.FilePlaces.{FilePlaces}

-- what the names of a table's files go by: how a value is read as a string, the names of the unit, the version, and the
-- directories
pub record Naming : Type 0 where
  pub string_at : AttrValue → Option StrPlace
  pub unit_name : Option StrPlace
  pub comp_dir : Option StrPlace
  pub version : ℕ
  pub directories : List FileEntry

-- what the names of a line table's files go by in a unit
abbrev pub naming_of : Sections → UnitHeader → UnitRoot → ℕ → List FileEntry → Naming
naming_of sections unit root version directories = record {
  string_at = string_of sections unit root;
  unit_name = root.name;
  comp_dir = root.comp_dir;
  version = version;
  directories = directories;
}

-- The path of a directory. Number 0 is the unit's own, as is one that the table does not have; before version 5 the table
-- begins at 1.
abbrev pub directory_path : Naming → ℕ → Option AttrValue
directory_path n number = if number == 0 then None
    else option_map (λ (e : FileEntry). e.path) (slice_get n.directories (if nat_le n.version 4 then number - 1 else number))

-- a file by its name, and by the path of its directory
unfoldable pub file_in : Naming → StrPlace → Option AttrValue → Option FilePlaces
file_in n name None = Some (record { comp_dir = n.comp_dir; directory = None; name = Some name })
file_in n name (Some path) = do
  directory ← n.string_at path
  Some (record { comp_dir = n.comp_dir; directory = Some directory; name = Some name })

-- the file of an entry, whose path and whose directory have to be readable
unfoldable pub file_of : Naming → FileEntry → Option FilePlaces
file_of n entry = do
  name ← n.string_at entry.path
  file_in n name (directory_path n entry.directory)

-- all of them
unfoldable pub all_files : Naming → List FileEntry → Option (List FilePlaces)
all_files n [] = Some []
all_files n (entry ∷ rest) = do
  file ← file_of n entry
  files ← all_files n rest
  Some (file ∷ files)

-- an empty file in an empty directory
abbrev pub nowhere : FilePlaces
nowhere = record { comp_dir = None; directory = None; name = None }

-- the unit's own file
abbrev pub unit_file : Option StrPlace → Option StrPlace → FilePlaces
unit_file comp_dir None = nowhere
unit_file comp_dir (Some name) = record { comp_dir = comp_dir; directory = None; name = Some name }

-- file 0, where the table does not have it: before version 5 it begins at 1
abbrev pub file_zero : Naming → List FileEntry → Option FilePlaces
file_zero n entries = if nat_le n.version 4 then Some (unit_file n.comp_dir n.unit_name) else (
    if length entries == 0 then Some nowhere else None)

-- an item before a list, where there is one
abbrev pub at_front : {T : Type 0} → Option T → List T → List T
at_front None xs = xs
at_front (Some x) xs = x ∷ xs

-- the files by their numbers
unfoldable pub files_of : Naming → List FileEntry → Option (List FilePlaces)
files_of n entries = do
  files ← all_files n entries
  Some (at_front (file_zero n entries) files)

-- ---- the bytes of their names

-- the text of a place, where there is one
abbrev pub maybe_text : Texts → Option StrPlace → List ℕ
maybe_text t None = []
maybe_text t (Some place) = text_of t place

-- the path of a directory, joined to DW_AT_comp_dir unless it is absolute; without one DW_AT_comp_dir alone
abbrev pub directory_text : Texts → List ℕ → Option StrPlace → List ℕ
directory_text t comp_dir None = comp_dir
directory_text t comp_dir (Some place) = joined comp_dir (text_of t place)

-- a directory and a name
abbrev pub file_text : Texts → FilePlaces → List ℕ × List ℕ
file_text t f = (directory_text t (maybe_text t f.comp_dir) f.directory, maybe_text t f.name)

-- The tables of directories and files in versions 2 to 4 (DWARF 4 section 6.2.4).
use Rattle.std.specs.Prelude.{ℕ, zero, suc, List, [], ◌∷◌, ◌++◌, length, Option, Some, None, ◌==◌, if◌then◌else◌}
use Rattle.blz_model.specs.Reads.{Read, ◌>>=◌}
use Rattle.blz_model.specs.LebNumbers.{uleb}
use Rattle.blz_bytes.specs.Pieces.{zero_ended}
use Rattle.blz_info.specs.declared.forms.value.AttrValue.{AttrValue}
use Rattle.blz_info.specs.declared.forms.value.AttrValue.TheVariants.{Text}
use Rattle.blz_info.specs.declared.text.StrPart.TheVariants.{Line}
use Rattle.blz_line.specs.declared.paths.FileEntry.{FileEntry}
use Rattle.blz_line.specs.declared.paths.Paths.{Paths}
use Rattle.blz_line.specs.declared.paths.Kind.{Kind}
use Rattle.blz_line.specs.declared.paths.Kind.TheVariants.{Directories, Files}

-- a text that stands here, by its place
abbrev pub text_place : ℕ → List ℕ → AttrValue
text_place at text = Text (record { part = Line; start = at; len = length text })

-- what follows the path of a file: its directory, its time and its size
unfoldable pub file_numbers : AttrValue → List ℕ → ℕ → Read FileEntry
file_numbers path bytes at = do
  directory ← uleb bytes at
  time ← uleb bytes directory.1
  size ← uleb bytes time.1
  Some (record { path = path; directory = directory.0 }, size.1)

-- a file, also one that a program defines
unfoldable pub file_at : List ℕ → ℕ → Read FileEntry
file_at bytes at = do
  path ← zero_ended bytes at
  file_numbers (text_place at path.0) bytes path.1

-- what follows the path of an entry
unfoldable pub entry_behind : Kind → AttrValue → List ℕ → ℕ → Read FileEntry
entry_behind Directories path bytes at = Some (record { path = path; directory = 0 }, at)
entry_behind Files path bytes at = file_numbers path bytes at

-- After those so far, the entries up to an empty path; at most n.
unfoldable pub listed_in : Kind → ℕ → List FileEntry → List ℕ → ℕ → Read (List FileEntry)
listed_in kind zero so_far bytes at = None
listed_in kind (suc n) so_far bytes at = do
  path ← zero_ended bytes at
  if length path.0 == 0 then Some (so_far, path.1) else (do
    entry ← entry_behind kind (text_place at path.0) bytes path.1
    listed_in kind n (so_far ++ entry.0 ∷ []) bytes entry.1)

-- each entry takes a byte at least
unfoldable pub listed_at : Kind → List ℕ → ℕ → Read (List FileEntry)
listed_at kind bytes at = listed_in kind (length bytes) [] bytes at

-- the directories, then the files
unfoldable pub listed_paths : List ℕ → ℕ → Option Paths
listed_paths bytes at = do
  directories ← listed_at Directories bytes at
  files ← listed_at Files bytes directories.1
  Some (record { directories = directories.0; files = files.0 })

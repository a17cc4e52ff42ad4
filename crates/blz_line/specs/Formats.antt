-- The tables of directories and files in version 5, whose entries have the forms that the table says (DWARF 5 sections
-- 6.2.4 and 6.2.4.1).
use Rattle.std.specs.Prelude.{ℕ, zero, suc, ◌||◌, List, [], ◌∷◌, ◌++◌, count_by, Option, Some, None, unwrap_or, ◌==◌, if◌then◌else◌}
use Rattle.blz_constants.specs.declared.dwarf.TheConstants as dwarf
use Rattle.blz_model.specs.Reads.{Read, ◌>>=◌}
use Rattle.blz_model.specs.LebNumbers.{uleb}
use Rattle.blz_bytes.specs.Pieces.{byte}
use Rattle.blz_info.specs.Contents.{Contents}
use Rattle.blz_info.specs.Forms.{form_value, udata}
use Rattle.blz_info.specs.declared.encoding.Encoding.{Encoding}
use Rattle.blz_info.specs.declared.text.StrBase.{StrBase}
use Rattle.blz_info.specs.declared.text.StrPart.TheVariants.{Line}
use Rattle.blz_info.specs.declared.forms.value.AttrValue.{AttrValue}
use Rattle.blz_info.specs.declared.forms.value.AttrValue.TheVariants.{Other}
use Rattle.blz_line.specs.declared.paths.FileEntry.{FileEntry}
use Rattle.blz_line.specs.declared.paths.Paths.{Paths}
use Rattle.blz_line.specs.declared.formats.EntryFormat.{EntryFormat}

-- a content and a form
unfoldable pub format_at : List ℕ → ℕ → Read EntryFormat
format_at bytes at = do
  content ← uleb bytes at
  form ← uleb bytes content.1
  Some (record { content = content.0; form = form.0 }, form.1)

-- after those so far, n formats
unfoldable pub formats_in : ℕ → List EntryFormat → List ℕ → ℕ → Read (List EntryFormat)
formats_in zero so_far bytes at = Some (so_far, at)
formats_in (suc n) so_far bytes at = do
  format ← format_at bytes at
  formats_in n (so_far ++ format.0 ∷ []) bytes format.1

-- the formats of a table: their number in one byte, and as many formats
unfoldable pub formats_at : List ℕ → ℕ → Read (List EntryFormat)
formats_at bytes at = do
  count ← byte bytes at
  formats_in count.0 [] bytes count.1

-- before its values are read
abbrev pub blank_entry : FileEntry
blank_entry = record { path = Other; directory = 0 }

-- an entry with one more value: a path, a directory that is a number, or another content, which is dropped
abbrev pub with_content : ℕ → AttrValue → FileEntry → FileEntry
with_content content value entry =
    if content == dwarf.DW_LNCT_path then record entry { path = value } else (
    if content == dwarf.DW_LNCT_directory_index then record entry { directory = unwrap_or (udata value) entry.directory } else
    entry)

-- texts that stand in the table itself
abbrev pub line_texts : StrBase
line_texts = record { part = Line; start = 0 }

-- the values of the formats that are left
unfoldable pub values_in : Encoding → Contents → List EntryFormat → FileEntry → ℕ → Read FileEntry
values_in e s [] entry at = Some (entry, at)
values_in e s (f ∷ formats) entry at = do
  value ← form_value f.form e line_texts s at
  values_in e s formats (with_content f.content value.0 entry) value.1

-- an entry: a value of each format, in their order
unfoldable pub entry_at : Encoding → Contents → List EntryFormat → ℕ → Read FileEntry
entry_at e s formats at = values_in e s formats blank_entry at

-- after those so far, n entries
unfoldable pub entries_in : Encoding → Contents → List EntryFormat → ℕ → List FileEntry → ℕ → Read (List FileEntry)
entries_in e s formats zero so_far at = Some (so_far, at)
entries_in e s formats (suc n) so_far at = do
  entry ← entry_at e s formats at
  entries_in e s formats n (so_far ++ entry.0 ∷ []) entry.1

-- how many paths an entry has
abbrev pub path_count : List EntryFormat → ℕ
path_count formats = count_by (λ f. f.content == dwarf.DW_LNCT_path) formats

-- a table: its formats, the number of its entries, and these, each of which has one path
unfoldable pub formatted_at : Encoding → Contents → ℕ → Read (List FileEntry)
formatted_at e s at = do
  formats ← formats_at s.bytes at
  count ← uleb s.bytes formats.1
  if count.0 == 0 || path_count formats.0 == 1 then entries_in e s formats.0 count.0 [] count.1 else None

-- the table of directories, then that of files
unfoldable pub formatted_paths : Encoding → Contents → ℕ → Option Paths
formatted_paths e s at = do
  directories ← formatted_at e s at
  files ← formatted_at e s directories.1
  Some (record { directories = directories.0; files = files.0 })

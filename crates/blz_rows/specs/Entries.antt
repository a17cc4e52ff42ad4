-- The rows of all units as entries: the path of the source file, the line, and the addresses from the row's own up to the
-- next row's, or to the end of its sequence (DWARF 5 section 6.2).
use Rattle.std.specs.Prelude.{ℕ, zero, suc, ◌+◌, List, [], ◌∷◌, ◌++◌, length, slice_get, Option, Some, None}
use Rattle.blz_model.specs.Part.{Part, Good, ◌>>=◌}
use Rattle.blz_bytes.specs.Joined.{joined}
use Rattle.blz_info.specs.Marks.{or_invalid}
use Rattle.blz_info.specs.declared.text.Texts.{Texts}
use Rattle.blz_line.specs.Sequences.{Sequence}
use Rattle.blz_line.specs.declared.row.LineRow.{LineRow}
use Rattle.blz_resolver.specs.Books.{Book, frame_of}
use Rattle.blz_resolver.specs.FileTexts.{texts_of}
use Rattle.blz_resolver.specs.Images.{ImageSet}
use Rattle.blz_resolver.specs.UnitRowsRead.{Rows, rows_in}

pub record Entry : Type 0 where
  pub path : List ℕ
  pub line : ℕ
  pub address : ℕ
  pub end : ℕ

-- the path of a file in a directory
abbrev pub path_of : List ℕ × List ℕ → List ℕ
path_of file = joined file.0 file.1

-- where a row ends: at the row behind it, and the last one with its sequence
abbrev pub end_before : ℕ → List LineRow → ℕ
end_before end [] = end
end_before end (next ∷ rest) = next.address

-- a row in its file
abbrev pub entry_in : List ℕ × List ℕ → LineRow → ℕ → Entry
entry_in file row end = record { path = path_of file; line = row.line; address = row.address; end = end }

-- the entries of one part, and behind them those of another
abbrev pub both : Part (List Entry) → Part (List Entry) → Part (List Entry)
both first second = first >>= λ entries. second >>= λ others. Good (entries ++ others)

-- the entry of a row up to its end; the file of the row has to be there
unfoldable pub row_entry : List (List ℕ × List ℕ) → LineRow → ℕ → Part (List Entry)
row_entry files row end = do
  file ← or_invalid (slice_get files row.file_index)
  Good (entry_in file row end ∷ [])

-- the rows of a sequence that ends there
unfoldable pub row_entries : List (List ℕ × List ℕ) → ℕ → List LineRow → Part (List Entry)
row_entries files end [] = Good []
row_entries files end (row ∷ rest) = both (row_entry files row (end_before end rest)) (row_entries files end rest)

-- the sequences, in the order of the program
unfoldable pub sequence_entries : List (List ℕ × List ℕ) → List Sequence → Part (List Entry)
sequence_entries files [] = Good []
sequence_entries files (sequence ∷ rest) = both (row_entries files sequence.end sequence.rows) (sequence_entries files rest)

-- the lines of a unit; one without a line program has no entries
abbrev pub unit_entries : Option Rows → Part (List Entry)
unit_entries None = Good []
unit_entries (Some rows) = sequence_entries rows.files rows.sequences

-- the same, where the lines may be a mark
abbrev pub entries_in : Part (Option Rows) → Part (List Entry)
entries_in rows = rows >>= unit_entries

-- of n units from a number on; the lines of each have to have a value
unfoldable pub entries_from : Texts → Book → ℕ → ℕ → Part (List Entry)
entries_from texts book unit zero = Good []
entries_from texts book unit (suc n) = both (entries_in (rows_in texts book unit)) (entries_from texts book (unit + 1) n)

-- all units, in their order
unfoldable pub book_entries : Book → Part (List Entry)
book_entries book = entries_from (texts_of book.files) book 0 (length book.table.kept)

-- the entries of a bundle, behind its frame
unfoldable pub entries_of : ImageSet → Part (List Entry)
entries_of images = frame_of images >>= book_entries

-- What holds between the rows of a line, the next line, and the line of an address.
use Rattle.std.specs.Prelude.{◌≡◌, ℕ, ◌<◌, ◌≤◌, true, List, ◌∷◌, ◌++◌, slice_get, Option, Some, None}
use Rattle.blz_model.specs.Answers.{Site}
use Rattle.blz_model.specs.Part.{Part, Good}
use Rattle.blz_line.specs.Lookups.{best_sequence}
use Rattle.blz_line.specs.Sequences.{Sequence}
use Rattle.blz_units.specs.UnitSites.{line_in}
use Rattle.blz_units.specs.UnitTables.{announcing}
use Rattle.blz_resolver.specs.Books.{Book}
use Rattle.blz_resolver.specs.FileTexts.{texts_of}
use Rattle.blz_resolver.specs.UnitRowsRead.{Rows, rows_in}
use Rattle.blz_rows.specs.Entries.{Entry, row_entries}
use Rattle.blz_rows.specs.Matching.{matches}

-- ---- the line of an entry's address

-- an element of a list
pub record IsIn {A : Type 0} (x : A) (xs : List A) : Type 0 where
  pub index : ℕ
  pub there : slice_get xs index ≡ Some x

-- the entry of a row of a sequence, with the lines of its unit
pub record IsEntryOf (book : Book) (unit : ℕ) (sequence : Sequence) (entry : Entry) : Type 0 where
  pub rows : Rows
  pub read : rows_in (texts_of book.files) book unit ≡ Good (Some rows)
  pub listed : IsIn sequence rows.sequences
  pub entries : List Entry
  pub given : row_entries rows.files sequence.end sequence.rows ≡ Good entries
  pub among : IsIn entry entries

-- it is that of some row
pub record HasRow (book : Book) (entry : Entry) : Type 0 where
  pub unit : ℕ
  pub sequence : Sequence
  pub is_entry : IsEntryOf book unit sequence entry

-- The line of an address is looked up in that sequence of that unit: of the units that announce the address, those before
-- it have no line there, and of its sequences that one is the best.
pub record IsTakenFrom (book : Book) (addr unit : ℕ) (sequence : Sequence) : Type 0 where
  pub before : List ℕ
  pub after : List ℕ
  pub announced : announcing book.table addr ≡ before ++ unit ∷ after
  pub passed : (k : ℕ) → IsIn k before → line_in (texts_of book.files) book.files book.table addr k ≡ Good None
  pub rows : Rows
  pub read : rows_in (texts_of book.files) book unit ≡ Good (Some rows)
  pub best : best_sequence rows.sequences addr ≡ Some sequence

-- a place in a source, with that line
pub record HasLine (part : Part (Option Site)) (number : ℕ) : Type 0 where
  pub site : Site
  pub gives : part ≡ Good (Some site)
  pub line : site.line ≡ Some number

-- ---- the next line

-- a line of an entry of the file, which is not below, and none of those is less
pub record IsLeastFrom (file : List ℕ) (line : ℕ) (entries : List Entry) (next : ℕ) : Type 0 where
  pub from : line ≤ next
  pub entry : Entry
  pub among : IsIn entry entries
  pub meant : matches entry.path file ≡ true
  pub has : entry.line ≡ next
  pub least : (other : Entry) → IsIn other entries → matches other.path file ≡ true → line ≤ other.line → next ≤ other.line

-- None where each entry of the file has a line below
abbrev pub IsNext : List ℕ → ℕ → List Entry → Option ℕ → Type 0
IsNext file line entries None = (entry : Entry) → IsIn entry entries → matches entry.path file ≡ true → entry.line < line
IsNext file line entries (Some next) = IsLeastFrom file line entries next

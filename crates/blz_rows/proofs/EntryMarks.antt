-- What is broken in the lines of a bundle has a kind of its format.
use Rattle.std.proofs.Common.{ℕ, zero, suc, ◌+◌, List, [], ◌∷◌, ◌++◌, Option, Some, None}
use Rattle.blz_model.specs.Part.{Part}
use Rattle.blz_info.specs.declared.text.Texts.{Texts}
use Rattle.blz_resolver.specs.Images.{ImageSet}
use Rattle.blz_line.specs.Sequences.{Sequence}
use Rattle.blz_line.specs.declared.row.LineRow.{LineRow}
use Rattle.blz_resolver.specs.Books.{Book, frame_of}
use Rattle.blz_resolver.specs.FileTexts.{texts_of}
use Rattle.blz_resolver.specs.UnitRowsRead.{Rows, rows_in}
use Rattle.blz_resolver.proofs.DebugMarks.{marks_frame}
use Rattle.blz_resolver.proofs.FormatMarks.{Marks, marks_good, marks_bind, marks_or}
use Rattle.blz_rows.specs.Asking.{found_for}
use Rattle.blz_rows.specs.Entries.{Entry, both, unit_entries, row_entry, row_entries, sequence_entries, entries_from, book_entries, entries_of}
use Rattle.blz_rows.specs.declared.asked.AskedLines.{AskedLines}

marks_both : (p q : Part (List Entry)) → Marks p → Marks q → Marks (both p q)
marks_both p q first second = marks_bind p _ first (λ xs. marks_bind q _ second (λ ys. marks_good (xs ++ ys)))

marks_row : (files : List (List ℕ × List ℕ)) (row : LineRow) (end : ℕ) → Marks (row_entry files row end)
unfolding row_entry
marks_row files row end = marks_bind _ _ (marks_or _ _ tt) (λ file. marks_good _)

marks_rows : (files : List (List ℕ × List ℕ)) (end : ℕ) (rows : List LineRow) → Marks (row_entries files end rows)
unfolding row_entries
marks_rows files end [] = marks_good []
marks_rows files end (row ∷ rest) = marks_both _ _ (marks_row files row _) (marks_rows files end rest)

marks_sequences : (files : List (List ℕ × List ℕ)) (sequences : List Sequence) → Marks (sequence_entries files sequences)
unfolding sequence_entries
marks_sequences files [] = marks_good []
marks_sequences files (s ∷ rest) = marks_both _ _ (marks_rows files s.end s.rows) (marks_sequences files rest)

marks_unit : (rows : Option Rows) → Marks (unit_entries rows)
marks_unit None = marks_good []
marks_unit (Some rows) = marks_sequences rows.files rows.sequences

marks_lines : (texts : Texts) (book : Book) (unit : ℕ) → Marks (rows_in texts book unit)
unfolding rows_in
marks_lines texts book unit = marks_bind _ _ (marks_or _ _ tt) (λ lines. marks_good _)

marks_units : (texts : Texts) (book : Book) (unit n : ℕ) → Marks (entries_from texts book unit n)
unfolding entries_from
marks_units texts book unit zero = marks_good []
marks_units texts book unit (suc n) =
    marks_both _ _ (marks_bind (rows_in texts book unit) unit_entries (marks_lines texts book unit) marks_unit) (marks_units texts book (unit + 1) n)

marks_book : (book : Book) → Marks (book_entries book)
unfolding book_entries
marks_book book = marks_units (texts_of book.files) book 0 _

marks_entries : (images : ImageSet) → Marks (entries_of images)
unfolding entries_of
marks_entries images = marks_bind (frame_of images) book_entries (marks_frame images) marks_book

pub marks_found : (images : ImageSet) (file : List ℕ) (lines : AskedLines) → Marks (found_for images file lines)
unfolding found_for
marks_found images file lines = marks_bind (entries_of images) _ (marks_entries images) (λ entries. marks_good _)

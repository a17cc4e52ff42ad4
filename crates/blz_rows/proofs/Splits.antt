-- The entries of rows, sequences and units, the first of them apart.
use Rattle.std.proofs.Common.{◌≡◌, ℕ, suc, ◌+◌, ◌-◌, ◌<◌, ◌≤◌, true, List, [], length, drop, get_or, refl, ap, ◌∙◌, arith}
use Rattle.std.proofs.lemmas.List.{at_drop_more, at_drop_all}
use Rattle.blz_model.specs.Part.{Part, Good, Broken, ◌>>=◌}
use Rattle.blz_resolver.specs.Images.{ImageSet}
use Rattle.blz_line.specs.Sequences.{Sequence}
use Rattle.blz_line.specs.declared.row.LineRow.{LineRow}
use Rattle.blz_resolver.specs.Books.{Book, frame_of}
use Rattle.blz_resolver.specs.FileTexts.{texts_of}
use Rattle.blz_resolver.specs.UnitRowsRead.{rows_in, rows_of, unit_count_of, count_of}
use Rattle.blz_rows.specs.Entries.{Entry, both, end_before, row_entry, row_entries, sequence_entries, entries_in, entries_from, book_entries, entries_of}

pub rows_split : (files : List (List ℕ × List ℕ)) (end : ℕ) (rows : List LineRow) (i : ℕ) (d : LineRow) → i < length rows
    → row_entries files end (drop i rows) ≡ both (row_entry files (get_or rows i d) (end_before end (drop (i + 1) rows))) (row_entries files end (drop (i + 1) rows))
unfolding row_entries
rows_split files end rows i d lt = at_drop_more (row_entries files end) rows i d lt

pub rows_over : (files : List (List ℕ × List ℕ)) (end : ℕ) (rows : List LineRow) (i : ℕ) → length rows ≤ i → row_entries files end (drop i rows) ≡ Good []
unfolding row_entries
rows_over files end rows i le = at_drop_all (row_entries files end) rows i le

pub sequences_split : (files : List (List ℕ × List ℕ)) (sequences : List Sequence) (i : ℕ) (d : Sequence) → i < length sequences
    → sequence_entries files (drop i sequences) ≡ both (row_entries files (get_or sequences i d).end (get_or sequences i d).rows) (sequence_entries files (drop (i + 1) sequences))
unfolding sequence_entries
sequences_split files sequences i d lt = at_drop_more (sequence_entries files) sequences i d lt

pub sequences_over : (files : List (List ℕ × List ℕ)) (sequences : List Sequence) (i : ℕ) → length sequences ≤ i → sequence_entries files (drop i sequences) ≡ Good []
unfolding sequence_entries
sequences_over files sequences i le = at_drop_all (sequence_entries files) sequences i le

-- ---- units

-- the entries of n units from a number on, behind the frame
abbrev pub units_left : ImageSet → ℕ → ℕ → Part (List Entry)
units_left images unit n = frame_of images >>= λ book. entries_from (texts_of book.files) book unit n

unit_apart : (frame : Part Book) (unit n : ℕ)
    → (frame >>= λ book. entries_from (texts_of book.files) book unit (suc n))
    ≡ both (entries_in (frame >>= λ book. rows_in (texts_of book.files) book unit)) (frame >>= λ book. entries_from (texts_of book.files) book (unit + 1) n)
unfolding entries_from
unit_apart (Good book) unit n = refl
unit_apart (Broken k) unit n = refl

pub units_split : (images : ImageSet) (unit count : ℕ) → unit < count
    → units_left images unit (count - unit) ≡ both (entries_in (rows_of images true unit)) (units_left images (unit + 1) (count - (unit + 1)))
unfolding rows_of
units_split images unit count lt =
    let e : count - unit ≡ suc (count - (unit + 1)) = omega arith in
    ap (units_left images unit) e ∙ unit_apart (frame_of images) unit (count - (unit + 1))

no_unit : (frame : Part Book) (book : Book) (unit : ℕ) → frame ≡ Good book → (frame >>= λ book. entries_from (texts_of book.files) book unit 0) ≡ Good []
unfolding entries_from
no_unit frame book unit e = rw e refl

abbrev is_read : Part Book → Part (Unit {0})
is_read p = p >>= λ book. Good tt

read_book : (frame : Part Book) → is_read frame ≡ Good tt → (book : Book) × (frame ≡ Good book)
read_book (Good book) e = (book, refl)
read_book (Broken k) e = absurd cc

pub units_over : (images : ImageSet) (unit n : ℕ) → is_read (frame_of images) ≡ Good tt → n ≡ 0 → units_left images unit n ≡ Good []
units_over images unit n read none =
    let book = read_book (frame_of images) read in
    ap (units_left images unit) none ∙ no_unit (frame_of images) book.0 unit book.1

all_left : (frame : Part Book) → (frame >>= λ book. entries_from (texts_of book.files) book 0 (count_of frame)) ≡ (frame >>= book_entries)
unfolding book_entries
all_left (Good book) = refl
all_left (Broken k) = refl

pub units_all : (images : ImageSet) → units_left images 0 (unit_count_of images true) ≡ entries_of images
unfolding entries_of
units_all images = all_left (frame_of images)

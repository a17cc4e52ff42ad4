-- One step of the loops over rows, sequences and units.
use Rattle.std.proofs.Common.{◌≡◌, ℕ, ◌+◌, ◌-◌, ◌<◌, Bool, true, List, length, drop, get_or, refl, ap, subst, ◌∙◌, arith}
use Rattle.blz_error.specs.Texts.{Bytes}
use Rattle.blz_error.specs.declared.kind.ErrorKind.{ErrorKind}
use Rattle.blz_model.specs.Part.{Part, Good, Broken, ◌>>=◌, Fails}
use Rattle.blz_resolver.specs.Images.{ImageSet}
use Rattle.blz_line.specs.Sequences.{Sequence}
use Rattle.blz_line.specs.declared.row.LineRow.{LineRow}
use Rattle.blz_resolver.specs.Books.{Book, frame_of, framed}
use Rattle.blz_resolver.specs.UnitRowsRead.{rows_of, unit_count_of}
use Rattle.blz_rows.specs.Entries.{book_entries, end_before, entries_in, entries_of, row_entry, row_entries, sequence_entries}
use Rattle.blz_rows.proofs.Splits.{rows_split, sequences_split, units_all, units_left, units_split}
use Rattle.blz_listings.specs.Shown.{Shown, after, nothing}
use Rattle.blz_listings.specs.declared.wanted.Wanted.{Wanted}
use Rattle.blz_listings.proofs.Gathering.{goes_on, breaks}

abbrev Files : Type 0
Files = List (Bytes × Bytes)

-- ---- rows

pub row_on : (shown new : Shown) (files : Files) (end till : ℕ) (rows : List LineRow) (i : ℕ) (d : LineRow) (whole : Part Shown)
    → i < length rows → till ≡ end_before end (drop (i + 1) rows) → after shown (row_entry files (get_or rows i d) till) ≡ Good new
    → after shown (row_entries files end (drop i rows)) ≡ whole → after new (row_entries files end (drop (i + 1) rows)) ≡ whole
row_on shown new files end till rows i d whole lt ends first so_far =
    let P : ℕ → Type 0 = λ e. after shown (row_entry files (get_or rows i d) e) ≡ Good new in
    goes_on shown new _ _ _ whole (rows_split files end rows i d lt) (subst P ends first) so_far

pub row_break : (k : ErrorKind) (shown : Shown) (files : Files) (end till : ℕ) (rows : List LineRow) (i : ℕ) (d : LineRow) (whole : Part Shown)
    → i < length rows → till ≡ end_before end (drop (i + 1) rows) → Fails k (after shown (row_entry files (get_or rows i d) till))
    → after shown (row_entries files end (drop i rows)) ≡ whole → Fails k whole
row_break k shown files end till rows i d whole lt ends first so_far =
    let P : ℕ → Type 0 = λ e. Fails k (after shown (row_entry files (get_or rows i d) e)) in
    breaks k shown _ _ _ whole (rows_split files end rows i d lt) (subst P ends first) so_far

-- the end of a sequence, by its parts
pub ends_till : (till : ℕ) (rest : List LineRow) {s t : Sequence} → s ≡ t → till ≡ end_before s.end rest → till ≡ end_before t.end rest
ends_till till rest {s} {t} same e = let P : Sequence → Type 0 = λ s. till ≡ end_before s.end rest in subst P same e

-- ---- sequences

pub sequence_on : (shown new : Shown) (files : Files) (sequences : List Sequence) (i : ℕ) (s : Sequence) (whole : Part Shown)
    → i < length sequences → s ≡ get_or sequences i s → after shown (row_entries files s.end s.rows) ≡ Good new
    → after shown (sequence_entries files (drop i sequences)) ≡ whole → after new (sequence_entries files (drop (i + 1) sequences)) ≡ whole
sequence_on shown new files sequences i s whole lt at first so_far =
    let P : Sequence → Type 0 = λ s. after shown (row_entries files s.end s.rows) ≡ Good new in
    goes_on shown new _ _ _ whole (sequences_split files sequences i s lt) (subst P at first) so_far

pub sequence_break : (k : ErrorKind) (shown : Shown) (files : Files) (sequences : List Sequence) (i : ℕ) (s : Sequence) (whole : Part Shown)
    → i < length sequences → s ≡ get_or sequences i s → Fails k (after shown (row_entries files s.end s.rows))
    → after shown (sequence_entries files (drop i sequences)) ≡ whole → Fails k whole
sequence_break k shown files sequences i s whole lt at first so_far =
    let P : Sequence → Type 0 = λ s. Fails k (after shown (row_entries files s.end s.rows)) in
    breaks k shown _ _ _ whole (sequences_split files sequences i s lt) (subst P at first) so_far

-- ---- units

pub unit_on : (shown new : Shown) (old images : ImageSet) (has : Bool) (unit count : ℕ) (whole : Part Shown)
    → old ≡ images → has ≡ true → unit < count → after shown (entries_in (rows_of old has unit)) ≡ Good new
    → after shown (units_left images unit (count - unit)) ≡ whole → after new (units_left images (unit + 1) (count - (unit + 1))) ≡ whole
unit_on shown new old images has unit count whole same is lt first so_far =
    let P : ImageSet → Type 0 = λ i. after shown (entries_in (rows_of i has unit)) ≡ Good new in
    let Q : Bool → Type 0 = λ h. after shown (entries_in (rows_of images h unit)) ≡ Good new in
    goes_on shown new _ _ _ whole (units_split images unit count lt) (subst Q is (subst P same first)) so_far

pub unit_break : (k : ErrorKind) (shown : Shown) (old images : ImageSet) (has : Bool) (unit count : ℕ) (whole : Part Shown)
    → old ≡ images → has ≡ true → unit < count → Fails k (after shown (entries_in (rows_of old has unit)))
    → after shown (units_left images unit (count - unit)) ≡ whole → Fails k whole
unit_break k shown old images has unit count whole same is lt first so_far =
    let P : ImageSet → Type 0 = λ i. Fails k (after shown (entries_in (rows_of i has unit))) in
    let Q : Bool → Type 0 = λ h. Fails k (after shown (entries_in (rows_of images h unit))) in
    breaks k shown _ _ _ whole (units_split images unit count lt) (subst Q is (subst P same first)) so_far

-- the frame is a mark
abbrev is_read : Part Book → Part (Unit {0})
is_read frame = frame >>= λ book. Good tt

broken_frame : (k : ErrorKind) (frame : Part Book) (shown : Shown) → is_read frame ≡ Broken k → after shown (frame >>= book_entries) ≡ Broken k
broken_frame k (Good book) shown e = absurd cc
broken_frame k (Broken other) shown e = let same : other ≡ k = cc in rw same refl

pub frame_break : (k : ErrorKind) (images : ImageSet) (shown : Shown) → Fails k (framed images) → Fails k (after shown (entries_of images))
unfolding entries_of
frame_break k images shown fails memory = broken_frame k (frame_of images) shown (fails memory)

-- nothing is put in yet, and all units are left
pub units_begin : (images : ImageSet) (has : Bool) (count : ℕ) (shown : Shown) (wanted : Wanted)
    → shown ≡ nothing wanted → has ≡ true → count ≡ unit_count_of images has → after shown (units_left images 0 (count - 0)) ≡ after (nothing wanted) (entries_of images)
units_begin images has count shown wanted none is counts =
    let all : count - 0 ≡ count = omega arith in
    ap (λ (s : Shown). after s (units_left images 0 (count - 0))) none
    ∙ ap (λ (n : ℕ). after (nothing wanted) (units_left images 0 n)) (all ∙ counts ∙ ap (unit_count_of images) is)
    ∙ ap (after (nothing wanted)) (units_all images)

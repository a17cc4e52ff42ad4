-- One step of the loops over rows, sequences and units.
use Rattle.std.proofs.Common.{◌≡◌, ℕ, ◌+◌, ◌-◌, ◌<◌, Bool, true, List, [], length, drop, get_or, refl, ap, subst, ◌∙◌, arith}
use Rattle.blz_error.specs.declared.kind.ErrorKind.{ErrorKind}
use Rattle.blz_model.specs.Part.{Part, Good, Broken, ◌>>=◌, Fails}
use Rattle.blz_resolver.specs.Images.{ImageSet}
use Rattle.blz_line.specs.Sequences.{Sequence}
use Rattle.blz_line.specs.declared.row.LineRow.{LineRow}
use Rattle.blz_resolver.specs.Books.{Book, frame_of, framed}
use Rattle.blz_resolver.specs.UnitRowsRead.{rows_of, unit_count_of}
use Rattle.blz_rows.specs.Asking.{behind}
use Rattle.blz_rows.specs.Entries.{book_entries, end_before, entries_in, entries_of, row_entry, row_entries, sequence_entries}
use Rattle.blz_rows.specs.Judging.{JudgedFiles}
use Rattle.blz_rows.specs.declared.asked.AskedLines.{AskedLines}
use Rattle.blz_rows.specs.declared.found.FoundRow.{FoundRow}
use Rattle.blz_rows.proofs.Gathering.{goes_on, breaks}
use Rattle.blz_rows.proofs.Splits.{rows_split, sequences_split, units_all, units_left, units_split}

-- ---- rows

abbrev RowGives : List FoundRow → AskedLines → JudgedFiles → LineRow → ℕ → Part (List FoundRow)
RowGives found lines files row end = behind found files.name lines (row_entry files.files row end)

abbrev LeftRows : List FoundRow → AskedLines → JudgedFiles → ℕ → List LineRow → Part (List FoundRow)
LeftRows found lines files end rows = behind found files.name lines (row_entries files.files end rows)

pub row_on : (found new : List FoundRow) (lines : AskedLines) (old files : JudgedFiles) (end till : ℕ) (rows : List LineRow) (i : ℕ) (d : LineRow) (whole : Part (List FoundRow))
    → old ≡ files → i < length rows → till ≡ end_before end (drop (i + 1) rows) → RowGives found lines old (get_or rows i d) till ≡ Good new
    → LeftRows found lines files end (drop i rows) ≡ whole → LeftRows new lines files end (drop (i + 1) rows) ≡ whole
row_on found new lines old files end till rows i d whole same lt ends first so_far =
    let P : JudgedFiles → Type 0 = λ j. RowGives found lines j (get_or rows i d) till ≡ Good new in
    let Q : ℕ → Type 0 = λ e. RowGives found lines files (get_or rows i d) e ≡ Good new in
    goes_on found new files.name lines _ _ _ whole (rows_split files.files end rows i d lt) (subst Q ends (subst P same first)) so_far

pub row_break : (k : ErrorKind) (found : List FoundRow) (lines : AskedLines) (old files : JudgedFiles) (end till : ℕ) (rows : List LineRow) (i : ℕ) (d : LineRow) (whole : Part (List FoundRow))
    → old ≡ files → i < length rows → till ≡ end_before end (drop (i + 1) rows) → Fails k (RowGives found lines old (get_or rows i d) till)
    → LeftRows found lines files end (drop i rows) ≡ whole → Fails k whole
row_break k found lines old files end till rows i d whole same lt ends first so_far =
    let P : JudgedFiles → Type 0 = λ j. Fails k (RowGives found lines j (get_or rows i d) till) in
    let Q : ℕ → Type 0 = λ e. Fails k (RowGives found lines files (get_or rows i d) e) in
    breaks k found files.name lines _ _ _ whole (rows_split files.files end rows i d lt) (subst Q ends (subst P same first)) so_far

-- the end of a sequence, by its parts
pub ends_till : (till : ℕ) (rest : List LineRow) {s t : Sequence} → s ≡ t → till ≡ end_before s.end rest → till ≡ end_before t.end rest
ends_till till rest {s} {t} same e = let P : Sequence → Type 0 = λ s. till ≡ end_before s.end rest in subst P same e

-- ---- sequences

abbrev LeftSequences : List FoundRow → AskedLines → JudgedFiles → List Sequence → Part (List FoundRow)
LeftSequences found lines files sequences = behind found files.name lines (sequence_entries files.files sequences)

pub sequence_on : (found new : List FoundRow) (lines : AskedLines) (old files : JudgedFiles) (sequences : List Sequence) (i : ℕ) (s : Sequence) (whole : Part (List FoundRow))
    → old ≡ files → i < length sequences → s ≡ get_or sequences i s → LeftRows found lines old s.end s.rows ≡ Good new
    → LeftSequences found lines files (drop i sequences) ≡ whole → LeftSequences new lines files (drop (i + 1) sequences) ≡ whole
sequence_on found new lines old files sequences i s whole same lt at first so_far =
    let P : JudgedFiles → Type 0 = λ j. LeftRows found lines j s.end s.rows ≡ Good new in
    let Q : Sequence → Type 0 = λ s. LeftRows found lines files s.end s.rows ≡ Good new in
    goes_on found new files.name lines _ _ _ whole (sequences_split files.files sequences i s lt) (subst Q at (subst P same first)) so_far

pub sequence_break : (k : ErrorKind) (found : List FoundRow) (lines : AskedLines) (old files : JudgedFiles) (sequences : List Sequence) (i : ℕ) (s : Sequence) (whole : Part (List FoundRow))
    → old ≡ files → i < length sequences → s ≡ get_or sequences i s → Fails k (LeftRows found lines old s.end s.rows)
    → LeftSequences found lines files (drop i sequences) ≡ whole → Fails k whole
sequence_break k found lines old files sequences i s whole same lt at first so_far =
    let P : JudgedFiles → Type 0 = λ j. Fails k (LeftRows found lines j s.end s.rows) in
    let Q : Sequence → Type 0 = λ s. Fails k (LeftRows found lines files s.end s.rows) in
    breaks k found files.name lines _ _ _ whole (sequences_split files.files sequences i s lt) (subst Q at (subst P same first)) so_far

-- ---- units

abbrev UnitGives : List FoundRow → List ℕ → AskedLines → ImageSet → Bool → ℕ → Part (List FoundRow)
UnitGives found file lines images has unit = behind found file lines (entries_in (rows_of images has unit))

abbrev LeftUnits : List FoundRow → List ℕ → AskedLines → ImageSet → ℕ → ℕ → Part (List FoundRow)
LeftUnits found file lines images unit n = behind found file lines (units_left images unit n)

pub unit_on : (found new : List FoundRow) (file : List ℕ) (lines : AskedLines) (old images : ImageSet) (has : Bool) (unit count : ℕ) (whole : Part (List FoundRow))
    → old ≡ images → has ≡ true → unit < count → UnitGives found file lines old has unit ≡ Good new
    → LeftUnits found file lines images unit (count - unit) ≡ whole → LeftUnits new file lines images (unit + 1) (count - (unit + 1)) ≡ whole
unit_on found new file lines old images has unit count whole same is lt first so_far =
    let P : ImageSet → Type 0 = λ i. UnitGives found file lines i has unit ≡ Good new in
    let Q : Bool → Type 0 = λ h. UnitGives found file lines images h unit ≡ Good new in
    goes_on found new file lines _ _ _ whole (units_split images unit count lt) (subst Q is (subst P same first)) so_far

pub unit_break : (k : ErrorKind) (found : List FoundRow) (file : List ℕ) (lines : AskedLines) (old images : ImageSet) (has : Bool) (unit count : ℕ) (whole : Part (List FoundRow))
    → old ≡ images → has ≡ true → unit < count → Fails k (UnitGives found file lines old has unit)
    → LeftUnits found file lines images unit (count - unit) ≡ whole → Fails k whole
unit_break k found file lines old images has unit count whole same is lt first so_far =
    let P : ImageSet → Type 0 = λ i. Fails k (UnitGives found file lines i has unit) in
    let Q : Bool → Type 0 = λ h. Fails k (UnitGives found file lines images h unit) in
    breaks k found file lines _ _ _ whole (units_split images unit count lt) (subst Q is (subst P same first)) so_far

-- the frame is a mark
abbrev is_read : Part Book → Part (Unit {0})
is_read frame = frame >>= λ book. Good tt

broken_frame : (k : ErrorKind) (frame : Part Book) (file : List ℕ) (lines : AskedLines) → is_read frame ≡ Broken k → behind [] file lines (frame >>= book_entries) ≡ Broken k
broken_frame k (Good book) file lines e = absurd cc
broken_frame k (Broken other) file lines e = let same : other ≡ k = cc in rw same refl

pub frame_break : (k : ErrorKind) (images : ImageSet) (file : List ℕ) (lines : AskedLines) → Fails k (framed images) → Fails k (behind [] file lines (entries_of images))
unfolding entries_of
frame_break k images file lines fails memory = broken_frame k (frame_of images) file lines (fails memory)

-- nothing is gathered yet, and all units are left
pub units_begin : (images : ImageSet) (has : Bool) (count : ℕ) (found : List FoundRow) (file : List ℕ) (lines : AskedLines)
    → found ≡ [] → has ≡ true → count ≡ unit_count_of images has → LeftUnits found file lines images 0 (count - 0) ≡ behind [] file lines (entries_of images)
units_begin images has count found file lines none is counts =
    let all : count - 0 ≡ count = omega arith in
    ap (λ (l : List FoundRow). LeftUnits l file lines images 0 (count - 0)) none
    ∙ ap (LeftUnits [] file lines images 0) (all ∙ counts ∙ ap (unit_count_of images) is)
    ∙ ap (behind [] file lines) (units_all images)

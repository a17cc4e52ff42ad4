-- One row, by the verdict on its file.
use Rattle.std.proofs.Common.{◌≡◌, ℕ, Bool, true, false, cond, List, [], ◌∷◌, ◌++◌, Option, Some, None, refl, ap}
use Rattle.std.specs.List.{slice_get}
use Rattle.std.proofs.lemmas.List.{append-nil}
use Rattle.blz_error.specs.declared.kind.ErrorKind.TheVariants.{InvalidDwarf}
use Rattle.blz_model.specs.Part.{Part, Good, Broken, ◌>>=◌}
use Rattle.blz_info.specs.Marks.{or_invalid}
use Rattle.blz_line.specs.declared.row.LineRow.{LineRow}
use Rattle.blz_rows.specs.Asking.{asks, behind}
use Rattle.blz_rows.specs.Entries.{Entry, entry_in, path_of, row_entry}
use Rattle.blz_rows.specs.Judging.{verdict_of}
use Rattle.blz_rows.specs.Matching.{matches}
use Rattle.blz_rows.specs.declared.asked.AskedLines.{AskedLines}
use Rattle.blz_rows.specs.declared.found.FoundRow.{FoundRow}
use Rattle.blz_rows.specs.declared.verdict.Verdict.TheVariants.{Absent, Other, Meant}

abbrev entry_if : Option (List ℕ × List ℕ) → LineRow → ℕ → Part (List Entry)
entry_if file row end = or_invalid file >>= λ file. Good (entry_in file row end ∷ [])

is_there : (b : Bool) → Absent ≡ cond b Meant Other → ⊥
is_there true e = cc
is_there false e = cc

is_other : (b : Bool) → Other ≡ cond b Meant Other → b ≡ false
is_other true e = absurd cc
is_other false e = refl

is_meant : (b : Bool) → Meant ≡ cond b Meant Other → b ≡ true
is_meant true e = refl
is_meant false e = absurd cc

absent_if : (found : List FoundRow) (name : List ℕ) (lines : AskedLines) (file : Option (List ℕ × List ℕ)) (row : LineRow) (end : ℕ)
    → Absent ≡ verdict_of name file → behind found name lines (entry_if file row end) ≡ Broken InvalidDwarf
absent_if found name lines None row end e = refl
absent_if found name lines (Some file) row end e = absurd (is_there (matches (path_of file) name) e)

other_if : (found : List FoundRow) (name : List ℕ) (lines : AskedLines) (file : Option (List ℕ × List ℕ)) (row : LineRow) (end : ℕ)
    → Other ≡ verdict_of name file → behind found name lines (entry_if file row end) ≡ Good found
other_if found name lines None row end e = absurd cc
other_if found name lines (Some file) row end e =
    let no : matches (path_of file) name ≡ false = is_other (matches (path_of file) name) e in
    rw no (ap (λ (l : List FoundRow). Good l) (append-nil found))

meant_if : (found : List FoundRow) (name : List ℕ) (lines : AskedLines) (file : Option (List ℕ × List ℕ)) (row : LineRow) (end : ℕ)
    → Meant ≡ verdict_of name file → asks lines row.line ≡ true
    → behind found name lines (entry_if file row end) ≡ Good (found ++ record { line = row.line; place = record { address = row.address; end = end } } ∷ [])
meant_if found name lines None row end e asked = absurd cc
meant_if found name lines (Some file) row end e asked =
    let yes : matches (path_of file) name ≡ true = is_meant (matches (path_of file) name) e in
    rw (yes, asked) refl

passed_if : (found : List FoundRow) (name : List ℕ) (lines : AskedLines) (file : Option (List ℕ × List ℕ)) (row : LineRow) (end : ℕ)
    → Meant ≡ verdict_of name file → asks lines row.line ≡ false → behind found name lines (entry_if file row end) ≡ Good found
passed_if found name lines None row end e asked = absurd cc
passed_if found name lines (Some file) row end e asked =
    let yes : matches (path_of file) name ≡ true = is_meant (matches (path_of file) name) e in
    rw (yes, asked) (ap (λ (l : List FoundRow). Good l) (append-nil found))

pub absent_row : (found : List FoundRow) (name : List ℕ) (lines : AskedLines) (files : List (List ℕ × List ℕ)) (row : LineRow) (end : ℕ)
    → Absent ≡ verdict_of name (slice_get files row.file_index) → behind found name lines (row_entry files row end) ≡ Broken InvalidDwarf
unfolding row_entry
absent_row found name lines files row end e = absent_if found name lines (slice_get files row.file_index) row end e

pub other_row : (found : List FoundRow) (name : List ℕ) (lines : AskedLines) (files : List (List ℕ × List ℕ)) (row : LineRow) (end : ℕ)
    → Other ≡ verdict_of name (slice_get files row.file_index) → behind found name lines (row_entry files row end) ≡ Good found
unfolding row_entry
other_row found name lines files row end e = other_if found name lines (slice_get files row.file_index) row end e

pub meant_row : (found : List FoundRow) (name : List ℕ) (lines : AskedLines) (files : List (List ℕ × List ℕ)) (row : LineRow) (end : ℕ)
    → Meant ≡ verdict_of name (slice_get files row.file_index) → asks lines row.line ≡ true
    → behind found name lines (row_entry files row end) ≡ Good (found ++ record { line = row.line; place = record { address = row.address; end = end } } ∷ [])
unfolding row_entry
meant_row found name lines files row end e asked = meant_if found name lines (slice_get files row.file_index) row end e asked

pub passed_row : (found : List FoundRow) (name : List ℕ) (lines : AskedLines) (files : List (List ℕ × List ℕ)) (row : LineRow) (end : ℕ)
    → Meant ≡ verdict_of name (slice_get files row.file_index) → asks lines row.line ≡ false
    → behind found name lines (row_entry files row end) ≡ Good found
unfolding row_entry
passed_row found name lines files row end e asked = passed_if found name lines (slice_get files row.file_index) row end e asked

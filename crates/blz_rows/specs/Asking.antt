-- The rows that a question asks, as they are gathered.
use Rattle.std.specs.Prelude.{ℕ, ◌&&◌, ◌==◌, Bool, List, [], ◌∷◌, ◌++◌, map, filter, nat_le, Option, Some, None}
use Rattle.blz_model.specs.Part.{Part, Good, ◌>>=◌}
use Rattle.blz_resolver.specs.Images.{ImageSet}
use Rattle.blz_rows.specs.Entries.{Entry, entries_of}
use Rattle.blz_rows.specs.LineAnswers.{lesser, place_of}
use Rattle.blz_rows.specs.Matching.{matches}
use Rattle.blz_rows.specs.declared.asked.AskedLines.{AskedLines}
use Rattle.blz_rows.specs.declared.asked.AskedLines.TheVariants.{At, From}
use Rattle.blz_rows.specs.declared.found.FoundRow.{FoundRow}
use Rattle.blz_rows.specs.declared.places.Place.{Place}

-- whether a line is asked
abbrev pub asks : AskedLines → ℕ → Bool
asks (At line) number = number == line
asks (From line) number = nat_le line number

abbrev pub is_asked : List ℕ → AskedLines → Entry → Bool
is_asked file lines entry = matches entry.path file && asks lines entry.line

abbrev pub found_of : Entry → FoundRow
found_of entry = record { line = entry.line; place = place_of entry }

abbrev pub place_in : FoundRow → Place
place_in row = row.place

-- the entries of a file whose lines are asked, in their order
abbrev pub found_in : List ℕ → AskedLines → List Entry → List FoundRow
found_in file lines entries = map found_of (filter (is_asked file lines) entries)

-- those of a part behind others
abbrev pub behind : List FoundRow → List ℕ → AskedLines → Part (List Entry) → Part (List FoundRow)
behind found file lines part = part >>= λ entries. Good (found ++ found_in file lines entries)

-- those of a bundle
unfoldable pub found_for : ImageSet → List ℕ → AskedLines → Part (List FoundRow)
found_for images file lines = behind [] file lines (entries_of images)

-- the least line of some rows
abbrev pub least_line : List FoundRow → Option ℕ
least_line [] = None
least_line (row ∷ rest) = Some (lesser row.line (least_line rest))

-- What is answered for a line of a source file.
use Rattle.std.specs.Prelude.{ℕ, ◌&&◌, ◌==◌, Bool, List, [], ◌∷◌, map, filter, min, nat_le, Option, Some, None}
use Rattle.blz_model.specs.Part.{Part, Good, ◌>>=◌}
use Rattle.blz_resolver.specs.Images.{ImageSet}
use Rattle.blz_rows.specs.Entries.{Entry, entries_of}
use Rattle.blz_rows.specs.Matching.{matches}
use Rattle.blz_rows.specs.declared.places.Place.{Place}

-- ---- the addresses of a line

abbrev pub is_at : List ℕ → ℕ → Entry → Bool
is_at file line entry = matches entry.path file && entry.line == line

abbrev pub place_of : Entry → Place
place_of entry = record { address = entry.address; end = entry.end }

-- the entries of a line of a file, in their order
abbrev pub places_at : List ℕ → ℕ → List Entry → List Place
places_at file line entries = map place_of (filter (is_at file line) entries)

unfoldable pub places_of : ImageSet → List ℕ → ℕ → Part (List Place)
places_of images file line = do
  entries ← entries_of images
  Good (places_at file line entries)

-- ---- the next line

-- the lesser of two lines
abbrev pub lesser : ℕ → Option ℕ → ℕ
lesser line None = line
lesser line (Some other) = min line other

abbrev pub least : List Entry → Option ℕ
least [] = None
least (entry ∷ rest) = Some (lesser entry.line (least rest))

-- an entry of a file whose line is not below
abbrev pub is_from : List ℕ → ℕ → Entry → Bool
is_from file line entry = matches entry.path file && nat_le line entry.line

-- the least line of the entries of a file that is not below
abbrev pub next_in : List ℕ → ℕ → List Entry → Option ℕ
next_in file line entries = least (filter (is_from file line) entries)

unfoldable pub next_of : ImageSet → List ℕ → ℕ → Part (Option ℕ)
next_of images file line = do
  entries ← entries_of images
  Good (next_in file line entries)

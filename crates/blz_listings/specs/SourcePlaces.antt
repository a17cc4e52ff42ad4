-- The places in the sources at which entries stand: paths and lines.
use Rattle.std.specs.Prelude.{ℕ, ◌==◌, ◌&&◌, not, Bool, List, [], ◌∷◌, ◌++◌, codes, decimal, map, filter, Option, Some, None}
use Rattle.std.specs.Str.{bytes_eq}
use Rattle.blz_error.specs.Texts.{Bytes}
use Rattle.blz_program.specs.PrintedText.{hex_digits, line_feed}
use Rattle.blz_rows.specs.Entries.{Entry}
use Rattle.blz_listings.specs.Tallies.{Tally, tallies_of}

-- a line of the file of a path
pub record SourcePlace : Type 0 where
  pub path : Bytes
  pub line : ℕ

-- two places are the same where path and line are equal
abbrev pub is_same : SourcePlace → SourcePlace → Bool
is_same p q = bytes_eq p.path q.path && p.line == q.line

-- the place of an entry
abbrev pub place_of : Entry → SourcePlace
place_of entry = record { path = entry.path; line = entry.line }

-- line 0 is no line of a source (DWARF 5 section 6.2.2)
abbrev pub has_line : Entry → Bool
has_line entry = not (entry.line == 0)

-- the places of the entries that have a line
abbrev pub places_of : List Entry → List SourcePlace
places_of entries = map place_of (filter has_line entries)

-- the distinct places, in the order of their first entries, each with the number of its entries
abbrev pub place_counts : List Entry → List (Tally SourcePlace)
place_counts entries = tallies_of is_same (places_of entries)

-- ---- as they are printed

-- a path, a colon, and a line
abbrev pub place_text : Bytes → ℕ → Bytes
place_text path line = path ++ codes ":" ++ decimal line

-- a place and a number of rows, on a line of their own
abbrev pub count_line : Bytes → ℕ → ℕ → Bytes
count_line path line count = place_text path line ++ codes " " ++ decimal count ++ line_feed

-- each place with the number of its entries
abbrev pub counts_text : List (Tally SourcePlace) → Bytes
counts_text [] = []
counts_text (t ∷ ts) = count_line t.item.path t.item.line t.count ++ counts_text ts

-- an address, the address behind the row, and its place, on a line of their own
abbrev pub entry_text : Entry → Bytes
entry_text entry = hex_digits entry.address ++ codes " " ++ hex_digits entry.end ++ codes " "
    ++ place_text entry.path entry.line ++ line_feed

-- each entry
abbrev pub entries_text : List Entry → Bytes
entries_text [] = []
entries_text (entry ∷ entries) = entry_text entry ++ entries_text entries

-- the line of a tally, where there is one
abbrev pub count_text_if : Option (Tally SourcePlace) → Bytes
count_text_if None = []
count_text_if (Some t) = count_line t.item.path t.item.line t.count

-- the places that are listed
abbrev pub places_listed : List Entry → List SourcePlace
places_listed entries = map (λ (t : Tally SourcePlace). t.item) (place_counts entries)

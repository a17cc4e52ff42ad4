-- The printed bytes of answers.
use Rattle.std.specs.Prelude.{ℕ, List, [], ◌∷◌, ◌++◌, decimal, Option, Some, None}
use Rattle.blz_error.specs.Texts.{Bytes}
use Rattle.blz_program.specs.PrintedText.{hex_digits, line_feed}
use Rattle.blz_rows.specs.declared.places.Place.{Place}

-- the address of each place, on a line of its own
abbrev pub places_text : List Place → Bytes
places_text [] = []
places_text (place ∷ places) = hex_digits place.address ++ line_feed ++ places_text places

-- the line, or nothing where there is none
abbrev pub next_text : Option ℕ → Bytes
next_text None = []
next_text (Some line) = decimal line ++ line_feed

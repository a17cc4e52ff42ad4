-- What the values of the code stand for.
use Rattle.std.specs.Prelude.{ℕ}
use Rattle.blz_rows.specs.Entries.{Entry}
use Rattle.blz_listings.specs.SourcePlaces.{SourcePlace}
use Rattle.blz_listings.specs.Tallies.{Tally}
use Rattle.blz_listings.specs.declared.listing.ListedRow.{ListedRow}
use Rattle.blz_listings.specs.declared.place_table.PlaceKey.{PlaceKey}

-- a row with its path is an entry
abbrev pub entry_view : ListedRow → Entry
entry_view row = record { path = row.path.items; line = row.line; address = row.address; end = row.end }

-- a key is a place
abbrev pub key_view : PlaceKey → SourcePlace
key_view key = record { path = key.path.items; line = key.line }

-- a key with its number of rows
abbrev pub tally_view : PlaceKey × ℕ → Tally SourcePlace
tally_view entry = record { item = key_view entry.0; count = entry.1 }

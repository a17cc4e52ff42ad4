-- What is shown of entries, as they come one after the other.
use Rattle.std.specs.Prelude.{◌==◌, List, [], ◌++◌, fold, Option, if◌then◌else◌}
use Rattle.blz_error.specs.Texts.{Bytes}
use Rattle.blz_info.specs.Marks.{or_invalid}
use Rattle.blz_model.specs.Part.{Part, Good, ◌>>=◌}
use Rattle.blz_resolver.specs.Images.{ImageSet}
use Rattle.blz_rows.specs.Entries as rows
use Rattle.blz_rows.specs.Entries.{Entry, entries_of}
use Rattle.blz_listings.specs.Tallies.{Tally, tallied}
use Rattle.blz_listings.specs.SourcePlaces.{SourcePlace, counts_text, entry_text, is_same, place_of}
use Rattle.blz_listings.specs.declared.wanted.Wanted.{Wanted}
use Rattle.blz_listings.specs.declared.wanted.Wanted.TheVariants.{Places, Entries}

-- what was made of the entries so far, as it is wanted: places with their numbers, or a text
pub record Shown : Type 0 where
  pub wanted : Wanted
  pub text : Bytes
  pub counts : List (Tally SourcePlace)

-- no entry came yet
abbrev pub nothing : Wanted → Shown
nothing wanted = record { wanted = wanted; text = []; counts = [] }

-- the places with that of one entry more; line 0 is no place
abbrev pub counted_with : List (Tally SourcePlace) → Entry → List (Tally SourcePlace)
counted_with counts entry = if entry.line == 0 then counts else tallied is_same counts (place_of entry)

-- an entry is counted at its place
abbrev pub with_place : Shown → Entry → Shown
with_place shown entry = record shown { counts = counted_with shown.counts entry }

-- an entry more, as it is wanted: counted, or printed
abbrev pub with_entry : Wanted → Shown → Entry → Shown
with_entry Places shown entry = with_place shown entry
with_entry Entries shown entry = record shown { text = shown.text ++ entry_text entry }

-- the same, as the first entries were wanted
abbrev pub shown_with : Shown → Entry → Shown
shown_with shown entry = with_entry shown.wanted shown entry

-- the text of the places, or of the entries
abbrev pub text_as : Wanted → Shown → Bytes
text_as Places shown = counts_text shown.counts
text_as Entries shown = shown.text

-- the text that was made
abbrev pub text_in : Shown → Bytes
text_in shown = text_as shown.wanted shown

-- the path of a file that has to be there
abbrev pub file_path : Option (Bytes × Bytes) → Part Bytes
file_path file = or_invalid file >>= λ file. Good (rows.path_of file)

-- what was made, after the entries of a part
abbrev pub after : Shown → Part (List Entry) → Part Shown
after shown part = part >>= λ entries. Good (fold shown_with shown entries)

-- what is made of the entries of a bundle
unfoldable pub shown_of : Wanted → ImageSet → Part Shown
shown_of wanted images = after (nothing wanted) (entries_of images)

-- What is printed of the lines of a bundle, and how its words ask for it.
use Rattle.std.specs.Prelude.{[], ◌∷◌, List, codes, Option, Some, None, if◌then◌else◌}
use Rattle.std.specs.Str.{bytes_eq}
use Rattle.blz_error.specs.Texts.{Bytes}
use Rattle.blz_model.specs.Part.{Part, Good, ◌>>=◌}
use Rattle.blz_program.specs.Outcomes.{ProgramTexts}
use Rattle.blz_resolver.specs.Images.{ImageSet}
use Rattle.blz_rows.specs.Entries.{Entry, entries_of}
use Rattle.blz_listings.specs.Questions.{Question}
use Rattle.blz_listings.specs.SourcePlaces.{counts_text, entries_text, place_counts}
use Rattle.blz_listings.specs.declared.wanted.Wanted.{Wanted}
use Rattle.blz_listings.specs.declared.wanted.Wanted.TheVariants.{Places, Entries}

-- how the program speaks of itself; it reads no lines of a file
abbrev pub lines_texts : ProgramTexts
lines_texts = record { name = codes "blz_lines"; usage = codes "[--rows] IMAGE"; bad_line = [] }

-- the text for the entries, as it is wanted
abbrev pub shown_text : Wanted → List Entry → Bytes
shown_text Places entries = counts_text (place_counts entries)
shown_text Entries entries = entries_text entries

-- the text for the rows of all units, or the first mark
unfoldable pub lines_text : Wanted → ImageSet → Part Bytes
lines_text wanted images = do
  entries ← entries_of images
  Good (shown_text wanted entries)

-- the text of the lines of the image at a path
abbrev pub lines_question : Wanted → Bytes → Question
lines_question wanted path = record { path = path; text_for = lines_text wanted }

-- One word is a path, whatever it begins with; two words begin with the option. Other words are not of the form.
abbrev pub lines_asked : List Bytes → Option Question
lines_asked [] = None
lines_asked (path ∷ []) = Some (lines_question Places path)
lines_asked (option ∷ path ∷ []) = if bytes_eq option (codes "--rows") then Some (lines_question Entries path) else None
lines_asked (option ∷ path ∷ more ∷ rest) = None

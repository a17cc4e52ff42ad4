-- The lines of a unit, as they are given.
use Rattle.std.specs.Prelude.{ℕ, Bool, true, false, List, length, map, Option, None, option_map}
use Rattle.blz_model.specs.Part.{Part, Good, Broken, ◌>>=◌}
use Rattle.blz_info.specs.Marks.{or_invalid}
use Rattle.blz_info.specs.declared.text.Texts.{Texts}
use Rattle.blz_units.specs.UnitAnswers.{unit_lines}
use Rattle.blz_line.specs.FileNames.{file_text}
use Rattle.blz_line.specs.Sequences.{Sequence}
use Rattle.blz_line.specs.UnitLines.{LineTable}
use Rattle.blz_resolver.specs.Books.{Book, frame_of}
use Rattle.blz_resolver.specs.FileTexts.{texts_of}
use Rattle.blz_bundle.specs.Images.{ImageSet}

-- the sequences of a unit, and its files, each as a directory and a name
pub record Rows : Type 0 where
  pub sequences : List Sequence
  pub files : List (List ℕ × List ℕ)

-- the sequences of a line table, and its files as texts
abbrev pub rows_with : Texts → LineTable → Rows
rows_with t table = record { sequences = table.sequences; files = map (file_text t) table.files }

-- the lines of a unit: none where its root tells no line program
unfoldable pub rows_in : Texts → Book → ℕ → Part (Option Rows)
rows_in t b unit = do
  lines ← or_invalid (unit_lines b.files b.table unit)
  Good (option_map (rows_with t) lines)

unfoldable pub rows_of : ImageSet → Bool → ℕ → Part (Option Rows)
rows_of images false unit = Good None
rows_of images true unit = frame_of images >>= λ book. rows_in (texts_of book.files) book unit

-- ---- how many units there are

abbrev pub count_of : Part Book → ℕ
count_of (Good book) = length book.table.kept
count_of (Broken k) = 0

-- the number of units, none without debug information
abbrev pub unit_count_of : ImageSet → Bool → ℕ
unit_count_of images false = 0
unit_count_of images true = count_of (frame_of images)

-- What a file of hits gives over the images of a bundle.
use Rattle.std.specs.Prelude.{◌≡◌, ℕ, ◌+◌, ◌-◌, ◌^◌, nat_lt, List, [], ◌∷◌, ◌++◌, Option, Some, None, Result, Ok, Err, ⊤, if◌then◌else◌}
use Rattle.std.specs.FinMap as map
use Rattle.std.specs.Prelude.{codes}
use Rattle.std.specs.declared.vec.Vec.{Vec}
use Rattle.blz_error.specs.Texts.{Bytes}
use Rattle.blz_error.specs.declared.kind.ErrorKind.TheVariants.{NotFound}
use Rattle.blz_model.specs.Part.{Part, Good, Broken}
use Rattle.blz_program.specs.Outcomes.{ProgramTexts}
use Rattle.blz_program.specs.Reading.{Holds}
use Rattle.blz_program.specs.Runs.{Found, Text, Mark, Malformed, Line}
use Rattle.blz_program.specs.TextLines.{lines_of}
use Rattle.blz_program.specs.declared.outcome.LineFault.TheVariants.{BadForm, TooLarge}
use Rattle.blz_program.specs.declared.outcome.Outcome.{Outcome}
use Rattle.blz_program.specs.declared.outcome.Outcome.TheVariants as outcome
use Rattle.blz_resolver.specs.Books.{framed}
use Rattle.blz_resolver.specs.Contents.{Contents}
use Rattle.blz_resolver.specs.FormatKinds.{IsFormatKind}
use Rattle.blz_resolver.specs.Images.{ImageSet}
use Rattle.blz_resolver.specs.Opening.{Opens, default_dirs, opened}
use Rattle.blz_cover.specs.Answers.{answer_at}
use Rattle.blz_cover.specs.Changes.{added, total_of}
use Rattle.blz_cover.specs.CoverText.{cover_text}
use Rattle.blz_cover.specs.Hits.{hit_of}
use Rattle.blz_cover.specs.declared.change.Change.{Change}

-- how the program speaks of itself
abbrev pub cover_texts : ProgramTexts
cover_texts = record { name = codes "blz_cover"; usage = codes "IMAGE HITS"; bad_line = codes "bad hit" }

-- what follows a part, or its mark
abbrev pub mark_or : {A : Type 0} → Part A → Found → Found
mark_or (Good x) next = next
mark_or (Broken k) next = Mark k

-- ---- the lines of the hits

-- What a line gives, and else what follows its change: it is not of its form, its total is too large, or its address has a
-- mark.
abbrev pub found_at : ImageSet → List Change → ℕ → Option (ℕ × ℕ) → (Change → Found) → Found
found_at images changes number None next = Line number BadForm
found_at images changes number (Some hit) next = if nat_lt (2 ^ 64 - 1) (total_of changes + hit.1) then Line number TooLarge
    else mark_or (answer_at images hit.0) (next (added hit.0 hit.1))

-- the counts after all lines, of which the first has a number, or what the first line gives that fails
abbrev pub counted_from : ImageSet → List Change → ℕ → List Bytes → Found
counted_from images changes number [] = Text (cover_text images changes)
counted_from images changes number (line ∷ lines) = found_at images changes number (hit_of line) (λ change. counted_from images (changes ++ change ∷ []) (number + 1) lines)

-- the counts of a file of hits, which has to be there
abbrev pub found_in_hits : ImageSet → Option Bytes → Found
found_in_hits images None = Mark NotFound
found_in_hits images (Some text) = counted_from images [] 1 (lines_of text)

-- ---- the words and the files

-- the image and the hits
abbrev pub paths_in : List Bytes → Option (Bytes × Bytes)
paths_in [] = None
paths_in (image ∷ []) = None
paths_in (image ∷ hits ∷ []) = Some (image, hits)
paths_in (image ∷ hits ∷ word ∷ words) = None

-- the counts over the images of a bundle, whose debug information has to be readable
abbrev pub found_in_bundle : ImageSet → Option Bytes → Found
found_in_bundle images held = mark_or (framed images) (found_in_hits images held)

-- the counts for an image that was opened, and for what holds the hits
abbrev pub found_opened : Part ImageSet → Option Bytes → Found
found_opened (Good images) held = found_in_bundle images held
found_opened (Broken k) held = Mark k

-- what is found in the file of hits
pub record FindsHits (contents : Option Contents) (images : ImageSet) (path : Bytes) (found : Found) : Type 0 where
  pub held : Option Bytes
  pub holds : Holds contents path held
  pub same : found ≡ found_in_hits images held

-- what is found over a bundle
pub record FindsInBundle (contents : Option Contents) (images : ImageSet) (path : Bytes) (found : Found) : Type 0 where
  pub held : Option Bytes
  pub holds : Holds contents path held
  pub same : found ≡ found_in_bundle images held

-- what is found in two files
pub record FindsCover (contents : Option Contents) (paths : Bytes × Bytes) (found : Found) : Type 0 where
  pub opening : Part ImageSet
  pub opens : Opens contents paths.0 default_dirs opening
  pub held : Option Bytes
  pub holds : Holds contents paths.1 held
  pub same : found ≡ found_opened opening held

abbrev pub FindsFor : Option (Bytes × Bytes) → Option Contents → Found → Type 0
FindsFor None contents found = found ≡ Malformed
FindsFor (Some paths) contents found = FindsCover contents paths found

-- what is found by the words and the files
abbrev pub Finds : List Bytes → Option Contents → Found → Type 0
Finds words contents found = FindsFor (paths_in words) contents found

-- the same, where the files tell their contents
abbrev pub found_for : Contents → Option (Bytes × Bytes) → Found
found_for contents None = Malformed
found_for contents (Some paths) = found_opened (opened contents paths.0 default_dirs) (map.get contents paths.1)

-- ---- what the code gives

-- an outcome in place of the counts
abbrev pub StopsAt : Outcome → Found → Type 0
StopsAt outcome.Done found = ⊥
StopsAt (outcome.Refused k) found = (found ≡ Mark k) × IsFormatKind k
StopsAt outcome.Usage found = ⊥
StopsAt (outcome.BadLine line fault) found = found ≡ Line line fault
StopsAt outcome.WriteFailed found = ⊥
StopsAt outcome.OutOfMemory found = ⊤

-- the text of the counts, or an outcome in its place
abbrev pub IsCounted : {Z : Type 0} → Result (Vec ℕ Z) Outcome → Found → Type 0
IsCounted (Ok v) found = found ≡ Text v.items
IsCounted (Err o) found = StopsAt o found

-- What a program's words ask for, and what a run finds by them and by its files.
use Rattle.std.specs.Prelude.{◌≡◌, Option, Some, None}
use Rattle.blz_error.specs.Texts.{Bytes}
use Rattle.blz_model.specs.Part.{Part, Good, Broken, ◌>>=◌}
use Rattle.blz_program.specs.Runs.{Found, Mark, Text}
use Rattle.blz_program.specs.Runs as ending
use Rattle.blz_resolver.specs.Contents.{Contents}
use Rattle.blz_resolver.specs.Images.{ImageSet}
use Rattle.blz_resolver.specs.Opening.{Opens, default_dirs, opened}

-- the path of an image, and the text that is asked of its bundle, or the first mark
pub record Question : Type 0 where
  pub path : Bytes
  pub text_for : ImageSet → Part Bytes

-- a text, or a mark
abbrev pub found_in : Part Bytes → Found
found_in (Good text) = Text text
found_in (Broken k) = Mark k

-- the text, or the mark, for the bundle that the files spell
abbrev pub printed : Contents → Question → Part Bytes
printed contents question = opened contents question.path default_dirs >>= question.text_for

-- The part is the text, or the mark, of what opening the path found.
pub record Prints (contents : Option Contents) (question : Question) (part : Part Bytes) : Type 0 where
  pub opening : Part ImageSet
  pub opens : Opens contents question.path default_dirs opening
  pub gives : (opening >>= question.text_for) ≡ part

-- what is found is the text, or the mark, of what the question gives
pub record Gives (contents : Option Contents) (question : Question) (found : Found) : Type 0 where
  pub part : Part Bytes
  pub prints : Prints contents question part
  pub same : found ≡ found_in part

-- what is found for what is asked
abbrev pub Finds : Option Question → Option Contents → Found → Type 0
Finds None contents found = found ≡ ending.Malformed
Finds (Some question) contents found = Gives contents question found

-- what is found, where the files tell their contents
abbrev pub found_for : Contents → Option Question → Found
found_for contents None = ending.Malformed
found_for contents (Some question) = found_in (printed contents question)

-- What a run finds by its words and files.
use Rattle.std.specs.Prelude.{◌≡◌, [], codes, Option, Some, None}
use Rattle.blz_error.specs.Texts.{Bytes}
use Rattle.blz_model.specs.Part.{Part, Good, Broken, ◌>>=◌}
use Rattle.blz_program.specs.Outcomes.{ProgramTexts}
use Rattle.blz_program.specs.Runs.{Found, Mark, Text}
use Rattle.blz_program.specs.Runs as ending
use Rattle.blz_resolver.specs.Contents.{Contents}
use Rattle.blz_resolver.specs.Images.{ImageSet}
use Rattle.blz_resolver.specs.Opening.{Opens, default_dirs, opened}
use Rattle.blz_rows.specs.LineAnswers.{places_of, next_of}
use Rattle.blz_rows.specs.PrintedRows.{places_text, next_text}
use Rattle.blz_rows.specs.Words.{FileLine, Question}
use Rattle.blz_rows.specs.declared.words.Wanted.{Wanted}
use Rattle.blz_rows.specs.declared.words.Wanted.TheVariants.{Addresses, NextLine}

-- how the program speaks of itself; it reads no lines of a file
abbrev pub rows_texts : ProgramTexts
rows_texts = record { name = codes "blz_rows"; usage = codes "[--next] IMAGE FILE:LINE"; bad_line = [] }

-- what is printed for a line of a file, or the first mark
unfoldable pub text_of : Wanted → FileLine → ImageSet → Part Bytes
text_of Addresses at images = do
  places ← places_of images at.file at.line
  Good (places_text places)
text_of NextLine at images = do
  next ← next_of images at.file at.line
  Good (next_text next)

abbrev pub text_for : Question → ImageSet → Part Bytes
text_for question images = text_of question.wanted question.at images

-- a text, or a mark
abbrev pub found_in : Part Bytes → Found
found_in (Good text) = Text text
found_in (Broken k) = Mark k

-- the text, or the mark, for the bundle that the files spell
abbrev pub printed : Contents → Question → Part Bytes
printed contents question = opened contents question.path default_dirs >>= text_for question

-- The part is the text, or the mark, of what opening the path found.
pub record Prints (contents : Option Contents) (question : Question) (part : Part Bytes) : Type 0 where
  pub opening : Part ImageSet
  pub opens : Opens contents question.path default_dirs opening
  pub gives : (opening >>= text_for question) ≡ part

-- what is found is the text, or the mark, of what the question gives
pub record Gives (contents : Option Contents) (question : Question) (found : Found) : Type 0 where
  pub part : Part Bytes
  pub prints : Prints contents question part
  pub same : found ≡ found_in part

-- what is found for what is asked
abbrev pub Finds : Option Question → Option Contents → Found → Type 0
Finds None contents found = found ≡ ending.Malformed
Finds (Some question) contents found = Gives contents question found

-- what is found, where the files tell their contents
abbrev pub found_for : Contents → Option Question → Found
found_for contents None = ending.Malformed
found_for contents (Some question) = found_in (printed contents question)

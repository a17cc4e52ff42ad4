-- What a run finds by its words and files.
use Rattle.std.specs.Prelude.{◌≡◌, ◌⊎◌, false, List, [], Option, codes, unwrap_or}
use Rattle.blz_error.specs.Texts.{Bytes}
use Rattle.blz_model.specs.Part.{Part, Good, Broken, ◌>>=◌}
use Rattle.blz_program.specs.Outcomes.{ProgramTexts}
use Rattle.blz_program.specs.Runs.{Found, Mark, Text}
use Rattle.blz_program.specs.Runs as run
use Rattle.blz_resolver.specs.Contents.{Contents}
use Rattle.blz_resolver.specs.Images.{ImageSet}
use Rattle.blz_resolver.specs.Opening.{Opens, default_dirs, opened}
use Rattle.blz_resolver.specs.Scan.{scan_of}
use Rattle.clap.specs.Words.{takes}
use Rattle.blz_tool.specs.CommandLine.{Asked, Demo, Malformed, Question, Resolve, asked_named, named, tool_app}
use Rattle.blz_tool.specs.PrintedText.{text_of}
use Rattle.blz_tool.specs.Summary.{summary}

-- how the program speaks of itself; it reads no lines of a file
abbrev pub tool_texts : ProgramTexts
tool_texts = record { name = codes "blz_tool"; usage = codes "blz_tool [--basic | --lines] [--debug-dirs A:B] PATH ADDR.."; bad_line = [] }

-- the text of the answers with their places and inlined calls, or the first mark
unfoldable pub text_for : Question → ImageSet → Part Bytes
text_for question images = do
  answers ← scan_of images question.addrs question.opts
  Good (text_of question.addrs answers)

-- a text, or a mark
abbrev pub found_in : Part Bytes → Found
found_in (Good text) = Text text
found_in (Broken k) = Mark k

-- where debug files are looked for: the directories that are asked for, else the default ones
abbrev pub dirs_of : Question → List Bytes
dirs_of question = unwrap_or question.dirs default_dirs

-- the text, or the mark, for the bundle that the files spell
abbrev pub printed : Contents → Question → Part Bytes
printed contents question = opened contents question.path (dirs_of question) >>= text_for question

-- The part is the text, or the mark, of what opening the path found.
pub record Prints (contents : Option Contents) (question : Question) (part : Part Bytes) : Type 0 where
  pub opening : Part ImageSet
  pub opens : Opens contents question.path (dirs_of question) opening
  pub gives : (opening >>= text_for question) ≡ part

-- what is found is the text, or the mark, of a part
pub record FindsPart (IsPart : Part Bytes → Type 0) (found : Found) : Type 0 where
  pub part : Part Bytes
  pub is_part : IsPart part
  pub same : found ≡ found_in part

-- what is found for what is asked
abbrev pub FindsFor : Asked → Option Contents → Found → Type 0
FindsFor (Resolve question) contents found = FindsPart (Prints contents question) found
FindsFor (Demo n) contents found = found ≡ found_in (summary n)
FindsFor Malformed contents found = found ≡ run.Malformed

-- The simple command does not take the words, so they are not of the form. The program's name stands before them here.
pub record IsNotTaken (given : List Bytes) (found : Found) : Type 0 where
  pub not_taken : takes tool_app given ≡ false
  pub same : found ≡ run.Malformed

-- what is found for the program's name and its words: by what they ask for, or as words that are not taken
abbrev pub FindsNamed : List Bytes → Option Contents → Found → Type 0
FindsNamed given contents found = FindsFor (asked_named given) contents found ⊎ IsNotTaken given found

-- what is found by the words and the files
abbrev pub Finds : List Bytes → Option Contents → Found → Type 0
Finds words = FindsNamed (named words)

-- the words ask for a file, and a failure of the files was counted
pub record FailsNamed (given : List Bytes) (failed : Type 0) : Type 0 where
  pub question : Question
  pub asks : asked_named given ≡ Resolve question
  pub counted : failed

-- the same, with the program's name put before the words
abbrev pub FilesFail : List Bytes → Type 0 → Type 0
FilesFail words = FailsNamed (named words)

-- what is found for what is asked, where the files tell their contents
abbrev pub found_for : Contents → Asked → Found
found_for contents (Resolve question) = found_in (printed contents question)
found_for contents (Demo n) = found_in (summary n)
found_for contents Malformed = run.Malformed

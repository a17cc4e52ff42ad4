-- What a run of the folder finds by its words and files.
use Rattle.std.specs.Prelude.{◌≡◌, Bool, true, false, List, [], ◌∷◌, Option, Some, None, Ok, Err, codes, if◌then◌else◌}
use Rattle.std.specs.FinMap as map
use Rattle.std.specs.Str.{bytes_eq}
use Rattle.blz_error.specs.Texts.{Bytes}
use Rattle.blz_error.specs.declared.kind.ErrorKind.TheVariants.{NotFound}
use Rattle.blz_model.specs.Part.{Part, Good, Broken}
use Rattle.blz_program.specs.Outcomes.{ProgramTexts}
use Rattle.blz_program.specs.Reading.{Holds}
use Rattle.blz_program.specs.Runs.{Found, Mark, Text}
use Rattle.blz_program.specs.Runs as run
use Rattle.blz_resolver.specs.Contents.{Contents}
use Rattle.blz_resolver.specs.Images.{ImageSet}
use Rattle.blz_resolver.specs.Opening.{Opens, default_dirs, opened}
use Rattle.blz_fold.specs.FoldTexts.{lines_text, nodes_text}
use Rattle.blz_fold.specs.Naming.{FoldedNames, fold_of}
use Rattle.blz_fold.specs.StackLines.{Parsed, parsed}

-- how the program speaks of itself
abbrev pub fold_texts : ProgramTexts
fold_texts = record { name = codes "blz_fold"; usage = codes "[--nodes] IMAGE STACKS"; bad_line = codes "bad stack" }

-- whether nodes are asked for, the path of the image, and that of the stacks
pub record Question : Type 0 where
  pub nodes : Bool
  pub image : Bytes
  pub stacks : Bytes

-- Two words are an image and stacks, whatever they begin with; of three the first must be the option.
abbrev pub asked : List Bytes → Option Question
asked [] = None
asked (image ∷ []) = None
asked (image ∷ stacks ∷ []) = Some (record { nodes = false; image = image; stacks = stacks })
asked (option ∷ image ∷ stacks ∷ []) = if bytes_eq option (codes "--nodes") then Some (record { nodes = true; image = image; stacks = stacks }) else None
asked (w ∷ x ∷ y ∷ z ∷ words) = None

-- the text of what was folded
abbrev pub folded_text : Bool → FoldedNames → Bytes
folded_text false folded = lines_text folded.lines
folded_text true folded = nodes_text folded.nodes

abbrev pub found_folded : Bool → Part FoldedNames → Found
found_folded nodes (Good folded) = Text (folded_text nodes folded)
found_folded nodes (Broken k) = Mark k

-- of stacks that were parsed, or refused
abbrev pub found_parsed : Bool → ImageSet → Parsed → Found
found_parsed nodes images (Ok stacks) = found_folded nodes (fold_of images stacks)
found_parsed nodes images (Err refused) = run.Line refused.0 refused.1

-- of what the path of the stacks holds
abbrev pub found_held : Bool → ImageSet → Option Bytes → Found
found_held nodes images None = Mark NotFound
found_held nodes images (Some text) = found_parsed nodes images (parsed text)

-- the image first, then the stacks
abbrev pub found_from : Bool → Part ImageSet → Option Bytes → Found
found_from nodes (Good images) held = found_held nodes images held
found_from nodes (Broken k) held = Mark k

-- what is found where the image opens so, and the path of the stacks holds that
pub record FindsFolded (contents : Option Contents) (question : Question) (found : Found) : Type 0 where
  pub opening : Part ImageSet
  pub opens : Opens contents question.image default_dirs opening
  pub held : Option Bytes
  pub holds : Holds contents question.stacks held
  pub same : found ≡ found_from question.nodes opening held

abbrev pub FindsFor : Option Question → Option Contents → Found → Type 0
FindsFor None contents found = found ≡ run.Malformed
FindsFor (Some question) contents found = FindsFolded contents question found

-- what is found by the words and the files
abbrev pub Finds : List Bytes → Option Contents → Found → Type 0
Finds words contents found = FindsFor (asked words) contents found

-- what is found where the files tell their contents
abbrev pub found_for : Contents → Option Question → Found
found_for contents None = run.Malformed
found_for contents (Some question) = found_from question.nodes (opened contents question.image default_dirs) (map.get contents question.stacks)

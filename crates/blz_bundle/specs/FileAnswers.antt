-- What files answer while a path is opened.
use Rattle.std.specs.Prelude.{◌≡◌, Bool, Option, Some, None, is_some}
use Rattle.std.specs.FinMap as map
use Rattle.blz_error.specs.Texts.{Bytes}
use Rattle.blz_links.specs.Contents.{Contents}
use Rattle.blz_bundle.specs.Opened.{Opened}

-- The answers in one step: by which path a file is known, whether something stands at a path, and what a read gives.
-- Files that change meanwhile may answer otherwise in the next step, and may lack what stood there.
pub record Answers : Type 0 where
  pub known_as : Bytes → Bytes
  pub is_there : Bytes → Bool
  pub held : Bytes → Option Bytes

-- files that tell their contents answer by these in each step
abbrev pub told : Contents → Answers
told contents = record { known_as = λ path. path; is_there = λ path. is_some (map.get contents path); held = λ path. map.get contents path }

-- What a step finds: over the contents where they are told, else over some answers.
abbrev pub Finds : {A : Type 0} → Option Contents → (Answers → Opened A) → Opened A → Type 0
Finds None step found = (answers : Answers) × (step answers ≡ found)
Finds (Some contents) step found = step (told contents) ≡ found

-- the answers in each step of opening
pub record StepAnswers : Type 0 where
  pub main : Answers
  pub linked : Answers
  pub package_file : Answers
  pub alternative : Answers
  pub supplementary : Answers

-- files whose contents are known answer by them in each step of opening
abbrev pub told_steps : Contents → StepAnswers
told_steps contents = record { main = told contents; linked = told contents; package_file = told contents; alternative = told contents; supplementary = told contents }

-- what some steps find, in the same way
abbrev pub StepsFind : {A : Type 0} → Option Contents → (StepAnswers → Opened A) → Opened A → Type 0
StepsFind None steps found = (answers : StepAnswers) × (steps answers ≡ found)
StepsFind (Some contents) steps found = steps (told_steps contents) ≡ found

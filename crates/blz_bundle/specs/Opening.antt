-- Opening a path: the image, and the companions to which its links lead.
use Rattle.std.specs.Prelude.{◌≡◌, ◌⊎◌, [], ◌∷◌, List, Option, Some, None, Result, IfErr, IfOk, ⊤, codes}
use Rattle.std.specs.FinMap as map
use Rattle.blz_error.specs.Fault.{Fault}
use Rattle.blz_error.specs.Texts.{Bytes}
use Rattle.blz_error.specs.declared.kind.ErrorKind.{ErrorKind}
use Rattle.blz_error.specs.declared.kind.ErrorKind.TheVariants as kind
use Rattle.blz_model.specs.Part.{Part, Broken, Good}
use Rattle.blz_links.specs.Contents.{Contents}
use Rattle.blz_bundle.specs.Alternative.{alternative}
use Rattle.blz_bundle.specs.FileAnswers.{StepAnswers, told_steps, StepsFind}
use Rattle.blz_bundle.specs.Following.{read_at}
use Rattle.blz_bundle.specs.Images.{ImageSet}
use Rattle.blz_bundle.specs.Linked.{linked}
use Rattle.blz_bundle.specs.Opened.{Opened, Found, ◌>>=◌, part_of}
use Rattle.blz_bundle.specs.OpenFiles.{FileAt, images_in, debug_of}
use Rattle.blz_bundle.specs.Outcomes.{HasKindCause, IsRefusal}
use Rattle.blz_bundle.specs.Packages.{package_of}
use Rattle.blz_bundle.specs.Supplementary.{supplementary}

-- where there is no alternative file, the supplementary file
abbrev pub or_supplementary : StepAnswers → List Bytes → FileAt → Option FileAt → Opened (Option FileAt)
or_supplementary answers dirs debug (Some file) = Found (Some file)
or_supplementary answers dirs debug None = supplementary answers.supplementary dirs debug

-- the file that the debug file shares with others
unfoldable pub shared : StepAnswers → List Bytes → FileAt → Opened (Option FileAt)
shared answers dirs debug = do
  file ← alternative answers.alternative dirs debug
  or_supplementary answers dirs debug file

-- The image at a path; its debug file; its package; and the file that the debug file shares with others.
unfoldable pub opened_by : StepAnswers → Bytes → List Bytes → Opened ImageSet
opened_by answers path dirs = do
  main ← read_at answers.main path
  linkee ← linked answers.linked dirs main
  sup ← shared answers dirs (debug_of main linkee)
  Found (images_in (record { main = main; linkee = linkee; supplementary = sup; package_file = package_of answers.package_file main }))

-- the bundle that the contents of files spell at a path, or its mark
abbrev pub opened : Contents → Bytes → List Bytes → Part ImageSet
opened contents path dirs = part_of (opened_by (told_steps contents) path dirs)

-- the directories in which debug files lie
abbrev pub default_dirs : List Bytes
default_dirs = codes "/usr/lib/debug" ∷ codes "/lib/debug/" ∷ []

-- ---- what a call found

-- over the contents where they are told, else over some answers in each step
abbrev pub OpensTo : Option Contents → Bytes → List Bytes → Opened ImageSet → Type 0
OpensTo contents path dirs found = StepsFind contents (λ answers. opened_by answers path dirs) found

-- the same, without the values of a check
abbrev pub Opens : Option Contents → Bytes → List Bytes → Part ImageSet → Type 0
Opens None path dirs part = (answers : StepAnswers) × (part_of (opened_by answers path dirs) ≡ part)
Opens (Some contents) path dirs part = opened contents path dirs ≡ part

-- the kinds of refusal
abbrev pub IsOpeningKind : ErrorKind → Type 0
IsOpeningKind kind.NotFound = ⊤
IsOpeningKind kind.PermissionDenied = ⊤
IsOpeningKind kind.InvalidData = ⊤
IsOpeningKind kind.Unsupported = ⊤
IsOpeningKind kind.OutOfMemory = ⊤
IsOpeningKind kind.Other = ⊤
IsOpeningKind k = ⊥

-- where the contents are told, they lack the path
abbrev pub Lacks : Option Contents → Bytes → Type 0
Lacks None path = ⊤
Lacks (Some contents) path = map.get contents path ≡ None

-- What opening a path gives: the bundle that is spelled there; or a refusal with its cause, with the values of the check
-- that failed, of a kind of opening, and NotFound only where nothing has the path. `failed` says that a failure of the
-- files was counted.
pub record IsOpened (contents : Option Contents) (path : Bytes) (dirs : List Bytes) (failed : Type 0) (r : Result ImageSet Fault) : Type 0 where
  pub good : IfOk r (λ b. Opens contents path dirs (Good b))
  pub mark : IfErr r (λ e. (e.kind ≡ kind.OutOfMemory) ⊎ HasKindCause e.kind failed (Opens contents path dirs (Broken e.kind)))
  pub mismatch : IfErr r (IsRefusal (OpensTo contents path dirs) failed)
  pub kinds : IfErr r (λ e. IsOpeningKind e.kind)
  pub missing : IfErr r (λ e. e.kind ≡ kind.NotFound → Lacks contents path)

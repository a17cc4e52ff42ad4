-- The file to which a link leads.
use Rattle.std.specs.Prelude.{List, find, Option, Some, None}
use Rattle.blz_error.specs.Texts.{Bytes}
use Rattle.blz_error.specs.declared.kind.ErrorKind.TheVariants.{NotFound}
use Rattle.blz_links.specs.Candidates.{candidates}
use Rattle.blz_bundle.specs.FileAnswers.{Answers}
use Rattle.blz_bundle.specs.OpenFiles.{FileAt}
use Rattle.blz_bundle.specs.Opened.{Opened, Found, ◌>>=◌, or_refused}

-- a file that has to be there
abbrev pub read_at : Answers → Bytes → Opened FileAt
read_at answers path = do
  image ← or_refused (answers.held path) NotFound
  Found (record { path = path; image = image })

-- a file that stands at a path, where one was found
abbrev pub read_found : Answers → Option Bytes → Opened (Option FileAt)
read_found answers None = Found None
read_found answers (Some path) = do
  file ← read_at answers path
  Found (Some file)

-- The first candidate that is there is read, and no later one. No candidate is the file itself, by the path by which it
-- is known.
unfoldable pub followed : Answers → List Bytes → FileAt → Bytes → Option Bytes → Opened (Option FileAt)
followed answers dirs from target build_id =
    read_found answers (find answers.is_there (candidates dirs (Some (answers.known_as from.path)) target build_id))

-- a link: its target, the build id by which that is looked for too, and the check that it has to pass
pub record Lead : Type 0 where
  pub target : Bytes
  pub build_id : Option Bytes
  pub passes : FileAt → Opened (Unit {0})

-- a file that was found, which has to pass the check of its link
abbrev pub checked : (FileAt → Opened (Unit {0})) → Option FileAt → Opened (Option FileAt)
checked passes None = Found None
checked passes (Some file) = do
  passed ← passes file
  Found (Some file)

-- The file to which a link leads. There is none without a link, and where no candidate is there.
unfoldable pub led : Answers → List Bytes → FileAt → Option Lead → Opened (Option FileAt)
led answers dirs from None = Found None
led answers dirs from (Some lead) = do
  file ← followed answers dirs from lead.target lead.build_id
  checked lead.passes file

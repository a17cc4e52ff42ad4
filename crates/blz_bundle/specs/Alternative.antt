-- The file that several debug files share, by its build id (GNU debug links, `.gnu_debugaltlink`).
use Rattle.std.specs.Prelude.{[], List, Option, Some, None}
use Rattle.std.specs.Option.{option_map}
use Rattle.blz_error.specs.Texts.{Bytes}
use Rattle.blz_error.specs.declared.kind.ErrorKind.TheVariants.{InvalidData}
use Rattle.blz_links.specs.BuildIds.{build_id_of}
use Rattle.blz_links.specs.LinkReads.{debug_altlink_in}
use Rattle.blz_links.specs.LinkValues.{DebugAltlinkValue}
use Rattle.blz_bundle.specs.FileAnswers.{Answers}
use Rattle.blz_bundle.specs.Following.{Lead, led}
use Rattle.blz_bundle.specs.OpenFiles.{FileAt}
use Rattle.blz_bundle.specs.Opened.{Opened, Refused, ◌>>=◌, of_part, same_bytes}

-- A build id that is missing agrees with none; there are no bytes of it.
abbrev pub same_build_id : Option Bytes → Bytes → Opened (Unit {0})
same_build_id None recorded = Refused InvalidData (Some ([], recorded))
same_build_id (Some actual) recorded = same_bytes actual recorded

-- The file has the build id that was recorded.
abbrev pub has_build_id : Bytes → FileAt → Opened (Unit {0})
has_build_id recorded file = same_build_id (build_id_of file.image) recorded

-- the link to the alternative file, which has to have the build id that was recorded
abbrev pub altlink_lead : DebugAltlinkValue → Lead
altlink_lead link = record { target = link.path; build_id = Some link.build_id; passes = has_build_id link.build_id }

-- the alternative file of the debug file
unfoldable pub alternative : Answers → List Bytes → FileAt → Opened (Option FileAt)
alternative answers dirs debug = do
  link ← of_part (debug_altlink_in debug.image)
  led answers dirs debug (option_map altlink_lead link)

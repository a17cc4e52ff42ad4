-- The supplementary file that several debug files share (DWARF 5 section 7.3.6).
use Rattle.std.specs.Prelude.{[], ◌∷◌, List, Option, None, option_and_then}
use Rattle.std.specs.Option.{option_map}
use Rattle.blz_error.specs.Texts.{Bytes}
use Rattle.blz_error.specs.declared.kind.ErrorKind.TheVariants.{InvalidData}
use Rattle.blz_links.specs.LinkReads.{debug_sup_in}
use Rattle.blz_links.specs.LinkValues.{DebugSupValue}
use Rattle.blz_bundle.specs.FileAnswers.{Answers}
use Rattle.blz_bundle.specs.Following.{Lead, led}
use Rattle.blz_bundle.specs.OpenFiles.{FileAt}
use Rattle.blz_bundle.specs.Opened.{Opened, ◌>>=◌, of_part, or_refused, agreeing, same_bytes}

-- The file says that it is a supplementary one, and has the checksum that was recorded.
abbrev pub is_supplementary : Bytes → FileAt → Opened (Unit {0})
is_supplementary recorded file = do
  read ← of_part (debug_sup_in file.image)
  section ← or_refused read InvalidData
  flag ← agreeing section.is_supplementary (0 ∷ []) (1 ∷ [])
  same_bytes section.checksum recorded

-- A supplementary file has no path, and so leads to no other.
abbrev pub sup_lead : DebugSupValue → Option Lead
sup_lead sup = option_map (λ path. let lead : Lead = record { target = path; build_id = None; passes = is_supplementary sup.checksum } in lead) sup.path

-- the supplementary file of the debug file
unfoldable pub supplementary : Answers → List Bytes → FileAt → Opened (Option FileAt)
supplementary answers dirs debug = do
  sup ← of_part (debug_sup_in debug.image)
  led answers dirs debug (option_and_then sup_lead sup)

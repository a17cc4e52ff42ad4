-- The debug file of an image, by its link (GNU debug links, Separate Debug Files).
use Rattle.std.specs.Prelude.{ℕ, ◌==◌, List, Option}
use Rattle.std.specs.Int.{w32, to_be_bytes}
use Rattle.std.specs.Option.{option_map}
use Rattle.blz_error.specs.Texts.{Bytes}
use Rattle.blz_links.specs.BuildIds.{build_id_of}
use Rattle.blz_links.specs.Checksums.{checksum_of}
use Rattle.blz_links.specs.LinkReads.{debug_link_in}
use Rattle.blz_links.specs.LinkValues.{DebugLinkValue}
use Rattle.blz_bundle.specs.FileAnswers.{Answers}
use Rattle.blz_bundle.specs.Following.{Lead, led}
use Rattle.blz_bundle.specs.OpenFiles.{FileAt}
use Rattle.blz_bundle.specs.Opened.{Opened, ◌>>=◌, of_part, agreeing}

-- four bytes, the greatest first
abbrev pub checksum_bytes : ℕ → Bytes
checksum_bytes checksum = to_be_bytes w32 checksum

-- The file's bytes have the checksum that was recorded.
abbrev pub has_checksum : ℕ → FileAt → Opened (Unit {0})
has_checksum recorded file = agreeing (checksum_of file.image == recorded) (checksum_bytes (checksum_of file.image)) (checksum_bytes recorded)

-- The debug file is looked for by the image's build id too.
abbrev pub link_lead : Bytes → DebugLinkValue → Lead
link_lead image link = record { target = link.file; build_id = build_id_of image; passes = has_checksum link.checksum }

-- the debug file of the image
unfoldable pub linked : Answers → List Bytes → FileAt → Opened (Option FileAt)
linked answers dirs main = do
  link ← of_part (debug_link_in main.image)
  led answers dirs main (option_map (link_lead main.image) link)

-- What holds between what is answered of addresses, what is told of names, and places of the file.
use Rattle.std.specs.Prelude.{◌≡◌, ◌<◌, ◌^◌, ℕ, [], ◌∷◌, true, false, List, length, Some}
use Rattle.std.specs.List.{All}
use Rattle.std.specs.Option.{unwrap_or}
use Rattle.blz_elf.specs.Infos.{Info}
use Rattle.blz_error.specs.Texts.{Bytes}
use Rattle.blz_image.specs.Segments.{ComesBack}
use Rattle.blz_model.specs.Part.{Good}
use Rattle.blz_resolver.specs.Books.{Book}
use Rattle.blz_resolver.specs.FileTexts.{texts_of}
use Rattle.blz_resolver.specs.Images.{ImageSet}
use Rattle.blz_units.specs.UnitAnswers.{functions_named}
use Rattle.blz_listings.specs.FindTexts.{find_text, infos_text}

-- the text for a name has at least one line, and each line tells an address
pub record IsTold (images : ImageSet) (name : Bytes) : Type 0 where
  pub infos : List Info
  pub some : 0 < length infos
  pub text : find_text false (name ∷ []) images ≡ Good (infos_text false infos)

-- the debug information has functions of a name
pub record HasFunction (b : Book) (name : Bytes) : Type 0 where
  pub first : ℕ × ℕ
  pub others : List (ℕ × ℕ)
  pub found : functions_named (texts_of b.files) b.files b.table name ≡ Some (first ∷ others)

-- The place of some bytes in the file of an image leads back to their address, where no two of its segments share a place.
abbrev pub LeadsBack : Bytes → Info → Type 0
LeadsBack image info = info.addr < 2 ^ 64 → ComesBack image info.addr (unwrap_or info.size 0) info.file_offset

-- a text has lines whose places lead back to their addresses
pub record LeadBack (images : ImageSet) (text : Bytes) : Type 0 where
  pub infos : List Info
  pub lines : text ≡ infos_text true infos
  pub back : All (LeadsBack images.main.image) infos

-- What is printed of the addresses of names, and how its words ask for it.
use Rattle.std.specs.Prelude.{ℕ, Bool, true, false, List, [], ◌∷◌, ◌++◌, codes, decimal, Option, Some, None, if◌then◌else◌}
use Rattle.std.specs.Str.{bytes_eq}
use Rattle.blz_elf.specs.Infos.{Info}
use Rattle.blz_elf.specs.Listings.{Listing}
use Rattle.blz_elf.specs.declared.find_addr_opts.FindAddrOpts.{FindAddrOpts}
use Rattle.blz_error.specs.Texts.{Bytes}
use Rattle.blz_error.specs.declared.kind.ErrorKind.{ErrorKind}
use Rattle.blz_model.specs.Part.{Part, Good, Broken, ◌>>=◌}
use Rattle.blz_program.specs.Outcomes.{ProgramTexts}
use Rattle.blz_program.specs.PrintedText.{hex_digits, line_feed}
use Rattle.blz_records.specs.declared.sym_type.SymType.TheVariants as sym
use Rattle.blz_resolver.specs.FunctionNames.{addresses_of, listing_in}
use Rattle.blz_resolver.specs.Images.{ImageSet}
use Rattle.blz_listings.specs.Questions.{Question}

-- how the program speaks of itself; it reads no lines of a file
abbrev pub find_texts : ProgramTexts
find_texts = record { name = codes "blz_find"; usage = codes "[--file-offset] IMAGE [NAME..]"; bad_line = [] }

-- ---- as it is printed

-- a size in decimal, or `?` where there is none
abbrev pub size_text : Option ℕ → Bytes
size_text None = codes "?"
size_text (Some size) = decimal size

-- a place in the file, or `?` where there is none
abbrev pub offset_text : Option ℕ → Bytes
offset_text None = codes "?"
offset_text (Some offset) = hex_digits offset

-- the same behind a blank, where it is asked
abbrev pub offset_if : Bool → Option ℕ → Bytes
offset_if false offset = []
offset_if true offset = codes " " ++ offset_text offset

-- address, size, place in the file where it is asked, and name, on a line of their own
abbrev pub info_text : Bool → Info → Bytes
info_text asked info = hex_digits info.addr ++ codes " " ++ size_text info.size ++ offset_if asked info.file_offset ++ codes " " ++ info.name ++ line_feed

-- each of them
abbrev pub infos_text : Bool → List Info → Bytes
infos_text asked [] = []
infos_text asked (info ∷ infos) = info_text asked info ++ infos_text asked infos

-- the infos of a name, or that nothing has it
abbrev pub name_text : Bool → Bytes → List Info → Bytes
name_text asked name [] = codes "?? " ++ name ++ line_feed
name_text asked name (info ∷ infos) = infos_text asked (info ∷ infos)

-- ---- what is printed

-- functions and variables are asked for
abbrev pub asking : Bool → FindAddrOpts
asking file_offset = record { file_offset = file_offset; sym_type = sym.Undefined }

-- each name in turn, or the first mark
unfoldable pub names_text : FindAddrOpts → ImageSet → List Bytes → Part Bytes
names_text opts images [] = Good []
names_text opts images (name ∷ names) = do
  infos ← addresses_of images true name opts
  rest ← names_text opts images names
  Good (name_text opts.file_offset name infos ++ rest)

-- a text, unless there is a mark
abbrev pub unless_mark : Option ErrorKind → Bytes → Part Bytes
unless_mark None text = Good text
unless_mark (Some k) text = Broken k

-- a whole listing, or its mark
abbrev pub listed_text : Bool → Listing → Part Bytes
listed_text asked listing = unless_mark listing.mark (infos_text asked listing.shown)

-- the text for the names; without a name, for all that have one
unfoldable pub find_text : Bool → List Bytes → ImageSet → Part Bytes
find_text file_offset [] images = listed_text file_offset (listing_in images true (asking file_offset))
find_text file_offset (name ∷ names) images = names_text (asking file_offset) images (name ∷ names)

-- ---- what is asked

-- the text of names in the image at a path
abbrev pub find_question : Bool → Bytes → List Bytes → Question
find_question file_offset path names = record { path = path; text_for = find_text file_offset names }

-- One word is a path, whatever it begins with; of more the first may be the option. No word is not of the form.
abbrev pub find_asked : List Bytes → Option Question
find_asked [] = None
find_asked (path ∷ []) = Some (find_question false path [])
find_asked (first ∷ second ∷ names) = if bytes_eq first (codes "--file-offset") then Some (find_question true second names) else Some (find_question false first (second ∷ names))

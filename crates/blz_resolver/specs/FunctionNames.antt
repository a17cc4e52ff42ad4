-- The functions of a name, and the listing of all functions.
use Rattle.std.specs.Prelude.{ℕ, zero, suc, ◌+◌, Bool, true, false, not, List, [], ◌∷◌, length, map, filter, Option, Some, None, is_some, if◌then◌else◌}
use Rattle.std.specs.Option.{unwrap_or}
use Rattle.blz_error.specs.declared.kind.ErrorKind.TheVariants.{Unsupported}
use Rattle.blz_model.specs.Part.{Part, Good, ◌>>=◌, check, all_good}
use Rattle.blz_records.specs.declared.sym_type.SymType.{SymType}
use Rattle.blz_records.specs.declared.sym_type.SymType.TheVariants as sym
use Rattle.blz_elf.specs.Infos.{Info, image_addresses}
use Rattle.blz_elf.specs.Listings.{Listing, listing_of, listing_if, then_list, broken_by, image_symbols}
use Rattle.blz_image.specs.Segments.{image_file_place}
use Rattle.blz_elf.specs.declared.find_addr_opts.FindAddrOpts.{FindAddrOpts}
use Rattle.blz_info.specs.Marks.{or_invalid}
use Rattle.blz_info.specs.declared.text.Texts.{Texts}
use Rattle.blz_functions.specs.FunctionList.{Lists}
use Rattle.blz_units.specs.UnitAnswers.{unit_functions, functions_named}
use Rattle.blz_units.specs.UnitSites.{call_name}
use Rattle.blz_functions.specs.declared.functions.Function.{Function}
use Rattle.blz_resolver.specs.AddressAnswers.{function_numbered, begin_of, size_of}
use Rattle.blz_resolver.specs.Books.{Book, frame_of}
use Rattle.blz_resolver.specs.FileTexts.{texts_of}
use Rattle.blz_bundle.specs.Images.{ImageSet, debug_file}

-- ---- a function as it is listed

-- the place of some bytes in the image's file, where it is asked
unfoldable pub place_if : Bool → ImageSet → ℕ → ℕ → Part (Option ℕ)
place_if asked images addr size = if asked then image_file_place images.main.image addr size else Good None

-- a function of a name; a size that is not known counts as 0
unfoldable pub info_named : ImageSet → Bool → Function → List ℕ → Part Info
info_named images asked function name = do
  place ← place_if asked images (begin_of function.bounds) (unwrap_or (size_of function.bounds) 0)
  Good (record {
    name = name;
    addr = begin_of function.bounds;
    size = Some (unwrap_or (size_of function.bounds) 0);
    sym_type = sym.Function;
    file_offset = place;
    module_name = images.main.module_name;
  })

-- a function as it is listed; its name has to be UTF-8
unfoldable pub function_info : Texts → ImageSet → Bool → Function → Part Info
function_info t images asked function = do
  name ← call_name t function.name
  info_named images asked function name

-- ---- the functions of a name

unfoldable pub numbered_info : Texts → Book → Bool → ℕ × ℕ → Part Info
numbered_info t b asked at = function_numbered b at >>= function_info t b.images asked

-- what was found, and where nothing was the symbols of the debug file
unfoldable pub infos_or_symbols : Texts → Book → List ℕ → Bool → List (ℕ × ℕ) → Part (List Info)
infos_or_symbols t b name asked [] = image_addresses (debug_file b.images).image (debug_file b.images).module_name name asked
infos_or_symbols t b name asked (at ∷ rest) = all_good (map (numbered_info t b asked) (at ∷ rest))

-- of each unit the first function of a name
unfoldable pub addresses_in : Texts → Book → List ℕ → Bool → Part (List Info)
addresses_in t b name asked = do
  found ← or_invalid (functions_named t b.files b.table name)
  infos_or_symbols t b name asked found

abbrev pub is_variable : SymType → Bool
is_variable sym.Undefined = false
is_variable sym.Function = false
is_variable sym.Variable = true

-- The addresses of a name. Variables of debug information are not looked for.
unfoldable pub addresses_of : ImageSet → Bool → List ℕ → FindAddrOpts → Part (List Info)
addresses_of images false name opts = image_addresses images.main.image images.main.module_name name opts.file_offset
addresses_of images true name opts = do
  supported ← check (not (is_variable opts.sym_type)) Unsupported
  book ← frame_of images
  addresses_in (texts_of book.files) book name opts.file_offset

-- ---- all functions

abbrev pub named_only : List Function → List Function
named_only functions = filter (λ (function : Function). is_some function.name) functions

abbrev pub lists_listing : Texts → ImageSet → Bool → Lists → Listing
lists_listing t images asked lists = listing_of (map (function_info t images asked) (named_only lists.functions))

-- the functions of a unit that have a name
abbrev pub unit_listing : Texts → Book → Bool → ℕ → Listing
unit_listing t b asked k = listing_if (lists_listing t b.images asked) (or_invalid (unit_functions b.files b.table k))

-- those of n units from a number on
unfoldable pub units_listing : Texts → Book → Bool → ℕ → ℕ → Listing
units_listing t b asked k zero = record { shown = []; mark = None }
units_listing t b asked k (suc n) = then_list (unit_listing t b asked k) (units_listing t b asked (k + 1) n)

abbrev pub functions_listing : Texts → Book → Bool → Listing
functions_listing t b asked = units_listing t b asked 0 (length b.table.kept)

abbrev pub book_listing : Bool → Book → Listing
book_listing asked b = functions_listing (texts_of b.files) b asked

-- The listing of a bundle. With debug information it has no variables.
unfoldable pub listing_in : ImageSet → Bool → FindAddrOpts → Listing
listing_in images false opts = image_symbols images.main.image opts.sym_type opts.file_offset
listing_in images true opts = if is_variable opts.sym_type then broken_by Unsupported else listing_if (book_listing opts.file_offset) (frame_of images)

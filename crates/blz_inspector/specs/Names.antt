-- What is found of names, and listed, in the images of a file.
use Rattle.std.specs.Prelude.{Bool, true, false, List, map, string_bytes}
use Rattle.std.specs.declared.string.String.{String}
use Rattle.blz_error.specs.Texts.{Bytes}
use Rattle.blz_model.specs.Part.{Part, Good, ◌>>=◌, all_good}
use Rattle.blz_records.specs.declared.sym_type.SymType.TheVariants.{Undefined}
use Rattle.blz_elf.specs.Infos.{Info}
use Rattle.blz_elf.specs.Listings.{Listing}
use Rattle.blz_elf.specs.declared.find_addr_opts.FindAddrOpts.{FindAddrOpts}
use Rattle.blz_bundle.specs.Images.{ImageSet}
use Rattle.blz_resolver.specs.Books.{framed}
use Rattle.blz_resolver.specs.FunctionNames.{addresses_of, listing_in}

-- symbols of all types, with their places in the file
abbrev pub with_places : FindAddrOpts
with_places = record { file_offset = true; sym_type = Undefined }

abbrev pub infos_of : ImageSet → Bool → Bytes → Part (List Info)
infos_of images debug_syms name = addresses_of images debug_syms name with_places

abbrev pub infos_named : {Z : Type 0} → ImageSet → Bool → String Z → Part (List Info)
infos_named images debug_syms name = infos_of images debug_syms (string_bytes name)

-- With debug information the frame is read first, also where no name is asked.
abbrev pub framed_if : Bool → ImageSet → Part (Unit {0})
framed_if false images = Good tt
framed_if true images = framed images

-- the infos of each name, in the order of the names
unfoldable pub found_in : {Z : Type 0} → Bool → List (String Z) → ImageSet → Part (List (List Info))
found_in debug_syms names images = do
  read ← framed_if debug_syms images
  all_good (map (infos_named images debug_syms) names)

-- all symbols
abbrev pub listed_in : Bool → ImageSet → Listing
listed_in debug_syms images = listing_in images debug_syms with_places

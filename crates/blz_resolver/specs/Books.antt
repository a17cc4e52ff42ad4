-- What every answer of a bundle with debug information stands on: its files, and the table of their units.
use Rattle.std.specs.Prelude.{Option, Some, None, option_map, true}
use Rattle.std.specs.FinMap as map
use Rattle.blz_error.specs.Texts.{Bytes}
use Rattle.blz_model.specs.Part.{Part, Good, ◌>>=◌}
use Rattle.blz_info.specs.Contents.{Contents}
use Rattle.blz_info.specs.Marks.{or_invalid}
use Rattle.blz_info.specs.FileSections.{FileSections}
use Rattle.blz_split.specs.PackageParts.{PackageParts, package_of}
use Rattle.blz_units.specs.BuiltUnits.{Files}
use Rattle.blz_units.specs.UnitTables.{UnitTable, sups_checked, units_of}
use Rattle.blz_resolver.specs.DebugSections.{DebugImage, debug_image, sections_of}
use Rattle.blz_bundle.specs.Images.{NamedImage, ImageSet, debug_file}

-- ---- the debug information of all images of a bundle

-- what is read of an image that may not be there
abbrev pub if_there : {A : Type 0} → (Bytes → Part A) → Option NamedImage → Part (Option A)
if_there read None = Good None
if_there read (Some file) = read file.image >>= λ x. Good (Some x)

-- the sections of a supplementary file
abbrev pub as_sup : DebugImage → FileSections
as_sup d = record (sections_of d) { sup = true }

-- the supplementary file (DWARF 5 section 7.3.6), whose unit headers have to be whole
unfoldable pub sup_image : Bytes → Part DebugImage
sup_image image = do
  debug ← debug_image image
  checked ← or_invalid (sups_checked (Some (as_sup debug)))
  Good debug

-- the debug information of the debug file and of the supplementary file, and the sections of the package
pub record DebugImages : Type 0 where
  pub main : DebugImage
  pub sup : Option DebugImage
  pub package_parts : Option PackageParts

-- the debug file's, then the supplementary file's, then the package
unfoldable pub debug_images : ImageSet → Part DebugImages
debug_images images = do
  main ← debug_image (debug_file images).image
  sup ← if_there sup_image images.supplementary
  parts ← if_there package_of images.package_file
  Good (record { main = main; sup = sup; package_parts = parts })

-- ---- as the files that units are read from

-- `.debug_str` of a supplementary file
abbrev pub sup_strings_of : DebugImage → Contents
sup_strings_of d = (sections_of d).strings

-- sections that refer to the strings of a supplementary file
abbrev pub beside : DebugImage → Option DebugImage → FileSections
beside main sup = record (sections_of main) { sup_strings = option_map sup_strings_of sup }

-- the files that units are read from
abbrev pub files_in : DebugImages → Files
files_in d = record { main = beside d.main d.sup; «package» = d.package_parts; none = map.empty; sup = option_map as_sup d.sup }

-- ---- the book

-- a bundle, its files and the table of their units
pub record Book : Type 0 where
  pub images : ImageSet
  pub files : Files
  pub table : UnitTable

-- What is read before any answer. Every unit header and every set of address ranges has to be whole.
unfoldable pub frame_of : ImageSet → Part Book
frame_of images = do
  debug ← debug_images images
  table ← or_invalid (units_of (files_in debug))
  Good (record { images = images; files = files_in debug; table = table })

-- whether it can be read, and by which mark not
abbrev pub framed : ImageSet → Part (Unit {0})
framed images = frame_of images >>= λ book. Good tt

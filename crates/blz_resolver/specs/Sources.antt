-- Which file a parser stands for.
use Rattle.std.specs.Prelude.{◌≡◌, Bool, true, false}
use Rattle.blz_elf.specs.Sources.{Source}
use Rattle.blz_bundle.specs.Images.{NamedImage, ImageSet, debug_file}

pub record IsOf (file : NamedImage) (parser : Source) : Type 0 where
  pub image : parser.image ≡ file.image
  pub module_name : parser.module_name ≡ file.module_name

abbrev pub IsOfDebugFile : ImageSet → Source → Type 0
IsOfDebugFile images parser = IsOf (debug_file images) parser

-- the file whose symbols are asked: the debug file's, and without debug information the image's own
abbrev pub asked_file : ImageSet → Bool → NamedImage
asked_file images true = debug_file images
asked_file images false = images.main

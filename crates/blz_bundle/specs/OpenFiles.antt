-- The files that are open, by their paths.
use Rattle.std.specs.Prelude.{Option, Some, None}
use Rattle.std.specs.Option.{option_map}
use Rattle.blz_error.specs.Texts.{Bytes}
use Rattle.blz_bundle.specs.Images.{NamedImage, ImageSet}

-- the path of a file, and what it holds
pub record FileAt : Type 0 where
  pub path : Bytes
  pub image : Bytes

-- its module is named by its path
abbrev pub named : FileAt → NamedImage
named file = record { image = file.image; module_name = Some file.path }

-- a file and its companions
pub record FileSet : Type 0 where
  pub main : FileAt
  pub linkee : Option FileAt
  pub supplementary : Option FileAt
  pub package_file : Option FileAt

-- the images of a file and its companions, each with its path as the name of its module
abbrev pub images_in : FileSet → ImageSet
images_in files = record {
  main = named files.main;
  linkee = option_map named files.linkee;
  supplementary = option_map named files.supplementary;
  package_file = option_map named files.package_file;
}

-- the debug file: what the image's link leads to, else the image
abbrev pub debug_of : FileAt → Option FileAt → FileAt
debug_of main None = main
debug_of main (Some linkee) = linkee

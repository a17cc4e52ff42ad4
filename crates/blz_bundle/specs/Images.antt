-- The images of which answers are made.
use Rattle.std.specs.Prelude.{Option, Some, None}
use Rattle.blz_error.specs.Texts.{Bytes}

-- an image, and the name of its module
pub record NamedImage : Type 0 where
  pub image : Bytes
  pub module_name : Option Bytes

-- an image and its companions
pub record ImageSet : Type 0 where
  pub main : NamedImage
  pub linkee : Option NamedImage
  pub supplementary : Option NamedImage
  pub package_file : Option NamedImage

-- what a link leads to, and without one the image itself
abbrev pub linked_or : NamedImage → Option NamedImage → NamedImage
linked_or main None = main
linked_or main (Some linkee) = linkee

-- the debug file: what the image's link leads to, else the image
abbrev pub debug_file : ImageSet → NamedImage
debug_file images = linked_or images.main images.linkee

-- an image that stands alone
abbrev pub alone : NamedImage → ImageSet
alone main = record { main = main; linkee = None; supplementary = None; package_file = None }

-- What a borrowed bundle stands for.
use Rattle.std.specs.Option.{option_map}
use Rattle.blz_bundle.specs.Images.{NamedImage, ImageSet}
use Rattle.blz_bundle.specs.declared.bundle.Companion.{Companion}
use Rattle.blz_bundle.specs.declared.bundle.Bundle.{Bundle}

-- a companion as its bytes and the name of its module
abbrev pub companion_view : Companion → NamedImage
companion_view c = record { image = c.image.now; module_name = option_map (λ m. m.now) c.«module» }

-- an image and its companions as their bytes and the names of their modules
abbrev pub bundle_view : Bundle → ImageSet
bundle_view b = record {
  main = record { image = b.image.now; module_name = option_map (λ m. m.now) b.«module» };
  linkee = option_map companion_view b.linkee;
  supplementary = option_map companion_view b.supplementary;
  package_file = option_map companion_view b.«package»;
}

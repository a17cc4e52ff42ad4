-- What an owned bundle stands for.
use Rattle.std.specs.Prelude.{string_bytes}
use Rattle.std.specs.Option.{option_map}
use Rattle.blz_bundle.specs.Images.{ImageSet}
use Rattle.blz_bundle.specs.OpenFiles.{FileAt, images_in}
use Rattle.blz_bundle.specs.declared.open_file.OpenFile.{OpenFile}
use Rattle.blz_bundle.specs.declared.owned_bundle.OwnedBundle.TheInside.{Inside}

abbrev pub file_at : OpenFile → FileAt
file_at file = record { path = string_bytes file.path; image = file.image.items }

abbrev pub inside_view : Inside → ImageSet
inside_view b = images_in (record {
  main = file_at b.main;
  linkee = option_map file_at b.linkee;
  supplementary = option_map file_at b.supplementary;
  package_file = option_map file_at b.«package»;
})

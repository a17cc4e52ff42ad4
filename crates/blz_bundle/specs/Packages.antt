-- The package of split debug information (DWARF 5 section 7.3.5).
use Rattle.std.specs.Prelude.{◌++◌, Option, codes}
use Rattle.std.specs.Option.{option_map}
use Rattle.blz_error.specs.Texts.{Bytes}
use Rattle.blz_bundle.specs.FileAnswers.{Answers}
use Rattle.blz_bundle.specs.OpenFiles.{FileAt}

-- beside the image, under its path with `.dwp` behind it
abbrev pub package_path : Bytes → Bytes
package_path path = path ++ codes ".dwp"

-- the package where it is there
abbrev pub package_of : Answers → FileAt → Option FileAt
package_of answers main = option_map (λ image. let f : FileAt = record { path = package_path main.path; image = image } in f) (answers.held (package_path main.path))

-- What is read beside an image.
use Rattle.std.proofs.Common.{◌≡◌, Option, refl}
use Rattle.std.specs.Option.{option_map}
use Rattle.blz_error.specs.Texts.{Bytes}
use Rattle.blz_bundle.specs.FileAnswers.{Answers}
use Rattle.blz_bundle.specs.OpenFiles.{FileAt}
use Rattle.blz_bundle.specs.Packages.{package_of, package_path}

pub package_at : (a : Answers) (main : FileAt) (path : Bytes) (held : Option Bytes) → path ≡ package_path main.path → a.held path ≡ held → package_of a main ≡ option_map (λ image. let f : FileAt = record { path = path; image = image } in f) held
package_at a main path held is there = rw (is, ← there, is) refl

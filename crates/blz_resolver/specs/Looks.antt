-- How many entries of the indexes an answer from what was prepared looks at.
use Rattle.std.specs.Prelude.{◌≡◌, ℕ, Option, Some, None, Ok, ⊤}
use Rattle.blz_model.specs.Part.{Good}
use Rattle.blz_units.specs.UnitAnswers.{function_at}
use Rattle.blz_index.specs.UnitsWarm.{LooksFew}
use Rattle.blz_index.specs.declared.units.Units.{Units}
use Rattle.blz_resolver.specs.Books.{Book, frame_of}
use Rattle.blz_bundle.specs.Images.{ImageSet}

-- Where a function answers, the looks are those of two halvings, if the orders of both lists were accepted and no two of
-- their ranges share an address.
abbrev pub LooksFewAt : Book → Units → ℕ → ℕ → Type 0
LooksFewAt b u addr looks = (k n : ℕ) → function_at b.files b.table addr ≡ Some (Some (k, n)) → LooksFew u (Ok (Some (k, n))) looks

-- the same of a bundle
abbrev pub LooksFewIn : ImageSet → Units → ℕ → ℕ → Type 0
LooksFewIn images u addr looks = (b : Book) → frame_of images ≡ Good b → LooksFewAt b u addr looks

abbrev pub LooksFewIf : ImageSet → Option Units → ℕ → ℕ → Type 0
LooksFewIf images None addr looks = ⊤
LooksFewIf images (Some u) addr looks = LooksFewIn images u addr looks

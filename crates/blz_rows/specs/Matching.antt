-- Which paths a file's name means: the path itself, or one that ends in `/` and the name.
use Rattle.std.specs.Prelude.{ℕ, ◌||◌, Bool, List, ◌∷◌, nat_eq}
use Rattle.std.specs.List.{ends_with}
use Rattle.std.specs.Str.{bytes_eq}
use Rattle.blz_bytes.specs.Joined.{slash}

abbrev pub matches : List ℕ → List ℕ → Bool
matches path file = bytes_eq path file || ends_with nat_eq path (slash ∷ file)

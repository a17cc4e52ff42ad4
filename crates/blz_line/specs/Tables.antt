-- Lists that are kept as equal entries in front of listed ones.
use Rattle.std.specs.Prelude.{ℕ, List, [], Option, Some, None, replicate}

-- the equal entries, by how many there are and what each is
abbrev pub copies : {T : Type 0} → Option (ℕ × T) → List T
copies None = []
copies (Some r) = replicate r.0 r.1

-- The rule of two parts of a path.
use Rattle.std.specs.Prelude.{ℕ, ◌==◌, ◌||◌, ◌-◌, Bool, false, List, [], ◌∷◌, ◌++◌, length, slice_get, Option, Some, None, if◌then◌else◌}

-- the byte `/`
abbrev pub slash : ℕ
slash = 0x2f

-- whether a byte is there and is `/`
abbrev pub is_slash : Option ℕ → Bool
is_slash None = false
is_slash (Some b) = b == slash

-- what stands between a head and a tail: nothing after an empty head or one that ends in `/`
abbrev pub separator_of : List ℕ → List ℕ
separator_of head = if length head == 0 || is_slash (slice_get head (length head - 1)) then [] else slash ∷ []

-- a tail that begins with `/` stands alone
abbrev pub joined : List ℕ → List ℕ → List ℕ
joined head tail = if is_slash (slice_get tail 0) then tail else head ++ separator_of head ++ tail

-- Lines with their counts, as a plain list.
use Rattle.std.specs.Prelude.{ℕ, ◌==◌, ◌&&◌, nat_eq, zero, suc, Bool, List, [], ◌∷◌, ◌++◌, if◌then◌else◌}
use Rattle.std.specs.List.{list_any, position_or_len}
use Rattle.std.specs.Cmp.Lexicographic.{pointwise}
use Rattle.blz_error.specs.Texts.{Bytes}

-- a line of a path, the address that it was first met at, and its count
pub record LineEntry : Type 0 where
  pub path : Bytes
  pub line : ℕ
  pub addr : ℕ
  pub count : ℕ

-- whether an entry stands for a line of a path
abbrev pub is_entry_of : Bytes → ℕ → LineEntry → Bool
is_entry_of path line e = pointwise nat_eq path e.path && line == e.line

-- the index of a line of a path, where one is, else that of a new one
abbrev pub found_or_last : Bytes → ℕ → List LineEntry → ℕ
found_or_last path line entries = position_or_len (is_entry_of path line) entries

-- the entries, with a line of a path last where it is new
abbrev pub met : Bytes → ℕ → ℕ → List LineEntry → List LineEntry
met path line addr entries = if list_any (is_entry_of path line) entries then entries
    else entries ++ record { path = path; line = line; addr = addr; count = 0 } ∷ []

-- the entries, with another count at an index
abbrev pub recount : (ℕ → ℕ) → List LineEntry → ℕ → List LineEntry
recount f [] i = []
recount f (e ∷ es) zero = record e { count = f e.count } ∷ es
recount f (e ∷ es) (suc i) = e ∷ recount f es i

-- the address that an entry was first met at, and its count
abbrev pub first_and_count : LineEntry → ℕ × ℕ
first_and_count e = (e.addr, e.count)

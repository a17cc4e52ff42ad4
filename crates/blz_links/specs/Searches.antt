-- A search for the file of a link, as it goes on.
use Rattle.std.specs.Prelude.{◌≡◌, ℕ, ◌+◌, Bool, true, false, List, [], ◌∷◌, length, filter, Option, Some, None, Result, Ok, Err, string_bytes, if◌then◌else◌}
use Rattle.std.specs.declared.string.String.{String}
use Rattle.blz_links.specs.Candidates.{is_other}

-- the paths that were not looked at yet, the linker itself among them, the linker, and whether the search has ended
pub record Search : Type 0 where
  pub paths : List (List ℕ)
  pub linker : Option (List ℕ)
  pub has_ended : Bool

-- at most so many answers are left: the paths, or want of memory in place of one
abbrev pub answers_left : Search → ℕ
answers_left s = length s.paths + (if s.has_ended then 0 else 1)

-- the candidates that are left
abbrev pub left_of : Search → List (List ℕ)
left_of s = filter (is_other s.linker) s.paths

-- no candidate is left, and no other answer
abbrev pub IsOver : Search → Type 0
IsOver s = (left_of s ≡ []) × (s.has_ended ≡ true)

-- A step gives the first of them. After the last the search is over, and after want of memory too; what is over gives
-- neither a candidate nor want of memory.
abbrev pub Steps : {Z E : Type 0} → Search → Option (Result (String Z) E) → Search → Type 0
Steps old None new = (left_of old ≡ []) × IsOver new
Steps old (Some (Ok path)) new = (old.has_ended ≡ false) × (left_of old ≡ string_bytes path ∷ left_of new)
Steps old (Some (Err e)) new = (old.has_ended ≡ false) × IsOver new

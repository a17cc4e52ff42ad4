-- All ranges that cover an address, in their order.
use Rattle.std.specs.Prelude.{◌≡◌, ℕ, suc, ◌+◌, Bool, List, [], ◌∷◌, map, Some, nat_lt, if◌then◌else◌}
use Rattle.std.specs.List.{slice_get}
use Rattle.blz_ranges.specs.declared.span.Span.{Span}
use Rattle.blz_ranges.specs.declared.placed.Placed.{Placed}
use Rattle.blz_ranges.specs.Best.{best, next, covers}

-- a range put in front of those that begin at or below it
unfoldable pub put : Placed → List Placed → List Placed
put p [] = p ∷ []
put p (q ∷ rest) = if nat_lt p.span.begin q.span.begin then q ∷ put p rest else p ∷ (q ∷ rest)

-- those that pass, the greatest begin first, then the earlier place; at is the place of the first
unfoldable pub in_turn : (ℕ → Span → Bool) → ℕ → List Span → List Placed
in_turn test at [] = []
in_turn test at (s ∷ rest) = if test at s then put (record { place = at; span = s }) (in_turn test (at + 1) rest) else in_turn test (at + 1) rest

-- the places of the ranges that cover an address, the greatest begin first, then the earlier place
abbrev pub covering : List Span → ℕ → List ℕ
covering spans addr = map (λ (p : Placed). p.place) (in_turn (λ at s. covers s addr) 0 spans)

-- The first is the best one, and behind each stands the next.
pub record IsTurns (spans : List Span) (addr : ℕ) (places : List ℕ) : Type 0 where
  pub first : slice_get places 0 ≡ best spans addr
  pub then_next : (i p : ℕ) → slice_get places i ≡ Some p → slice_get places (suc i) ≡ next spans addr p

-- Ranges in groups. Only ranges of one group are weighed against one another.
use Rattle.std.specs.Prelude.{◌≡◌, ℕ, ◌<◌, ◌≤◌, Bool, false, ◌&&◌, ◌==◌, List, map, Option, Some, None, ◌⊎◌, slice_index_or}
use Rattle.std.specs.List.{slice_get}
use Rattle.blz_ranges.specs.declared.span.Span.{Span}
use Rattle.blz_ranges.specs.declared.grouped.Grouped.{Grouped}
use Rattle.blz_ranges.specs.Best.{best_by, place_of, passes, placed, no_span}

-- whether a range is there and belongs to the group g
abbrev pub group_is : ℕ → Option Grouped → Bool
group_is g None = false
group_is g (Some x) = x.group == g

-- the ranges without their groups
abbrev pub spans_of : List Grouped → List Span
spans_of list = map (λ (x : Grouped). x.span) list

-- a test for the ranges of one group
abbrev pub in_group : List Grouped → ℕ → (ℕ → Span → Bool) → ℕ → Span → Bool
in_group list g test at s = group_is g (slice_get list at) && test at s

-- the best of the ranges of a group that cover an address
abbrev pub best_in : List Grouped → ℕ → ℕ → Option ℕ
best_in list g addr = place_of (best_by (in_group list g (passes addr None)) 0 (spans_of list))

-- the next one, after the one at a place
abbrev pub next_in : List Grouped → ℕ → ℕ → ℕ → Option ℕ
next_in list g addr bound = place_of (best_by (in_group list g (passes addr (Some (placed (spans_of list) bound)))) 0 (spans_of list))

-- a range that belongs to the group g
abbrev pub grouped : ℕ → Span → Grouped
grouped g s = record { group = g; span = s }

abbrev pub no_range : Grouped
no_range = grouped 0 no_span

abbrev pub grouped_at : List Grouped → ℕ → Grouped
grouped_at list place = slice_index_or list place no_range

-- Ranges that are not empty, no two of which share an address.
pub record AreApart (spans : List Span) : Type 0 where
  pub nonempty : (p : ℕ) (s : Span) → slice_get spans p ≡ Some s → s.begin < s.end
  pub apart : (p q : ℕ) (s t : Span) → (p ≡ q → ⊥) → slice_get spans p ≡ Some s → slice_get spans q ≡ Some t → (s.end ≤ t.begin) ⊎ (t.end ≤ s.begin)

-- the same within each group
pub record AreApartInGroups (list : List Grouped) : Type 0 where
  pub nonempty : (p : ℕ) (x : Grouped) → slice_get list p ≡ Some x → x.span.begin < x.span.end
  pub apart : (p q : ℕ) (x y : Grouped) → (p ≡ q → ⊥) → slice_get list p ≡ Some x → slice_get list q ≡ Some y → x.group ≡ y.group → (x.span.end ≤ y.span.begin) ⊎ (y.span.end ≤ x.span.begin)

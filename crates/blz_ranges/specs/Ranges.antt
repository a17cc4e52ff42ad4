-- What the indexes stand for: their ranges, and whether their order was accepted.
use Rattle.std.specs.Prelude.{◌≡◌, ℕ, Bool, true, List, Option, Some, None}
use Rattle.std.specs.List.{slice_get}
use Rattle.blz_ranges.specs.declared.span.Span.{Span}
use Rattle.blz_ranges.specs.declared.grouped.Grouped.{Grouped}
use Rattle.blz_ranges.specs.declared.ordered.Ordered.{Ordered}
use Rattle.blz_ranges.specs.Owned.{Owned, items_of, owner_at}
use Rattle.blz_ranges.specs.declared.skips.Skip.{Skip}
use Rattle.blz_ranges.specs.Best.{best}
use Rattle.blz_ranges.specs.Skipping.{AreSkips}
use Rattle.blz_ranges.specs.Sorted.{IsIndexOf}

pub record GroupedRanges : Type 0 where
  pub list : List Grouped
  pub ordered : Bool

pub record Ranges : Type 0 where
  pub spans : List Span
  pub ordered : Bool

pub record OwnedRanges : Type 0 where
  pub ranges : List (Owned Span)
  pub ordered : Bool

-- what an index keeps beside its list
pub record IsIndexIf (list : List Grouped) (entries : List Ordered) (steps : List Skip) (ordered : Bool) : Type 0 where
  pub index : ordered ≡ true → IsIndexOf list entries
  pub skips : AreSkips entries steps

-- all ranges are of one group
abbrev pub AllInGroup : ℕ → List Grouped → Type 0
AllInGroup g list = (p : ℕ) (x : Grouped) → slice_get list p ≡ Some x → x.group ≡ g

-- the owner of the item at a place that was found
abbrev pub owner_of : {A : Type 0} → List (Owned A) → Option ℕ → Option ℕ
owner_of ranges None = None
owner_of ranges (Some place) = owner_at ranges place

-- the owner of the best range that covers an address
abbrev pub best_owner : List (Owned Span) → ℕ → Option ℕ
best_owner ranges addr = owner_of ranges (best (items_of ranges) addr)

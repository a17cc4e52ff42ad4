-- The entries of an index: ranges in the order of group and begin, each with the greatest end of its group so far.
use Rattle.std.specs.Prelude.{◌≡◌, ℕ, ◌<◌, ◌≤◌, ◌==◌, List, [], ◌∷◌, length, max, Some, if◌then◌else◌}
use Rattle.std.specs.List.{slice_get}
use Rattle.blz_ranges.specs.declared.grouped.Grouped.{Grouped}
use Rattle.blz_ranges.specs.declared.ordered.Ordered.{Ordered}
use Rattle.blz_ranges.specs.Groups.{grouped, grouped_at}

-- the greatest end of a group, which starts again at each
abbrev pub reach_on : ℕ → ℕ → Grouped → ℕ
reach_on group reach x = if x.group == group then max reach x.span.end else x.span.end

abbrev pub entry_of : Grouped → ℕ → ℕ → Ordered
entry_of x place reach = record { group = x.group; span = x.span; place = place; reach = reach }

-- the ranges at the places, in their order, behind ones of a group and a reach
unfoldable pub in_order : List Grouped → ℕ → ℕ → List ℕ → List Ordered
in_order list group reach [] = []
in_order list group reach (p ∷ rest) =
    let x = grouped_at list p in
    entry_of x p (reach_on group reach x) ∷ in_order list x.group (reach_on group reach x) rest

-- the order of entries; of those that begin alike the earlier place stands later
pub record Rises (e f : Ordered) : Type 0 where
  pub later : e.group ≤ f.group
  pub below : e.group ≡ f.group → e.span.begin ≤ f.span.begin
  pub tie : e.group ≡ f.group → e.span.begin ≡ f.span.begin → f.place < e.place

-- where an entry stands in a list
pub record Stands (entries : List Ordered) (place : ℕ) : Type 0 where
  pub at : ℕ
  pub entry : Ordered
  pub is : slice_get entries at ≡ Some entry
  pub place_is : entry.place ≡ place

-- an entry of a group, not behind j, whose end is a reach
pub record Reached (entries : List Ordered) (j group reach : ℕ) : Type 0 where
  pub at : ℕ
  pub within : at ≤ j
  pub entry : Ordered
  pub is : slice_get entries at ≡ Some entry
  pub same_group : entry.group ≡ group
  pub reach_is : reach ≡ entry.span.end

-- entries in their order, each with the greatest end of its group up to it
pub record IsOrdered (entries : List Ordered) : Type 0 where
  pub rises : (i j : ℕ) (e f : Ordered) → i < j → slice_get entries i ≡ Some e → slice_get entries j ≡ Some f → Rises e f
  pub reaches : (i j : ℕ) (e f : Ordered) → i ≤ j → slice_get entries i ≡ Some e → slice_get entries j ≡ Some f → e.group ≡ f.group → e.span.end ≤ f.reach
  pub reached : (j : ℕ) (f : Ordered) → slice_get entries j ≡ Some f → Reached entries j f.group f.reach

abbrev pub range_of : Ordered → Grouped
range_of e = grouped e.group e.span

-- they are the ranges of a list, each with its place there
pub record IsIndexOf (list : List Grouped) (entries : List Ordered) : Type 0 where
  pub same : length entries ≡ length list
  pub entry : (i : ℕ) (e : Ordered) → slice_get entries i ≡ Some e → slice_get list e.place ≡ Some (range_of e)
  pub every : (p : ℕ) (x : Grouped) → slice_get list p ≡ Some x → Stands entries p
  pub ordered : IsOrdered entries

-- Entries that are not empty; those of one group stand one after another.
pub record IsChain (entries : List Ordered) : Type 0 where
  pub nonempty : (i : ℕ) (e : Ordered) → slice_get entries i ≡ Some e → e.span.begin < e.span.end
  pub apart : (i j : ℕ) (e f : Ordered) → i < j → slice_get entries i ≡ Some e → slice_get entries j ≡ Some f → e.group ≡ f.group → e.span.end ≤ f.span.begin

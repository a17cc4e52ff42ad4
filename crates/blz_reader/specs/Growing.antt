-- What a call may add to what is kept of units: lists are made once, each with the order that it was given.
use Rattle.std.specs.Prelude.{◌≡◌, ℕ, List, map, Option, Some, None, ⊤}
use Rattle.std.specs.List.{slice_get}
use Rattle.blz_model.specs.declared.cache.Cache.{Cache}
use Rattle.blz_model.specs.declared.cache.Cache.TheVariants.{Empty, Value, Mark}
use Rattle.blz_bytes.specs.declared.orders.Key.{Key}
use Rattle.blz_line.specs.Lookups.{spans_of}
use Rattle.blz_line.specs.UnitLines.{OrderedLines}
use Rattle.blz_units.specs.declared.caches.UnitCaches.{UnitCaches}
use Rattle.blz_units.specs.KeptParts.{kept_root, kept_functions, kept_lines, kept_calls}
use Rattle.blz_ranges.specs.Keyed.{IsAccepted, begin_key, group_key}
use Rattle.blz_ranges.specs.Owned.{items_of}
use Rattle.blz_functions.specs.FunctionRanges.{FunctionRanges, CallRanges}

-- ---- orders

-- the places that an order tells, where it tells them
abbrev pub Told : Type 0
Told = Option (List Key → List ℕ)

-- Where the places are told, an order is accepted exactly where they pass the check.
abbrev pub AreOrdered : Told → FunctionRanges → Type 0
AreOrdered told x = IsAccepted told (map begin_key (items_of x.ranges)) x.ordered

abbrev pub LinesOrdered : Told → Option OrderedLines → Type 0
LinesOrdered told None = ⊤
LinesOrdered told (Some l) = IsAccepted told (map begin_key (spans_of l.table.sequences)) l.ordered

abbrev pub CallsOrdered : Told → CallRanges → Type 0
CallsOrdered told x = IsAccepted told (map group_key (items_of x.ranges)) x.ordered

-- ---- growing

-- What was there is as before; a new value is as it has to be.
abbrev pub Made : {X : Type 0} → (X → Type 0) → Cache X → Cache X → Type 0
Made right Empty Empty = ⊤
Made right Empty (Mark k) = ⊤
Made right Empty (Value x) = right x
Made right (Mark k) new = new ≡ Mark k
Made right (Value x) new = new ≡ Value x

pub record CachesGrow (told : Told) (old new : Option UnitCaches) : Type 0 where
  pub root : Made (λ _. ⊤) (kept_root old) (kept_root new)
  pub functions : Made (AreOrdered told) (kept_functions old) (kept_functions new)
  pub lines : Made (LinesOrdered told) (kept_lines old) (kept_lines new)
  pub calls : (n : ℕ) → Made (CallsOrdered told) (kept_calls old n) (kept_calls new n)

abbrev pub UnitsGrowTo : Told → List UnitCaches → List UnitCaches → Type 0
UnitsGrowTo told old new = (k : ℕ) → CachesGrow told (slice_get old k) (slice_get new k)

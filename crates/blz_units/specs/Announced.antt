-- The units that announce an address, one after the other.
use Rattle.std.specs.Prelude.{◌≡◌, ℕ, ◌+◌, ◌*◌, ◌^◌, ◌<◌, ◌≤◌, Bool, true, false, List, [], ◌∷◌, length, Option, Some, None, ◌==◌, if◌then◌else◌}
use Rattle.std.specs.List.{slice_get}
use Rattle.blz_ranges.specs.declared.span.Span.{Span}
use Rattle.blz_ranges.specs.Groups.{AreApart}
use Rattle.blz_ranges.specs.Owned.{Owned, items_of, owners_of}
use Rattle.blz_ranges.specs.Ranges.{OwnedRanges}
use Rattle.blz_ranges.specs.Turns.{covering}
use Rattle.blz_units.specs.UnitTables.{UnitTable, announcing}
use Rattle.blz_units.specs.declared.announced.announcers.Turn.{Turn}
use Rattle.blz_units.specs.declared.announced.announcers.Turn.TheVariants.{First, After, Over}

-- the announced ranges, the address, the numbers of the units that are still to come, and whether none was asked for
pub record Announcing : Type 0 where
  pub announced : OwnedRanges
  pub address : ℕ
  pub left : List ℕ
  pub fresh : Bool

-- the units of all ranges that cover an address
abbrev pub units_covering : OwnedRanges → ℕ → List ℕ
units_covering all addr = owners_of all.ranges (covering (items_of all.ranges) addr)

-- all of them are still to come
abbrev pub to_tell : OwnedRanges → ℕ → Announcing
to_tell all addr = record { announced = all; address = addr; left = units_covering all addr; fresh = true }

-- few looks for one of some ranges, where their order was accepted and no two of them share an address
abbrev pub TakesFew : OwnedRanges → ℕ → Type 0
TakesFew all looks =
    all.ordered ≡ true → AreApart (items_of all.ranges) → 2 ^ looks ≤ 4 * (2 * length all.ranges + 1)

-- the units that announce an address, before the first is asked for
abbrev pub announced_at : UnitTable → Bool → ℕ → Announcing
announced_at t ordered addr = record { announced = record { ranges = t.announced; ordered = ordered }; address = addr; left = announcing t addr; fresh = true }

-- the places behind one
abbrev pub behind : ℕ → List ℕ → List ℕ
behind p [] = []
behind p (q ∷ places) = if q == p then places else behind p places

-- the places that are still to come
abbrev pub places_left : List (Owned Span) → ℕ → Turn → List ℕ
places_left ranges addr First = covering (items_of ranges) addr
places_left ranges addr (After p) = behind p (covering (items_of ranges) addr)
places_left ranges addr Over = []

abbrev pub is_first : Turn → Bool
is_first First = true
is_first (After p) = false
is_first Over = false

-- the turn behind a place that was found
abbrev pub turn_of : Option ℕ → Turn
turn_of None = Over
turn_of (Some p) = After p

-- a place among those that cover an address
pub record IsCovering (ranges : List (Owned Span)) (addr p : ℕ) : Type 0 where
  pub within : p < length ranges
  pub at : ℕ
  pub is : slice_get (covering (items_of ranges) addr) at ≡ Some p

abbrev pub IsTurn : List (Owned Span) → ℕ → Turn → Type 0
IsTurn ranges addr First = Unit {0}
IsTurn ranges addr (After p) = IsCovering ranges addr p
IsTurn ranges addr Over = Unit {0}

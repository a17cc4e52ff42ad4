-- The sets of address ranges of a file (DWARF 5 section 6.1.2).
use Rattle.std.specs.Prelude.{◌≡◌, ℕ, zero, suc, ◌-◌, ◌<◌, ◌≤◌, List, [], ◌∷◌, ◌++◌, length, Option, Some, None, nat_lt, ◌==◌, if◌then◌else◌}
use Rattle.std.specs.List.{slice_get}
use Rattle.std.specs.List.Sorted.{IsNonDecreasingBy}
use Rattle.blz_model.specs.Reads.{◌>>=◌}
use Rattle.blz_entry.specs.AddressSets.{set_at, pairs_of}
use Rattle.blz_info.specs.Contents.{Contents}
use Rattle.blz_entry.specs.declared.aranges.ArangeSet.{ArangeSet}
use Rattle.blz_ranges.specs.declared.span.Span.{Span}

-- the sets of a section from a place up to its end, in at most n steps
unfoldable pub sets_in : ℕ → Contents → ℕ → Option (List ArangeSet)
sets_in zero s at = None
sets_in (suc n) s at = if nat_lt at (length s.bytes) then (do
  set ← set_at s at
  rest ← sets_in n s set.end
  Some (set ∷ rest)) else Some []

-- The sets of a section from a place on. Each takes bytes, so there are no more of them than bytes.
abbrev pub sets_from : Contents → ℕ → Option (List ArangeSet)
sets_from s at = sets_in (suc (length s.bytes - at)) s at

-- a set, and those behind it
abbrev pub sets_behind : Contents → Option ArangeSet → Option (List ArangeSet)
sets_behind s set = do
  x ← set
  rest ← sets_from s x.end
  Some (x ∷ rest)

-- the ranges of a set that names the start of a unit
abbrev pub ranges_for : Contents → ℕ → ArangeSet → List Span
ranges_for s start set = if set.unit == start then pairs_of s set else []

-- the ranges of all sets that name it, in the order of the section
unfoldable pub named : Contents → ℕ → List ArangeSet → List Span
named s start [] = []
named s start (set ∷ rest) = ranges_for s start set ++ named s start rest

-- The same sets by the units that they name: each unit finds what it finds in the order of the section.
pub record IsByUnit (sets sorted : List ArangeSet) : Type 0 where
  pub rising : IsNonDecreasingBy (λ (set : ArangeSet). set.unit) sorted
  pub same : (s : Contents) (start : ℕ) → named s start sorted ≡ named s start sets

-- No set before a place, and none from another place on, names the start of a unit.
pub record IsExtent (start : ℕ) (sets : List ArangeSet) (from to : ℕ) : Type 0 where
  pub ordered : from ≤ to
  pub within : to ≤ length sets
  pub before : (i : ℕ) (set : ArangeSet) → i < from → slice_get sets i ≡ Some set → set.unit ≡ start → ⊥
  pub behind : (i : ℕ) (set : ArangeSet) → to ≤ i → slice_get sets i ≡ Some set → set.unit ≡ start → ⊥

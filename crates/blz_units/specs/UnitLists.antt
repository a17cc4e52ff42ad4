-- Headers of units in the order in which the units stand.
use Rattle.std.specs.Prelude.{◌≡◌, ℕ, ◌<◌, ◌≤◌, List, Some}
use Rattle.std.specs.List.{slice_get}
use Rattle.std.specs.List.Sorted.{IsNonDecreasingBy}
use Rattle.blz_info.specs.declared.units.UnitHeader.{UnitHeader}

-- The entries of a unit stand behind its start, and before its end.
pub record IsInPlace (h : UnitHeader) : Type 0 where
  pub behind : h.start < h.entries
  pub ordered : h.entries ≤ h.end

-- all units end at or before a place
abbrev pub EndBefore : List UnitHeader → ℕ → Type 0
EndBefore units place = (i : ℕ) (h : UnitHeader) → slice_get units i ≡ Some h → h.end ≤ place

-- Units that stand one behind the other.
pub record AreUnits (units : List UnitHeader) : Type 0 where
  pub in_place : (i : ℕ) (h : UnitHeader) → slice_get units i ≡ Some h → IsInPlace h
  pub rises : IsNonDecreasingBy (λ (h : UnitHeader). h.start) units

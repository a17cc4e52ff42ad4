-- Abbreviations as a finite map from their codes.
use Rattle.std.specs.Prelude.{◌≡◌, ℕ, ◌-◌, ◌<◌, ◌≤◌, Bool, List, length, Option, Some, option_and_then, ◌&&◌, nat_lt, nat_le, ◌==◌, if◌then◌else◌, slice_get}
use Rattle.std.specs.List.{find}
use Rattle.std.specs.Ordering.{nat_cmp}
use Rattle.std.specs.BTreeMap.{BTreeMap, get}
use Rattle.blz_info.specs.declared.abbreviations.AttrSpec.{AttrSpec}

-- an abbreviation: its code, the tag of its entries, whether they have children, and their attributes
pub record Abbrev : Type 0 where
  pub code : ℕ
  pub tag : ℕ
  pub children : Bool
  pub specs : List AttrSpec

-- the abbreviation of a code
abbrev pub of_code : ℕ → List Abbrev → Option Abbrev
of_code code table = find (λ (a : Abbrev). a.code == code) table

-- The codes 1, 2, 3 up to `ordered` stand in order at the front of the list; the map tells where each other code stands.
abbrev pub place_of : ℕ → BTreeMap ℕ ℕ → ℕ → Option ℕ
place_of ordered others code = if nat_lt 0 code && nat_le code ordered then Some (code - 1) else get nat_cmp others code

abbrev pub looked_up : ℕ → BTreeMap ℕ ℕ → List Abbrev → ℕ → Option Abbrev
looked_up ordered others table code = option_and_then (λ place. slice_get table place) (place_of ordered others code)

-- Each code is found where the front of the list or the map tells.
pub record IsIndexed (ordered : ℕ) (others : BTreeMap ℕ ℕ) (table : List Abbrev) : Type 0 where
  pub front : ordered ≤ length table
  pub inside : (code place : ℕ) → get nat_cmp others code ≡ Some place → place < length table
  pub found : (code : ℕ) → of_code code table ≡ looked_up ordered others table code

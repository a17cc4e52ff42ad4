-- Caches of units of which nothing is kept.
use Rattle.std.specs.Prelude.{◌≡◌, ℕ, List, length, Option, None}
use Rattle.std.specs.List.{slice_get}
use Rattle.blz_model.specs.declared.cache.Cache.{Cache}
use Rattle.blz_model.specs.declared.cache.Cache.TheVariants.{Empty}
use Rattle.blz_info.specs.FileSections.{FileSections}
use Rattle.blz_units.specs.declared.built_unit.BuiltUnit.{BuiltUnit}
use Rattle.blz_units.specs.declared.built_units.SideUnits.{SideUnits}
use Rattle.blz_units.specs.declared.caches.UnitCaches.{UnitCaches}
use Rattle.blz_units.specs.declared.caches.Caches.{Caches}
use Rattle.blz_units.specs.KeptParts.{or_empty, kept_root, kept_functions, kept_lines, kept_calls}
use Rattle.blz_units.specs.Sharing.{AreShared}

abbrev pub NothingKept : List (Cache BuiltUnit) → Type 0
NothingKept caches = (k : ℕ) → or_empty (slice_get caches k) ≡ Empty

pub record HasNothing (o : Option UnitCaches) : Type 0 where
  pub root : kept_root o ≡ Empty
  pub functions : kept_functions o ≡ Empty
  pub lines : kept_lines o ≡ Empty
  pub calls : (n : ℕ) → kept_calls o n ≡ Empty

abbrev pub AreEmpty : List UnitCaches → Type 0
AreEmpty units = (k : ℕ) → HasNothing (slice_get units k)

-- for so many kept units, some of which are built, and units of the supplementary file
pub record IsCold (kept : SideUnits) (count sups : ℕ) (c : Caches) : Type 0 where
  pub kept_is : c.built.kept ≡ kept
  pub sup_count : length c.built.sups.units.items ≡ sups
  pub unit_count : length c.units.items ≡ count
  pub sups_empty : NothingKept c.built.sups.units.items
  pub sups_share : (s : FileSections) → AreShared s c.built.sups.shared
  pub sups_rows : c.built.sups.packed.rows ≡ None
  pub units_empty : AreEmpty c.units.items

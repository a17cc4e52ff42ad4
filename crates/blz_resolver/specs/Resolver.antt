-- What a resolver stands for, what it keeps, and what stays of it over a call.
use Rattle.std.specs.Prelude.{◌≡◌, ℕ, Bool, true, false, Option, Some, None, is_some, option_map, ⊤}
use Rattle.std.specs.FinMap as finite
use Rattle.blz_model.specs.Part.{Good}
use Rattle.blz_elf.specs.Sources.{Source}
use Rattle.blz_index.specs.UnitsWarm.{units_prepared, lines_kept, UnitsFit, UnitsGrow}
use Rattle.blz_reader.specs.Growing.{Told}
use Rattle.blz_index.specs.declared.units.Units.{Units}
use Rattle.blz_resolver.specs.Books.{debug_images, files_in}
use Rattle.blz_resolver.specs.FileViews.{images_view}
use Rattle.blz_bundle.specs.Images.{ImageSet}
use Rattle.blz_resolver.specs.Reading.{UnitsStay}
use Rattle.blz_resolver.specs.Sources.{IsOf, asked_file}
use Rattle.blz_resolver.specs.declared.debug.debug_info.DebugInfo.{DebugInfo}

-- A resolver: its bundle; its units, where it has debug information; and whether all of it was read. The units tell
-- which orders were accepted, and which functions are kept.
pub record Resolver : Type 0 where
  pub images : ImageSet
  pub units : Option Units
  pub prepared : Bool

abbrev pub has_debug : Resolver → Bool
has_debug r = is_some r.units

abbrev pub units_in : Option DebugInfo → Option Units
units_in debug = option_map (λ (d : DebugInfo). d.units) debug

abbrev pub lines_in : Option Units → ℕ → Bool
lines_in None unit = false
lines_in (Some units) unit = lines_kept units unit

-- whether the lines of a unit were read, as their value or their mark; without debug information there are none
abbrev pub rows_filled : Resolver → ℕ → Bool
rows_filled r unit = lines_in r.units unit

-- ---- what it keeps

-- The debug information is that of the bundle, and the units are those of its files.
pub record HasBook (images : ImageSet) (d : DebugInfo) : Type 0 where
  pub none : d.files.none ≡ finite.empty
  pub files : debug_images images ≡ Good (images_view d.files)
  pub units : UnitsFit (files_in (images_view d.files)) d.units

abbrev pub HasBookIf : ImageSet → Option DebugInfo → Type 0
HasBookIf images None = ⊤
HasBookIf images (Some d) = HasBook images d

abbrev pub ArePrepared : Option DebugInfo → Type 0
ArePrepared None = ⊤
ArePrepared (Some d) = units_prepared d.units ≡ true

pub record AllPrepared (parser : Source) (debug : Option DebugInfo) : Type 0 where
  pub symbols : parser.prepared ≡ true
  pub units : ArePrepared debug

-- The parser is the one of the file that is asked. A prepared resolver has read all.
pub record Fits (images : ImageSet) (parser : Source) (debug : Option DebugInfo) (prepared : Bool) : Type 0 where
  pub file : IsOf (asked_file images (is_some debug)) parser
  pub book : HasBookIf images debug
  pub full : prepared ≡ true → AllPrepared parser debug

-- ---- what stays over a call

abbrev pub UnitsStayIf : Option Units → Option Units → Type 0
UnitsStayIf None None = ⊤
UnitsStayIf None (Some new) = ⊥
UnitsStayIf (Some old) None = ⊥
UnitsStayIf (Some old) (Some new) = UnitsStay old new

-- the rows that are filled stay so
abbrev pub RowsStay : Resolver → Resolver → Type 0
RowsStay old new = (unit : ℕ) → rows_filled old unit ≡ true → rows_filled new unit ≡ true

-- the bundle and all facts stay; only what was not kept yet may have been read
pub record Stays (old new : Resolver) : Type 0 where
  pub images : new.images ≡ old.images
  pub has_debug : has_debug new ≡ has_debug old
  pub units : UnitsStayIf old.units new.units
  pub rows : RowsStay old new
  pub is_prepared : new.prepared ≡ old.prepared

-- the bundle stays, and the fact whether there is debug information
pub record SameBundle (old new : Resolver) : Type 0 where
  pub images : new.images ≡ old.images
  pub has_debug : has_debug new ≡ has_debug old

-- ---- what `prepare` adds

abbrev pub UnitsGrowIf : Told → Option Units → Option Units → Type 0
UnitsGrowIf told None None = ⊤
UnitsGrowIf told None (Some new) = ⊥
UnitsGrowIf told (Some old) None = ⊥
UnitsGrowIf told (Some old) (Some new) = UnitsGrow told old new

-- The bundle stays, and so does what was kept. Where places are told, the orders of new lists are accepted exactly where
-- those pass the check.
pub record Grows (told : Told) (old new : Resolver) : Type 0 where
  pub images : new.images ≡ old.images
  pub has_debug : has_debug new ≡ has_debug old
  pub units : UnitsGrowIf told old.units new.units
  pub rows : RowsStay old new

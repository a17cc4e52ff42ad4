-- What is kept of a bundle without its images, and the bundle that it fits.
use Rattle.std.specs.Prelude.{◌≡◌, Bool, true, Option, Some, None, is_some, option_map, ⊤}
use Rattle.blz_error.specs.Texts.{Bytes}
use Rattle.blz_model.specs.Part.{Part, Good}
use Rattle.blz_relocations.specs.Relocations.{SectionMap}
use Rattle.blz_elf.specs.Warm as elf
use Rattle.blz_index.specs.UnitsWarm.{units_prepared, UnitsFit}
use Rattle.blz_index.specs.declared.units.Units.{Units}
use Rattle.blz_resolver.specs.Books.{DebugImages, debug_images, files_in, if_there, sup_image}
use Rattle.blz_resolver.specs.DebugSections.{DebugImage}
use Rattle.blz_bundle.specs.Images.{NamedImage, ImageSet}
use Rattle.blz_resolver.specs.Sources.{asked_file}
use Rattle.blz_resolver.specs.declared.warm.Warm.{Warm}
use Rattle.blz_resolver.specs.declared.warm.WarmDebug.{WarmDebug}

abbrev pub warm_units_in : Option WarmDebug → Option Units
warm_units_in debug = option_map (λ (d : WarmDebug). d.units) debug

-- the units that are kept, where debug information is
abbrev pub warm_units : Warm → Option Units
warm_units w = warm_units_in w.debug

-- whether all was read
abbrev pub warm_prepared : Warm → Bool
warm_prepared w = w.prepared

-- a part that can be read
pub record IsThere {A : Type 0} (p : Part A) : Type 0 where
  pub value : A
  pub is : p ≡ Good value

abbrev pub relocations_in : Option DebugImage → Option SectionMap
relocations_in debug = option_map (λ (d : DebugImage). d.relocations) debug

-- the relocations are those of a supplementary file
pub record IsSupWith (bytes : Bytes) (relocations : SectionMap) : Type 0 where
  pub debug : DebugImage
  pub is : sup_image bytes ≡ Good debug
  pub relocations_are : debug.relocations ≡ relocations

-- the same, where there is one
pub record SupFits (file : Option NamedImage) (relocations : Option SectionMap) : Type 0 where
  pub debug : Option DebugImage
  pub is : if_there sup_image file ≡ Good debug
  pub relocations_are : relocations_in debug ≡ relocations

-- The relocations and the units are those of the bundle.
pub record WarmBook (images : ImageSet) (w : WarmDebug) : Type 0 where
  pub debug : DebugImages
  pub is : debug_images images ≡ Good debug
  pub relocations : debug.main.relocations ≡ w.main
  pub sup_relocations : relocations_in debug.sup ≡ w.sup
  pub units : UnitsFit (files_in debug) w.units

abbrev pub WarmBookIf : ImageSet → Option WarmDebug → Type 0
WarmBookIf images None = ⊤
WarmBookIf images (Some w) = WarmBook images w

abbrev pub ArePreparedIn : Option WarmDebug → Type 0
ArePreparedIn None = ⊤
ArePreparedIn (Some w) = units_prepared w.units ≡ true

pub record AllPreparedIn (w : Warm) : Type 0 where
  pub symbols : elf.warm_prepared w.elf ≡ true
  pub units : ArePreparedIn w.debug

-- Each part that is kept is that of the bundle, or the kind of its mark. Where all was read, all parts are kept.
pub record WarmFits (images : ImageSet) (w : Warm) : Type 0 where
  pub symbols : elf.Fits (asked_file images (is_some w.debug)).image w.elf
  pub debug : WarmBookIf images w.debug
  pub full : w.prepared ≡ true → AllPreparedIn w

use Rattle.std.proofs.Common.{◌≡◌, take}
use Rattle.std.specs.FinMap.{empty}
use Rattle.blz_model.specs.Part.{Good}
use Rattle.blz_image.specs.RelocationTables.{with_sections}
use Rattle.blz_relocations.specs.Relocations.{SectionMap, maps_of}
use Rattle.blz_image.proofs.relocations.relocating.maps_of.Given as goal

abbrev pub invariant-loop-i : goal.invariant-loop-i
invariant-loop-i l = (all : SectionMap) → with_sections l.format l.image l.sections l.sections empty ≡ Good all → l.maps ≡ maps_of (take l.i l.targets) all

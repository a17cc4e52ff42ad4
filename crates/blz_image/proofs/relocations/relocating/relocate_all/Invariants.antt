use Rattle.std.proofs.Common.{◌≡◌, drop}
use Rattle.blz_image.specs.RelocationTables.{with_sections}
use Rattle.blz_image.proofs.relocations.relocating.relocate_all.Given as goal

abbrev pub invariant-loop-i : goal.invariant-loop-i
invariant-loop-i l = with_sections l.format l.image l.sections (drop l.i l.sections) l.map ≡ with_sections l.format l.image l.sections l.sections l.fn.map

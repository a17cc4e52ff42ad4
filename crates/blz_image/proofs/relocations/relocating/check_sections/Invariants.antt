use Rattle.std.proofs.Common.{◌≡◌, drop}
use Rattle.blz_image.specs.TargetTables.{section_marks}
use Rattle.blz_image.proofs.relocations.relocating.check_sections.Given as goal

abbrev pub invariant-loop-i : goal.invariant-loop-i
invariant-loop-i l = section_marks l.format l.image l.sections (drop l.i l.sections) ≡ section_marks l.format l.image l.sections l.sections

use Rattle.std.proofs.Common.{◌≡◌, ◌≤◌, length, drop}
use Rattle.blz_image.specs.ReadPlaces.{AreRead}
use Rattle.blz_image.specs.TargetTables.{beneath_sections}
use Rattle.blz_image.proofs.relocations.target.relocations_of.Given as goal

abbrev pub invariant-loop-i : goal.invariant-loop-i
invariant-loop-i l = (l.i ≤ length l.sections) × (l.gathered.map ≡ beneath_sections l.format l.image l.sections l.target (drop l.i l.sections)) × AreRead l.format l.image l.gathered.map l.gathered.read

abbrev pub decreases-loop-i : goal.decreases-loop-i
decreases-loop-i l = l.i

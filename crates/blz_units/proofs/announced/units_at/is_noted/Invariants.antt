use Rattle.std.proofs.Common.{◌≡◌, drop}
use Rattle.blz_units.specs.Seen.{is_noted}
use Rattle.blz_units.proofs.announced.units_at.is_noted.Given as goal

abbrev pub invariant-loop-place : goal.invariant-loop-place
invariant-loop-place l = is_noted (drop l.place-index l.told) l.unit ≡ is_noted l.told l.unit

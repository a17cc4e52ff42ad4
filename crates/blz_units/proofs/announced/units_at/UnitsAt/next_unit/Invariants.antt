use Rattle.std.proofs.Common.{◌≡◌, ◌≤◌, length, true}
use Rattle.blz_units.specs.Seen.{untold}
use Rattle.blz_units.proofs.announced.units_at.UnitsAt.next_unit.Given as goal

abbrev pub invariant-loop-unit : goal.invariant-loop-unit
invariant-loop-unit g l = record {
  announced : l.self-inside.all.announced ≡ l.initial.self-inside.all.announced;
  address : l.self-inside.all.address ≡ l.initial.self-inside.all.address;
  left : untold l.self-inside.told l.self-inside.all.left ≡ untold l.initial.self-inside.told l.initial.self-inside.all.left;
  later : l.initial.steps ≤ l.steps;
  told : l.self-inside.told ≡ l.initial.self-inside.told;
  first : l.initial.self-inside.all.fresh ≡ true → (l.self-inside ≡ l.initial.self-inside) × (l.steps ≡ l.initial.steps);
}

abbrev pub decreases-loop-unit : goal.decreases-loop-unit
decreases-loop-unit g l = length l.self-inside.all.left

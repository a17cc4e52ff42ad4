use Rattle.std.proofs.Common.{◌≡◌, drop}
use Rattle.blz_units.specs.UnitAnswers.{chosen}
use Rattle.blz_units.proofs.Choosing.{behind}
use Rattle.blz_units.proofs.look.chosen.Given as goal

abbrev pub invariant-loop-number : goal.invariant-loop-number
invariant-loop-number l = behind l.some.items (chosen l.calls (drop l.number-index l.numbers)) ≡ chosen l.calls l.numbers

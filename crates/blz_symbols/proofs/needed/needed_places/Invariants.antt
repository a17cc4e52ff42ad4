use Rattle.std.proofs.Common.{map}
use Rattle.blz_symbols.proofs.NeededSteps.{NeededOf}
use Rattle.blz_symbols.proofs.needed.needed_places.Given as goal

abbrev pub invariant-loop-k : goal.invariant-loop-k
invariant-loop-k l = NeededOf l.typed l.places l.k l.kept.items

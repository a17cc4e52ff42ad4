use Rattle.std.proofs.Common.{map}
use Rattle.blz_symbols.specs.NameOrders.{named_in}
use Rattle.blz_symbols.specs.NameSteps.{named_view}
use Rattle.blz_symbols.proofs.NameSearch.{SoFar}
use Rattle.blz_symbols.proofs.name_order.search.Given as goal

abbrev pub invariant-loop-k : goal.invariant-loop-k
invariant-loop-k l = SoFar l.name (named_in l.strings l.listed) l.places l.k (map named_view l.found.items)

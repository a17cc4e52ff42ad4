use Rattle.std.proofs.Common.{◌≡◌, map, take, filter}
use Rattle.blz_symbols.specs.NameOrders.{named_in}
use Rattle.blz_symbols.specs.NameSteps.{named_view, passes}
use Rattle.blz_symbols.proofs.name_order.scan.Given as goal

abbrev pub invariant-loop-name : goal.invariant-loop-name
invariant-loop-name l = map named_view l.found.items ≡ filter (passes l.wanted) (take l.name-index (named_in l.strings l.listed))

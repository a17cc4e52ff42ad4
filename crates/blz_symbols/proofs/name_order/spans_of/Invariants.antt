use Rattle.std.proofs.Common.{◌≡◌, map, take}
use Rattle.blz_symbols.specs.NameOrders.{span_of}
use Rattle.blz_symbols.proofs.name_order.spans_of.Given as goal

abbrev pub invariant-loop-name : goal.invariant-loop-name
invariant-loop-name l = l.spans.items ≡ map span_of (take l.name-index l.listed)

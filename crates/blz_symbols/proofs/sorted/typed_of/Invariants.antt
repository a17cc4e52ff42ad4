use Rattle.std.proofs.Common.{◌≡◌, map, take, filter}
use Rattle.blz_image.specs.SymbolTables.{is_typed}
use Rattle.blz_symbols.proofs.sorted.typed_of.Given as goal

abbrev pub invariant-loop-i : goal.invariant-loop-i
invariant-loop-i l = l.typed.items ≡ filter is_typed (take l.i l.symbols)

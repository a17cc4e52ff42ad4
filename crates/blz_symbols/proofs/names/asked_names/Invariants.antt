use Rattle.std.proofs.Common.{◌≡◌, drop}
use Rattle.std.specs.Option.{option_map}
use Rattle.blz_symbols.specs.NameOrders.{named_in}
use Rattle.blz_symbols.specs.NameRule.{is_asked, asked_names}
use Rattle.blz_symbols.specs.Tables.{table_view}
use Rattle.blz_symbols.proofs.NameScans.{reading}
use Rattle.blz_symbols.proofs.names.asked_names.Given as goal

abbrev pub invariant-loop-i : goal.invariant-loop-i
invariant-loop-i l = reading (is_asked (option_map (λ t. table_view l.image t.now) l.symtab)) l.strings (named_in l.strings l.names.items) (drop l.i l.symbols) ≡ asked_names (option_map (λ t. table_view l.image t.now) l.symtab) (table_view l.image l.table)

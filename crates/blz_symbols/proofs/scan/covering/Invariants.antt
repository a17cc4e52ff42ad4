use Rattle.std.proofs.Common.{◌≡◌, take, filter}
use Rattle.std.specs.Option.{option_map}
use Rattle.blz_symbols.specs.SymbolRule.{greatest, largest, is_candidate, answers}
use Rattle.blz_symbols.proofs.scan.covering.Given as goal

abbrev pub invariant-loop-i : goal.invariant-loop-i
invariant-loop-i l = record {
  greatest : l.greatest ≡ greatest (filter (is_candidate l.question.addr) (take l.i l.symbols));
  best : l.best ≡ largest (filter (answers l.question l.greatest) (take l.i l.symbols));
}

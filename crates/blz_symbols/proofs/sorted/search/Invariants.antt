use Rattle.std.proofs.Common.{◌≡◌, ℕ, ◌<◌, ◌≤◌, false, map}
use Rattle.blz_symbols.specs.SymbolRule.{may_answer}
use Rattle.blz_symbols.specs.Accepted.{at_place}
use Rattle.blz_symbols.proofs.sorted.search.Given as goal

abbrev pub invariant-loop-k : goal.invariant-loop-k
invariant-loop-k l = (j : ℕ) → l.begin ≤ j → j < l.k → may_answer l.question (at_place l.typed l.places j) ≡ false

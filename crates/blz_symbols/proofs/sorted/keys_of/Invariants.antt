use Rattle.std.proofs.Common.{◌≡◌, ℕ, ◌<◌, length, get_or, map}
use Rattle.blz_bytes.specs.PairOrder.{key_at}
use Rattle.blz_symbols.specs.Accepted.{IsKey, no_symbol}
use Rattle.blz_symbols.proofs.sorted.keys_of.Given as goal

abbrev pub invariant-loop-symbol : goal.invariant-loop-symbol
invariant-loop-symbol l = record {
  count : length l.keys.items ≡ l.symbol-index;
  each : (k : ℕ) → k < length l.keys.items → IsKey (key_at l.keys.items k) (get_or l.typed k no_symbol);
}

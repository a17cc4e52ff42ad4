-- An accepted order of symbols: by value, then from the largest down, then by the place in the table.
use Rattle.std.specs.Prelude.{◌≡◌, ℕ, ◌+◌, ◌-◌, ◌^◌, ◌<◌, ◌≤◌, List, length, get_or}
use Rattle.blz_bytes.specs.declared.orders.Key.{Key}
use Rattle.blz_bytes.specs.PairOrder.{key_at}
use Rattle.blz_bytes.specs.Rising.{StandsAt}
use Rattle.blz_image.specs.declared.symbols.Symbol.{Symbol}

-- the value rises, or the size falls, or the index rises
pub record Before (s : Symbol) (i : ℕ) (t : Symbol) (j : ℕ) : Type 0 where
  pub by_value : s.value ≤ t.value
  pub by_size : s.value ≡ t.value → t.size ≤ s.size
  pub by_place : s.value ≡ t.value → s.size ≡ t.size → i < j

abbrev pub no_symbol : Symbol
no_symbol = record { name_offset = 0; value = 0; size = 0; kind = 0; section = 0 }

-- the symbol at the k-th place
abbrev pub at_place : List Symbol → List ℕ → ℕ → Symbol
at_place xs places k = get_or xs (get_or places k 0) no_symbol

-- as many places as symbols, each in the list, each symbol at one, and rising
pub record IsAccepted (xs : List Symbol) (places : List ℕ) : Type 0 where
  pub count : length places ≡ length xs
  pub inside : (k : ℕ) → k < length places → get_or places k 0 < length xs
  pub every : (i : ℕ) → i < length xs → StandsAt places i
  pub rising : (j k : ℕ) → j < k → k < length places → Before (at_place xs places j) (get_or places j 0) (at_place xs places k) (get_or places k 0)

-- ---- the keys that an order is asked for

-- the value, and 2 ^ 64 - 1 less the size
pub record IsKey (k : Key) (s : Symbol) : Type 0 where
  pub value : k.first ≡ s.value
  pub size : k.second + s.size ≡ 2 ^ 64 - 1

pub record AreKeys (keys : List Key) (xs : List Symbol) : Type 0 where
  pub count : length keys ≡ length xs
  pub each : (k : ℕ) → k < length keys → IsKey (key_at keys k) (get_or xs k no_symbol)

-- ---- the search

-- the value of the symbol at an index, 0 outside
abbrev pub value_at : List Symbol → ℕ → ℕ
value_at xs i = (get_or xs i no_symbol).value

-- the first n places have values up to an address, and the others above it
pub record SplitsAt (xs : List Symbol) (places : List ℕ) (n addr : ℕ) : Type 0 where
  pub inside : n ≤ length places
  pub low : (k : ℕ) → k < n → (at_place xs places k).value ≤ addr
  pub high : (k : ℕ) → n ≤ k → k < length places → addr < (at_place xs places k).value

-- the first n places have values below v, and the others from v on
pub record SplitsBelow (xs : List Symbol) (places : List ℕ) (n v : ℕ) : Type 0 where
  pub inside : n ≤ length places
  pub low : (k : ℕ) → k < n → (at_place xs places k).value < v
  pub high : (k : ℕ) → n ≤ k → k < length places → v ≤ (at_place xs places k).value

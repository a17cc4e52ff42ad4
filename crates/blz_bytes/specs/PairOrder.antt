-- The order of (first, second, place).
use Rattle.std.specs.Prelude.{◌≡◌, ℕ, ◌<◌, ◌≤◌, Bool, ◌&&◌, ◌||◌, ◌==◌, List, length, nat_lt, slice_index_or}
use Rattle.blz_bytes.specs.declared.orders.Key.{Key}
use Rattle.blz_bytes.specs.Rising.{puts_in_order, IsOrderBy}

abbrev pub no_key : Key
no_key = record { first = 0; second = 0 }

abbrev pub key_at : List Key → ℕ → Key
key_at keys place = slice_index_or keys place no_key

-- whether (first, second, place) of one key is below that of another
abbrev pub is_before : Key → ℕ → Key → ℕ → Bool
is_before a p b q = nat_lt a.first b.first || (a.first == b.first && (nat_lt a.second b.second || (a.second == b.second && nat_lt p q)))

abbrev pub pair_before : List Key → ℕ → ℕ → Bool
pair_before keys p q = is_before (key_at keys p) p (key_at keys q) q

-- as many places as keys, each in the list, and the triples rising
abbrev pub accepts : List Key → List ℕ → Bool
accepts keys places = puts_in_order (pair_before keys) (length keys) places

-- The same as facts on two places.
pub record Before (a : Key) (p : ℕ) (b : Key) (q : ℕ) : Type 0 where
  pub first : a.first ≤ b.first
  pub second : a.first ≡ b.first → a.second ≤ b.second
  pub tie : a.first ≡ b.first → a.second ≡ b.second → p < q

abbrev pub PairBefore : List Key → ℕ → ℕ → Type 0
PairBefore keys p q = Before (key_at keys p) p (key_at keys q) q

-- What an accepted order of keys is.
abbrev pub IsOrder : List Key → List ℕ → Type 0
IsOrder keys places = IsOrderBy (PairBefore keys) (length keys) places

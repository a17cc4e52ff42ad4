-- The order of a search: of places whose keys are alike the earlier one stands later.
use Rattle.std.specs.Prelude.{◌≡◌, ℕ, suc, ◌+◌, ◌-◌, ◌<◌, ◌≤◌, Bool, ◌&&◌, ◌==◌, List, length, Some, slice_index_or}
use Rattle.std.specs.List.{slice_get}
use Rattle.blz_bytes.specs.declared.orders.Key.{Key}
use Rattle.blz_bytes.specs.PairOrder.{key_at}
use Rattle.blz_bytes.specs.Rising.{StandsAt}
use Rattle.blz_ranges.specs.declared.turned.Run.{Run}

abbrev pub place_at : List ℕ → ℕ → ℕ
place_at places at = slice_index_or places at 0

abbrev pub key_in : List Key → List ℕ → ℕ → Key
key_in keys places at = key_at keys (place_at places at)

abbrev pub are_alike : Key → Key → Bool
are_alike k l = k.first == l.first && k.second == l.second

-- the same as facts
pub record Alike (k l : Key) : Type 0 where
  pub first : k.first ≡ l.first
  pub second : k.second ≡ l.second

-- All keys from an index on are alike, up to another index.
pub record IsRunTo (keys : List Key) (places : List ℕ) (from to : ℕ) : Type 0 where
  pub some : from < to
  pub within : to ≤ length places
  pub alike : (i : ℕ) → from ≤ i → i < to → Alike (key_in keys places i) (key_in keys places from)
  pub behind : to < length places → Alike (key_in keys places to) (key_in keys places from) → ⊥

-- An index of such a run, before which no like key stands.
pub record IsAround (keys : List Key) (places : List ℕ) (at : ℕ) (r : Run) : Type 0 where
  pub run : IsRunTo keys places r.from r.to
  pub before : (i : ℕ) → suc i ≡ r.from → Alike (key_in keys places i) (key_in keys places r.from) → ⊥
  pub above : r.from ≤ at
  pub below : at < r.to

-- the run of the index before one; before the first there is none
pub record IsBehind (keys : List Key) (places : List ℕ) (at : ℕ) (r : Run) : Type 0 where
  pub start : at ≡ 0 → r.to ≡ 0
  pub last : (i : ℕ) → suc i ≡ at → IsAround keys places i r

-- the image of an index in its run
abbrev pub mirrored : Run → ℕ → ℕ
mirrored r at = r.from + (r.to - 1 - at)

pub record IsMirrored (keys : List Key) (places turned : List ℕ) (at : ℕ) : Type 0 where
  pub run : Run
  pub around : IsAround keys places at run
  pub is : slice_get turned at ≡ Some (place_at places (mirrored run at))

pub record AreTurned (keys : List Key) (places turned : List ℕ) : Type 0 where
  pub same : length turned ≡ length places
  pub each : (at : ℕ) → at < length places → IsMirrored keys places turned at

-- the order of two keys
pub record KeyUpTo (k l : Key) : Type 0 where
  pub first : k.first ≤ l.first
  pub second : k.first ≡ l.first → k.second ≤ l.second

-- What an order of a search is: each place stands in it, the keys rise, and among those that are alike the places fall.
pub record IsFalling (keys : List Key) (places : List ℕ) : Type 0 where
  pub same : length places ≡ length keys
  pub within : (i p : ℕ) → slice_get places i ≡ Some p → p < length keys
  pub every : (p : ℕ) → p < length keys → StandsAt places p
  pub rises : (i j p q : ℕ) → i < j → slice_get places i ≡ Some p → slice_get places j ≡ Some q → KeyUpTo (key_at keys p) (key_at keys q)
  pub tie : (i j p q : ℕ) → i < j → slice_get places i ≡ Some p → slice_get places j ≡ Some q → Alike (key_at keys p) (key_at keys q) → q < p

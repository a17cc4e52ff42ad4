-- What an object of orders may tell.
use Rattle.std.specs.Prelude.{◌≡◌, ℕ, ⊤, List, Option, Some, None}
use Rattle.std.specs.List.{range_with_len}

-- the first n numbers
abbrev pub counting : ℕ → List ℕ
counting n = range_with_len 0 n

-- Where the places are told, the slice holds them.
abbrev pub TellsPlaces : {K : Type 0} → Option (K → List ℕ) → K → List ℕ → Type 0
TellsPlaces None keys places = ⊤
TellsPlaces (Some told) keys places = places ≡ told keys

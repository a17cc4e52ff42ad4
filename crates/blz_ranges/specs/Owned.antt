-- A list of items, each with the number of the one that it belongs to.
use Rattle.std.specs.Prelude.{ℕ, zero, suc, ◌-◌, List, [], ◌∷◌, ◌++◌, length, map, Option, option_map}
use Rattle.std.specs.List.{slice_get}
use Rattle.std.specs.Option.{option_to_list}
use Rattle.blz_ranges.specs.declared.span.Span.{Span}

-- an item, and the number of the one that it belongs to
pub record Owned (A : Type 0) : Type 0 where
  pub item : A
  pub owner : ℕ

abbrev pub owned : {A : Type 0} → List A → List ℕ → List (Owned A)
owned [] owners = []
owned (x ∷ items) [] = []
owned (x ∷ items) (n ∷ owners) = record { item = x; owner = n } ∷ owned items owners

-- the items without their owners
abbrev pub items_of : {A : Type 0} → List (Owned A) → List A
items_of list = map (λ x. x.item) list

-- the owner of the item at a place, none past the end of the list
abbrev pub owner_at : {A : Type 0} → List (Owned A) → ℕ → Option ℕ
owner_at list place = option_map (λ x. x.owner) (slice_get list place)

abbrev pub repeated : ℕ → ℕ → List ℕ
repeated zero owner = []
repeated (suc n) owner = owner ∷ repeated n owner

-- owners with as many more of one number as there are to be
abbrev pub filled_up : List ℕ → ℕ → ℕ → List ℕ
filled_up owners owner count = owners ++ repeated (count - length owners) owner

-- items that all belong to the same one
abbrev pub own_all : {A : Type 0} → ℕ → List A → List (Owned A)
own_all owner items = map (λ x. record { item = x; owner = owner }) items

-- the owners of the ranges at some places
abbrev pub owners_of : List (Owned Span) → List ℕ → List ℕ
owners_of ranges [] = []
owners_of ranges (p ∷ places) = option_to_list (owner_at ranges p) ++ owners_of ranges places

-- Records one after another.
use Rattle.std.specs.Prelude.{ℕ, zero, suc, ◌*◌, List, [], ◌∷◌, take, drop}
use Rattle.std.specs.Option.{option_map}
use Rattle.blz_model.specs.declared.byte_order.ByteOrder.{ByteOrder}
use Rattle.blz_model.specs.Reads.{Read}
use Rattle.blz_bytes.specs.Pieces.{piece}

-- the values that n pieces of `size` bytes spell
abbrev pub values_in : {A : Type 0} → (List ℕ → A) → ℕ → ℕ → List ℕ → List A
values_in value size zero bytes = []
values_in value size (suc n) bytes = value (take size bytes) ∷ values_in value size n (drop size bytes)

-- the n values at a place
abbrev pub pods : {A : Type 0} → (ByteOrder → List ℕ → A) → ℕ → ℕ → ByteOrder → List ℕ → ℕ → Read (List A)
pods value size n order bytes at = option_map (λ (r : List ℕ × ℕ). (values_in (value order) size n r.0, r.1)) (piece (n * size) bytes at)

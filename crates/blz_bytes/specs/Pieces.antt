-- Pieces of some bytes at a place, and the place behind them.
use Rattle.std.specs.Prelude.{ℕ, ◌+◌, ◌-◌, List, length, slice_index, slice_range, nat_le, Some, None, if◌then◌else◌}
use Rattle.std.specs.Int.{next_multiple_of}
use Rattle.std.specs.Option.{option_map}
use Rattle.blz_model.specs.declared.byte_order.ByteOrder.{ByteOrder}
use Rattle.blz_model.specs.declared.byte_order.ByteOrder.TheVariants.{Little, Big}
use Rattle.blz_model.specs.Reads.{Read}
use Rattle.blz_model.specs.Texts.{text_at}

-- one byte, which knows no order
abbrev pub byte : List ℕ → ℕ → Read ℕ
byte bytes at = if nat_le (at + 1) (length bytes) then Some (slice_index bytes at, at + 1) else None

-- the n bytes at a place
abbrev pub piece : ℕ → List ℕ → ℕ → Read (List ℕ)
piece n bytes at = if nat_le (at + n) (length bytes) then Some (slice_range bytes at (at + n), at + n) else None

-- n bytes that are passed over
abbrev pub past : ℕ → List ℕ → ℕ → Read (Unit {0})
past n bytes at = if nat_le (at + n) (length bytes) then Some (tt, at + n) else None

-- the next multiple of a number
abbrev pub aligned : ℕ → List ℕ → ℕ → Read (Unit {0})
aligned to bytes at = if nat_le (next_multiple_of at to) (length bytes) then Some (tt, next_multiple_of at to) else None

-- the value that the next `size` bytes spell
abbrev pub pod : {A : Type 0} → (ByteOrder → List ℕ → A) → ℕ → ByteOrder → List ℕ → ℕ → Read A
pod value size order bytes at = option_map (λ (r : List ℕ × ℕ). (value order r.0, r.1)) (piece size bytes at)

-- the bytes before the first zero, which is passed over too
unfoldable pub zero_ended : List ℕ → ℕ → Read (List ℕ)
zero_ended bytes at = option_map (λ (text : List ℕ). (text, at + length text + 1)) (text_at bytes at)

-- the place of the byte that has i bytes above it in the number of n bytes at a place
abbrev pub nth_place : ByteOrder → ℕ → ℕ → ℕ → ℕ
nth_place Little at n i = at + (n - 1 - i)
nth_place Big at n i = at + i

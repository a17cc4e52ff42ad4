-- What is read at a place of some bytes: a value and the place after it, or nothing.
use Rattle.std.specs.Prelude.{ℕ, ◌+◌, List, length, nat_le, Option, Some, None, option_and_then, if◌then◌else◌}
use Rattle.blz_model.specs.declared.byte_order.ByteOrder.{ByteOrder}
use Rattle.blz_model.specs.Numbers.{field}

-- the value at a place and the place behind it, or nothing where it cannot be read
abbrev pub Read : Type 0 → Type 0
Read A = Option (A × ℕ)

-- what is read, then what is read behind it; nothing where the first has no value
infixl 10 ◌>>=◌
abbrev pub ◌>>=◌ : {A B : Type 0} → Option A → (A → Option B) → Option B
o >>= f = option_and_then f o

-- the number of the n bytes at a place, where all of them are there
abbrev pub number : ByteOrder → ℕ → List ℕ → ℕ → Read ℕ
number order n bytes at = if nat_le (at + n) (length bytes) then Some (field order bytes at n, at + n) else None

-- n bytes that are passed over
unfoldable pub passed_over : ℕ → List ℕ → ℕ → Option ℕ
passed_over n bytes at = if nat_le (at + n) (length bytes) then Some (at + n) else None

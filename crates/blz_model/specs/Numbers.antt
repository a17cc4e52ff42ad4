-- Numbers in bytes (ELF gABI, Data Encoding).
use Rattle.std.specs.Prelude.{ℕ, zero, suc, ◌+◌, ◌*◌, List, length, slice_index, nat_le, Option, Some, None, if◌then◌else◌}
use Rattle.blz_model.specs.declared.byte_order.ByteOrder.{ByteOrder}
use Rattle.blz_model.specs.declared.byte_order.ByteOrder.TheVariants.{Little, Big}

-- the number of the n bytes from `at`, the least first; a byte past the end counts as 0
abbrev pub little : List ℕ → ℕ → ℕ → ℕ
little bytes at zero = 0
little bytes at (suc n) = slice_index bytes at + 256 * little bytes (at + 1) n

-- the same, the greatest first
abbrev pub big : List ℕ → ℕ → ℕ → ℕ
big bytes at zero = 0
big bytes at (suc n) = slice_index bytes (at + n) + 256 * big bytes at n

-- the field of n bytes at `at`
abbrev pub field : ByteOrder → List ℕ → ℕ → ℕ → ℕ
field Little bytes at n = little bytes at n
field Big bytes at n = big bytes at n

-- LEB128 numbers (DWARF 5 section 7.6). They know no byte order.
use Rattle.std.specs.Prelude.{ℕ, zero, suc, ◌+◌, ◌*◌, ◌-◌, ◌^◌, List, slice_get, Option, Some, None, nat_lt, nat_le, if◌then◌else◌, ℤ, pos, negsuc, ◌-ℤ◌}
use Rattle.blz_model.specs.declared.leb.Leb.{Leb}
use Rattle.blz_model.specs.Reads.{Read, ◌>>=◌}

-- Seven bits of each byte, the least first; a byte below 128 ends the number, and its bit 6 is the sign. At most n
-- bytes. The weight is one step above the highest bit.
unfoldable pub leb_in : ℕ → List ℕ → ℕ → Read Leb
leb_in zero bytes at = None
leb_in (suc n) bytes at = do
  byte ← slice_get bytes at
  if nat_lt byte 128 then Some (record { value = byte; weight = 128; negative = nat_le 64 byte }, at + 1) else (do
    rest ← leb_in n bytes (at + 1)
    Some (record { value = byte - 128 + 128 * rest.0.value; weight = 128 * rest.0.weight; negative = rest.0.negative }, rest.1))

-- without a sign, below 2 ^ 64, within ten bytes
unfoldable pub uleb : List ℕ → ℕ → Read ℕ
uleb bytes at = do
  r ← leb_in 10 bytes at
  if nat_lt r.0.value (2 ^ 64) then Some (r.0.value, r.1) else None

-- the value with its sign
abbrev pub signed : Leb → ℤ
signed n = if n.negative then pos n.value -ℤ pos n.weight else pos n.value

-- a number from -2^63 up to 2^63 - 1, nothing in place of another
abbrev pub fits_i64 : ℤ → Option ℤ
fits_i64 (pos n) = if nat_lt n (2 ^ 63) then Some (pos n) else None
fits_i64 (negsuc n) = if nat_lt n (2 ^ 63) then Some (negsuc n) else None

-- with a sign, fitting an i64, within ten bytes
unfoldable pub sleb : List ℕ → ℕ → Read ℤ
sleb bytes at = do
  r ← leb_in 10 bytes at
  v ← fits_i64 (signed r.0)
  Some (v, r.1)

-- The checksum of a debug file (GNU debug links): CRC-32 with the reflected polynomial 0xedb88320, all bits set before
-- the first byte and turned over after the last.
use Rattle.std.specs.Prelude.{ℕ, zero, suc, ◌*◌, ◌/◌, ◌%◌, List, [], ◌∷◌, bit_xor}

-- the polynomial of CRC-32, the highest power in the least bit
abbrev pub polynomial : ℕ
polynomial = 0xedb88320

-- all 32 bits set
abbrev pub ones : ℕ
ones = 0xffffffff

-- one bit: the register moves down, and the polynomial is put over it where the bit that falls out is 1
unfoldable pub bit_step : ℕ → ℕ
bit_step register = bit_xor (register / 2) (register % 2 * polynomial)

-- n bits
unfoldable pub bit_steps : ℕ → ℕ → ℕ
bit_steps zero register = register
bit_steps (suc n) register = bit_steps n (bit_step register)

-- one byte, whose bits go in the least first
abbrev pub byte_step : ℕ → ℕ → ℕ
byte_step register byte = bit_steps 8 (bit_xor register byte)

-- the register behind some bytes
unfoldable pub checksum_from : ℕ → List ℕ → ℕ
checksum_from register [] = register
checksum_from register (byte ∷ bytes) = checksum_from (byte_step register byte) bytes

-- the checksum of the bytes of a file
abbrev pub checksum_of : List ℕ → ℕ
checksum_of bytes = bit_xor (checksum_from ones bytes) ones

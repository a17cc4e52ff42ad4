-- Tables of the register of a checksum.
use Rattle.std.specs.Prelude.{◌≡◌, ◌<◌, ℕ, List, slice_index}
use Rattle.blz_links.specs.Checksums.{bit_steps}

-- at each byte, what the register is after so many bits
abbrev pub IsTable : ℕ → List ℕ → Type 0
IsTable bits table = (byte : ℕ) → byte < 256 → slice_index table byte ≡ bit_steps bits byte

-- one table is another, eight bits later
abbrev pub IsAfterByte : List ℕ → List ℕ → Type 0
IsAfterByte before after = (byte : ℕ) → byte < 256 → slice_index after byte ≡ bit_steps 8 (slice_index before byte)

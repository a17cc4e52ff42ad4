-- The allowance of a file: how many words of eight bytes its reader may keep and read again.
use Rattle.std.specs.Prelude.{ℕ, ◌+◌, ◌*◌, ◌^◌, ◌-◌, min}
use Rattle.blz_bytes.specs.declared.room.TheConstants.{LEAST_WORDS, WORDS_A_BYTE}

-- the greatest number of 64 bits, where a number is greater
abbrev pub at_most_64_bits : ℕ → ℕ
at_most_64_bits n = min n (2 ^ 64 - 1)

-- so many words for each byte, and a least number of words besides
abbrev pub words_of : ℕ → ℕ
words_of bytes = at_most_64_bits (at_most_64_bits (bytes * WORDS_A_BYTE) + LEAST_WORDS)

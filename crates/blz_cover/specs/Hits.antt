-- The lines of a file of hits.
use Rattle.std.specs.Prelude.{ℕ, ◌+◌, ◌-◌, ◌^◌, ◌==◌, Option, Some, None, position, take, drop}
use Rattle.blz_error.specs.Texts.{Bytes}
use Rattle.blz_program.specs.Words.{address_of, number_up_to}

abbrev pub both : Option ℕ → Option ℕ → Option (ℕ × ℕ)
both None count = None
both (Some addr) None = None
both (Some addr) (Some count) = Some (addr, count)

-- a line that is divided at a place
abbrev pub hit_at : Bytes → Option ℕ → Option (ℕ × ℕ)
hit_at line None = None
hit_at line (Some i) = both (address_of (take i line)) (number_up_to (2 ^ 64 - 1) (drop (i + 1) line))

-- An address, a blank and a count: 1 to 16 hexadecimal digits, and a decimal number from 1 to 2^64 - 1.
abbrev pub hit_of : Bytes → Option (ℕ × ℕ)
hit_of line = hit_at line (position (λ b. b == 32) line)

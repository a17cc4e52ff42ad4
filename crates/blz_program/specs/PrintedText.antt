-- Numbers and line ends as they are printed.
use Rattle.std.specs.Prelude.{ℕ, ◌-◌, ◌/◌, ◌%◌, ◌^◌, ◌∷◌, [], codes, map, slice_index}
use Rattle.std.specs.List.{range_with_len}
use Rattle.blz_error.specs.Texts.{Bytes}

-- the byte that ends a line
abbrev pub line_feed : Bytes
line_feed = 10 ∷ []

-- the lower-case digit of a number below 16
abbrev pub hex_glyph : ℕ → ℕ
hex_glyph digit = slice_index (codes "0123456789abcdef") digit

-- the digit that stands for 16^k
abbrev pub hex_digit : ℕ → ℕ → ℕ
hex_digit number k = (number / 16 ^ k) % 16

-- sixteen digits, the one for 16^15 first
abbrev pub hex_digits : ℕ → Bytes
hex_digits number = map (λ i. hex_glyph (hex_digit number (15 - i))) (range_with_len 0 16)

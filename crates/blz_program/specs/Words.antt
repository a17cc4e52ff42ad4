-- Numbers as words.
use Rattle.std.specs.Prelude.{ℕ, ◌+◌, ◌*◌, ◌-◌, ◌&&◌, nat_le, Bool, List, [], ◌∷◌, length, Option, Some, None, if◌then◌else◌, drop, nat_eq, codes}
use Rattle.std.specs.List.{starts_with}
use Rattle.blz_error.specs.Texts.{Bytes}

-- whether a number is at least one and at most another
abbrev pub is_between : ℕ → ℕ → ℕ → Bool
is_between low high b = nat_le low b && nat_le b high

-- the value of a hexadecimal digit: `0` to `9`, `a` to `f` or `A` to `F`
abbrev pub hex_value : ℕ → Option ℕ
hex_value b = if is_between 48 57 b then Some (b - 48)
    else (if is_between 97 102 b then Some (b - 87)
    else (if is_between 65 70 b then Some (b - 55) else None))

-- the value of a decimal digit
abbrev pub decimal_value : ℕ → Option ℕ
decimal_value b = if is_between 48 57 b then Some (b - 48) else None

-- a number to some base with one more digit
abbrev pub with_digit : ℕ → Option ℕ → Option ℕ → Option ℕ
with_digit base None digit = None
with_digit base (Some n) None = None
with_digit base (Some n) (Some digit) = Some (n * base + digit)

-- the number of the hexadecimal digits, after those that were read
abbrev pub hex_from : Option ℕ → Bytes → Option ℕ
hex_from so_far [] = so_far
hex_from so_far (b ∷ bs) = hex_from (with_digit 16 so_far (hex_value b)) bs

-- the number of 1 to 16 hexadecimal digits
abbrev pub hex_number : Bytes → Option ℕ
hex_number digits = if is_between 1 16 (length digits) then hex_from (Some 0) digits else None

-- a word without the `0x` at its beginning, where it has it
abbrev pub without_prefix : Bytes → Bytes
without_prefix word = if starts_with nat_eq word (codes "0x") then drop 2 word else word

-- an address: 1 to 16 hexadecimal digits, with `0x` before them or not
abbrev pub address_of : Bytes → Option ℕ
address_of word = hex_number (without_prefix word)

-- the number of the decimal digits, after those that were read
abbrev pub decimal_from : Option ℕ → Bytes → Option ℕ
decimal_from so_far [] = so_far
decimal_from so_far (b ∷ bs) = decimal_from (with_digit 10 so_far (decimal_value b)) bs

-- a number that is at most another
abbrev pub up_to : ℕ → Option ℕ → Option ℕ
up_to most None = None
up_to most (Some n) = if nat_le n most then Some n else None

-- a number of decimal digits, of which the first is not 0
abbrev pub decimal_number : Bytes → Option ℕ
decimal_number [] = None
decimal_number (b ∷ bs) = if is_between 49 57 b then decimal_from (Some (b - 48)) bs else None

-- a decimal number from 1 to the most, without leading zeros
abbrev pub number_up_to : ℕ → Bytes → Option ℕ
number_up_to most word = up_to most (decimal_number word)

-- the address of a word before those of the words behind it, where each is one
abbrev pub joined_option : Option ℕ → Option (List ℕ) → Option (List ℕ)
joined_option None rest = None
joined_option (Some addr) None = None
joined_option (Some addr) (Some rest) = Some (addr ∷ rest)

-- the address of each word, where each is one
abbrev pub each_address : List Bytes → Option (List ℕ)
each_address [] = Some []
each_address (word ∷ words) = joined_option (address_of word) (each_address words)

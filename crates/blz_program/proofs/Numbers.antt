-- Steps of the loops over the digits of a number.
use Rattle.std.proofs.Common.{◌≡◌, ℕ, zero, suc, ◌+◌, ◌-◌, ◌*◌, ◌/◌, ◌%◌, ◌^◌, ◌<◌, ◌≤◌, Bool, true, false, if◌then◌else◌, nat_le, [], ◌∷◌, length, drop, Option, Some, None, refl, sym, ap, ◌∙◌, arith, get_or}
use Rattle.std.proofs.lemmas.List.{drop_more}
use Rattle.std.proofs.Math.Nat.{pow-le-pow_right, pow-suc}
use Rattle.std.proofs.lemmas.Nat.{pow-add}
use Rattle.blz_error.specs.Texts.{Bytes}
use Rattle.std.proofs.lemmas.Bool.Decides.{nat_tests}
use Rattle.blz_program.specs.PrintedText.{hex_digit, hex_glyph}
use Rattle.blz_program.specs.Words.{decimal_from, decimal_value, hex_from, hex_value, up_to, with_digit}

pub read_step : (so_far : Option ℕ) (digits : Bytes) (i : ℕ) → i < length digits
    → hex_from so_far (drop i digits) ≡ hex_from (with_digit 16 so_far (hex_value (get_or digits i 0))) (drop (i + 1) digits)
read_step so_far digits i h = ap (hex_from so_far) (drop_more digits i 0 h)

pub read_none : (bs : Bytes) → hex_from None bs ≡ None
read_none [] = refl
read_none (b ∷ bs) = read_none bs

pub room : (v n : ℕ) → v < 16 ^ n → n ≤ 15 → v * 16 + 15 < 2 ^ 64
room v n h short =
    let most : 16 ^ n ≤ 16 ^ 15 = pow-le-pow_right (omega arith) short in
    omega (arith, h, most)

pub decimal_step : (so_far : Option ℕ) (digits : Bytes) (i : ℕ) → i < length digits
    → decimal_from so_far (drop i digits) ≡ decimal_from (with_digit 10 so_far (decimal_value (get_or digits i 0))) (drop (i + 1) digits)
decimal_step so_far digits i h = ap (decimal_from so_far) (drop_more digits i 0 h)

pub decimal_none : (bs : Bytes) → decimal_from None bs ≡ None
decimal_none [] = refl
decimal_none (b ∷ bs) = decimal_none bs

by_digit : (most : ℕ) (d : Option ℕ) (n : ℕ) (bs : Bytes) → most < n → ((m : ℕ) → most < m → up_to most (decimal_from (Some m) bs) ≡ None)
    → up_to most (decimal_from (with_digit 10 (Some n) d) bs) ≡ None
by_digit most None n bs h later = ap (up_to most) (decimal_none bs)
by_digit most (Some d) n bs h later = later (n * 10 + d) (omega (arith, h))

too_large : (most n : ℕ) → most < n → up_to most (Some n) ≡ None
too_large most n h = grind (arith, nat_tests)

-- a number that is too large stays so with more digits
pub stays_too_large : (bs : Bytes) (n most : ℕ) → most < n → up_to most (decimal_from (Some n) bs) ≡ None
stays_too_large [] n most h = too_large most n h
stays_too_large (b ∷ bs) n most h = by_digit most (decimal_value b) n bs h (λ m above. stays_too_large bs m most above)

pub is_too_large : (most n : ℕ) → up_to most (Some n) ≡ None → most < n
is_too_large most n h = grind (arith, nat_tests)

-- what is none, or too large, stays so with more digits
pub up_to-decimal_from : (bs : Bytes) (so_far : Option ℕ) (most : ℕ) → up_to most so_far ≡ None → up_to most (decimal_from so_far bs) ≡ None
up_to-decimal_from bs None most h = ap (up_to most) (decimal_none bs)
up_to-decimal_from bs (Some n) most h = stays_too_large bs n most (is_too_large most n h)

chosen : (t : Bool) (n m : ℕ) → (if t then Some n else None) ≡ Some m → Some n ≡ Some m
chosen true n m h = h
chosen false n m h = cc

-- what is small enough is what it was made of
pub up_to-some : (most : ℕ) (number : Option ℕ) (m : ℕ) → up_to most number ≡ Some m → number ≡ Some m
up_to-some most None m h = h
up_to-some most (Some n) m h = chosen (nat_le n most) n m h

-- 60 - 4i bits are 15 - i digits
four_bits : (k : ℕ) → 2 ^ (4 * k) ≡ 16 ^ k
four_bits zero = refl
four_bits (suc k) = let e : 4 * suc k ≡ 4 * k + 4 = omega arith in ap (λ n. 2 ^ n) e ∙ pow-add 2 (4 * k) 4 ∙ ap (λ n. n * 2 ^ 4) (four_bits k) ∙ sym (pow-suc 16 k)

pub digit_at : (number i : ℕ) → i < 16 → hex_glyph ((number / 2 ^ (60 - 4 * i)) % 16) ≡ hex_glyph (hex_digit number (15 - i))
digit_at number i h =
    let bits : 60 - 4 * i ≡ 4 * (15 - i) = omega (arith, h) in
    ap (λ n. hex_glyph ((number / n) % 16)) (ap (λ n. 2 ^ n) bits ∙ four_bits (15 - i))

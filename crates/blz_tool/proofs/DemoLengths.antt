-- How long the parts of the demo's image are.
use Rattle.std.proofs.Common.{◌≡◌, ℕ, zero, suc, ◌+◌, ◌-◌, ◌*◌, ◌^◌, ◌<◌, ◌≤◌, [], ◌∷◌, ◌++◌, length, length-append, codes, decimal, refl, arith}
use Rattle.std.proofs.lemmas.Fmt.{length-decimal-le}
use Rattle.blz_error.specs.Texts.{Bytes}
use Rattle.blz_tool.specs.DemoImage.{address_at, function_entries, function_entry, line_end, line_program, line_start, line_step, line_steps, text_bytes, unit, unit_start}
use Rattle.blz_tool.specs.Fields.{fields_bytes}
use Rattle.blz_tool.specs.declared.fields.Field.TheVariants.{U32, U64}

three : (xs ys zs : Bytes) → length (xs ++ ys ++ zs) ≡ length xs + length ys + length zs
three xs ys zs = grind (arith, length-append)

named_length : (i : ℕ) → length (text_bytes (codes "f" ++ decimal i)) ≡ length (decimal i) + 2
named_length i = grind (arith, length-append)

entry_short : (i : ℕ) → i < 100000 → length (function_entry i) ≤ 35
entry_short i h =
    let digits : length (decimal i) ≤ 20 = length-decimal-le 20 i (omega arith) (omega (arith, h)) (omega (arith, h)) in
    let numbers : length (fields_bytes (U64 (address_at i) ∷ U32 8 ∷ [])) ≡ 12 = refl in
    omega (arith, three (0x02 ∷ []) (text_bytes (codes "f" ++ decimal i)) (fields_bytes (U64 (address_at i) ∷ U32 8 ∷ [])), named_length i, digits, numbers)

entries_short : (n : ℕ) → n ≤ 100000 → length (function_entries n) ≤ n * 35
entries_short zero h = omega arith
entries_short (suc n) h =
    omega (arith, length-append (function_entries n) (function_entry n), entries_short n (omega (arith, h)), entry_short n (omega (arith, h)))

pub unit_short : (n : ℕ) → n ≤ 100000 → length (unit n) < 2 ^ 32
unit_short n h =
    let start : length (unit_start n) ≡ 41 = refl in
    omega (arith, h, three (unit_start n) (function_entries n) (0 ∷ []), start, entries_short n h)

steps_length : (n : ℕ) → length (line_steps n) ≡ n * 5
steps_length zero = refl
steps_length (suc n) = omega (arith, length-append (line_steps n) line_step, steps_length n)

pub line_program_short : (n : ℕ) → n ≤ 100000 → length (line_program n) < 2 ^ 32
line_program_short n h =
    let start : length line_start ≡ 48 = refl in
    omega (arith, h, three line_start (line_steps (n - 1)) line_end, start, steps_length (n - 1))

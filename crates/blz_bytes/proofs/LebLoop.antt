-- The loop over the bytes of a LEB128 number.
use Rattle.std.proofs.Common.{◌≡◌, ℕ, suc, ◌-◌, ◌+◌, ◌*◌, ◌^◌, ◌≤◌, ◌<◌, List, length, Some, None, refl, arith, leb}
use Rattle.std.specs.Prelude.{slice_get, option_and_then}
use Rattle.std.proofs.lemmas.Bool.{lt-ltb, le-ltb}
use Rattle.std.proofs.lemmas.Option.{slice_get_past}
use Rattle.std.proofs.Math.Nat.{pow-le-pow_right, mul-le-mul_right, pow-suc}
use Rattle.blz_model.specs.declared.leb.Leb.{Leb}
use Rattle.blz_model.specs.Reads.{Read}
use Rattle.blz_model.specs.LebNumbers.{leb_in, uleb}

-- low bits that were read before the number at the rest
abbrev pub with_low : ℕ → ℕ → Read Leb → Read Leb
with_low low factor None = None
with_low low factor (Some r) = Some (record { value = low + factor * r.0.value; weight = factor * r.0.weight; negative = r.0.negative }, r.1)

more_cases : (v f k : ℕ) (r : Read Leb) → with_low v f (option_and_then (λ (rest : Leb × ℕ). Some (record { value = k + 128 * rest.0.value; weight = 128 * rest.0.weight; negative = rest.0.negative }, rest.1)) r) ≡ with_low (v + k * f) (f * 128) r
more_cases v f k None = refl
more_cases v f k (Some r) =
    let a : v + f * (k + 128 * r.0.value) ≡ v + k * f + f * 128 * r.0.value = omega arith in
    let b : f * (128 * r.0.weight) ≡ f * 128 * r.0.weight = omega arith in
    rw (a, b) refl

pub leb_more : (m n v f k at next byte : ℕ) (bytes : List ℕ) → m ≡ suc n → next ≡ at + 1 → slice_get bytes at ≡ Some byte → 128 ≤ byte → byte - 128 ≡ k → with_low v f (leb_in m bytes at) ≡ with_low (v + k * f) (f * 128) (leb_in n bytes next)
unfolding leb_in
leb_more m n v f k at next byte bytes em en h le ek = rw (em, en, h, le-ltb byte 128 le, ek) (more_cases v f k (leb_in n bytes (at + 1)))

pub leb_last : (m n v f at byte : ℕ) (bytes : List ℕ) → m ≡ suc n → slice_get bytes at ≡ Some byte → byte < 128 → with_low v f (leb_in m bytes at) ≡ Some (record { value = v + byte * f; weight = f * 128; negative = leb 64 byte }, at + 1)
unfolding leb_in
leb_last m n v f at byte bytes em h lt =
    let a : v + f * byte ≡ v + byte * f = omega arith in
    rw (em, h, lt-ltb byte 128 lt, a) refl

pub leb_past : (m n v f at : ℕ) (bytes : List ℕ) → m ≡ suc n → length bytes ≤ at → with_low v f (leb_in m bytes at) ≡ None
unfolding leb_in
leb_past m n v f at bytes em le = rw (em, slice_get_past bytes at le) refl

-- a last byte that does not end the number
pub leb_endless : (m n v f at byte : ℕ) (bytes : List ℕ) → m ≡ suc n → n ≡ 0 → slice_get bytes at ≡ Some byte → 128 ≤ byte → with_low v f (leb_in m bytes at) ≡ None
unfolding leb_in
leb_endless m n v f at byte bytes em en h le = rw (em, en, h, le-ltb byte 128 le) refl

pub fits_step : (v f low i : ℕ) → v < f → f ≡ 128 ^ i → i < 9 → low < 128 → (v + low * f < f * 128) × (f * 128 ≤ 2 ^ 63) × (f * 128 ≡ 128 ^ (i + 1))
fits_step v f low i small power lt low_small =
    let a : 128 ^ i ≤ 128 ^ 8 = pow-le-pow_right {n = 128} (omega arith) {i = i} {j = 8} (omega arith) in
    let b : low * f ≤ 127 * f = mul-le-mul_right f (omega arith) in
    let e : i + 1 ≡ suc i = omega arith in
    let next : f * 128 ≡ 128 ^ (i + 1) = rw (e, pow-suc 128 i, power) refl in
    (omega arith, omega arith, next)

-- a number of one byte
pub leb_one : (m n at byte : ℕ) (bytes : List ℕ) → m ≡ suc n → slice_get bytes at ≡ Some byte → byte < 128 → leb_in m bytes at ≡ Some (record { value = byte; weight = 128; negative = leb 64 byte }, at + 1)
unfolding leb_in
leb_one m n at byte bytes em h lt = rw (em, h, lt-ltb byte 128 lt) refl

pub uleb_one : (bytes : List ℕ) (at byte : ℕ) → slice_get bytes at ≡ Some byte → byte < 128 → uleb bytes at ≡ Some (byte, at + 1)
unfolding uleb
uleb_one bytes at byte h lt = rw (leb_one 10 9 at byte bytes refl h lt, lt-ltb byte (2 ^ 64) (omega arith)) refl

pub uleb_two : (bytes : List ℕ) (at byte next : ℕ) → slice_get bytes at ≡ Some byte → 128 ≤ byte → byte < 256 → slice_get bytes (at + 1) ≡ Some next → next < 128 → uleb bytes at ≡ Some (byte - 128 + 128 * next, at + 1 + 1)
unfolding uleb leb_in
uleb_two bytes at byte next h le small k lt =
    let rest = leb_one 9 8 (at + 1) next bytes refl k lt in
    let fits : byte - 128 + 128 * next < 2 ^ 64 = omega (arith, lt, small) in
    rw (h, le-ltb byte 128 le, rest, lt-ltb (byte - 128 + 128 * next) (2 ^ 64) fits) refl

pub leb_none : (m n at : ℕ) (bytes : List ℕ) → m ≡ suc n → length bytes ≤ at → leb_in m bytes at ≡ None
unfolding leb_in
leb_none m n at bytes em le = rw (em, slice_get_past bytes at le) refl

-- A number with a sign as the groups of its bytes give it, and one of one byte.
use Rattle.std.proofs.Common.{◌≡◌, ℕ, ℤ, ◌+◌, ◌<◌, leb, List, Option, None, Some, refl, ap, ◌∙◌}
use Rattle.std.specs.Prelude.{slice_get, option_map}
use Rattle.blz_model.specs.Reads.{◌>>=◌}
use Rattle.blz_model.specs.LebNumbers.{leb_in, signed, fits_i64, sleb}
use Rattle.blz_model.specs.declared.leb.Leb.{Leb}
use Rattle.blz_bytes.proofs.LebLoop.{leb_one}

-- the value with its sign where it fits, and the place behind the number
abbrev pub signed_with : ℕ → Leb → Option (ℤ × ℕ)
signed_with next n = option_map (λ (v : ℤ). (v, next)) (fits_i64 (signed n))

abbrev with_place : ℕ → ℤ → Option (ℤ × ℕ)
with_place n v = Some (v, n)

abbrev by_leb : Leb × ℕ → Option (ℤ × ℕ)
by_leb r = fits_i64 (signed r.0) >>= with_place r.1

by_map : (n : ℕ) (o : Option ℤ) → (o >>= with_place n) ≡ option_map (λ (v : ℤ). (v, n)) o
by_map n None = refl
by_map n (Some v) = refl

pub sleb_none : (bytes : List ℕ) (at : ℕ) → leb_in 10 bytes at ≡ None → sleb bytes at ≡ None
unfolding sleb
sleb_none bytes at h = ap (λ (o : Option (Leb × ℕ)). o >>= by_leb) h

pub sleb_some : (bytes : List ℕ) (at next : ℕ) (n : Leb) → leb_in 10 bytes at ≡ Some (n, next) → sleb bytes at ≡ signed_with next n
unfolding sleb
sleb_some bytes at next n h = ap (λ (o : Option (Leb × ℕ)). o >>= by_leb) h ∙ by_map next (fits_i64 (signed n))

-- the byte with its sign
abbrev pub one_byte : ℕ → Leb
one_byte b = record { value = b; weight = 128; negative = leb 64 b }

pub sleb_one : (bytes : List ℕ) (at b : ℕ) → slice_get bytes at ≡ Some b → b < 128 → sleb bytes at ≡ signed_with (at + 1) (one_byte b)
sleb_one bytes at b h lt = sleb_some bytes at (at + 1) (one_byte b) (leb_one 10 9 at b bytes refl h lt)

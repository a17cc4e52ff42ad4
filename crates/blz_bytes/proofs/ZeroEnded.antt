-- A text is what a search for the zero byte finds.
use Rattle.std.proofs.Common.{◌≡◌, ℕ, zero, suc, ◌+◌, ◌-◌, ◌<◌, ◌≤◌, true, false, eqb, List, [], ◌∷◌, length, get_or, take, drop, Some, None, refl, sym, ap, ◌∙◌, arith}
use Rattle.std.proofs.lemmas.Bool.{false_from_ne_true}
use Rattle.std.proofs.lemmas.List.{take_rest, length-take-le}
use Rattle.std.proofs.Math.ListN.{drop_of_length-le}
use Rattle.blz_model.specs.Texts.{c_string}
use Rattle.blz_bytes.specs.Pieces.{zero_ended}

pub c_string_found : (bytes : List ℕ) (k : ℕ) → k < length bytes → ((j : ℕ) → j < k → eqb (get_or bytes j 0) 0 ≡ true → ⊥) → eqb (get_or bytes k 0) 0 ≡ true → c_string bytes ≡ Some (take k bytes)
c_string_found [] k lt none z = absurd (omega arith)
c_string_found (b ∷ bytes) zero lt none z = rw z refl
c_string_found (b ∷ bytes) (suc k) lt none z =
    let more = c_string_found bytes k (omega arith) (λ j below. none (suc j) (omega arith)) z in
    let first : eqb b 0 ≡ false = false_from_ne_true (eqb b 0) (none 0 (omega arith)) in
    rw (first, more) refl

pub c_string_none : (bytes : List ℕ) → ((j : ℕ) → j < length bytes → eqb (get_or bytes j 0) 0 ≡ true → ⊥) → c_string bytes ≡ None
c_string_none [] none = refl
c_string_none (b ∷ bytes) none =
    let more = c_string_none bytes (λ j below. none (suc j) (omega arith)) in
    let first : eqb b 0 ≡ false = false_from_ne_true (eqb b 0) (none 0 (omega arith)) in
    rw (first, more) refl

pub none_past : (bytes : List ℕ) (at : ℕ) → length bytes ≤ at → zero_ended bytes at ≡ None
unfolding zero_ended
none_past bytes at le = rw (drop_of_length-le bytes le) refl

-- no zero from the place on
pub none_ends : (bytes : List ℕ) (at : ℕ) → ((j : ℕ) → j < length (take (length bytes - at) (drop at bytes)) → eqb (get_or (take (length bytes - at) (drop at bytes)) j 0) 0 ≡ true → ⊥) → zero_ended bytes at ≡ None
unfolding zero_ended
none_ends bytes at none = rw (ap c_string (sym (take_rest bytes at)) ∙ c_string_none (take (length bytes - at) (drop at bytes)) none) refl

-- the first zero stands k bytes behind the place
pub zero_found : (bytes : List ℕ) (at k : ℕ) → k < length (take (length bytes - at) (drop at bytes)) → ((j : ℕ) → j < k → eqb (get_or (take (length bytes - at) (drop at bytes)) j 0) 0 ≡ true → ⊥) → eqb (get_or (take (length bytes - at) (drop at bytes)) k 0) 0 ≡ true → Some (take k (take (length bytes - at) (drop at bytes)), at + k + 1) ≡ zero_ended bytes at
unfolding zero_ended
zero_found bytes at k lt before here =
    let rest = take (length bytes - at) (drop at bytes) in
    let found = ap c_string (sym (take_rest bytes at)) ∙ c_string_found rest k lt before here in
    let len = length-take-le k rest (omega arith) in
    rw (found, len) refl

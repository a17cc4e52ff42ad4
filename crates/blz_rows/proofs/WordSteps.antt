-- A word is divided at its last colon.
use Rattle.std.proofs.Common.{◌≡◌, ℕ, zero, suc, ◌+◌, ◌<◌, ◌==◌, Bool, true, false, cond, [], ◌∷◌, length, take, drop, slice_index, Option, Some, None, refl, arith}
use Rattle.blz_error.specs.Texts.{Bytes}
use Rattle.blz_rows.specs.Words.{divided}

abbrev pub ColonAt : Bytes → ℕ → Type 0
ColonAt word k = (slice_index word k == 58) ≡ true

no_colon : (b : Bool) (x : Option (Bytes × Bytes)) → ¬ (b ≡ true) → cond b x None ≡ None
no_colon true x h = absurd (h refl)
no_colon false x h = refl

a_colon : (b : Bool) (x : Option (Bytes × Bytes)) → b ≡ true → cond b x None ≡ x
a_colon true x h = refl
a_colon false x h = absurd cc

pub divided-none : (word : Bytes) → ((k : ℕ) → k < length word → ¬ (ColonAt word k)) → divided word ≡ None
divided-none [] none = refl
divided-none (b ∷ bs) none =
    let rest : divided bs ≡ None = divided-none bs (λ k lt. none (suc k) (omega (arith, lt))) in
    rw rest (no_colon (b == 58) (Some ([], bs)) (none 0 (omega arith)))

pub divided-at : (word : Bytes) (i : ℕ) → i < length word → ColonAt word i → ((k : ℕ) → i < k → k < length word → ¬ (ColonAt word k))
    → divided word ≡ Some (take i word, drop (i + 1) word)
divided-at [] i lt at after = absurd (omega (arith, lt))
divided-at (b ∷ bs) zero lt at after =
    let rest : divided bs ≡ None = divided-none bs (λ k below. after (suc k) (omega arith) (omega (arith, below))) in
    rw rest (a_colon (b == 58) (Some ([], bs)) at)
divided-at (b ∷ bs) (suc i) lt at after =
    let rest : divided bs ≡ Some (take i bs, drop (i + 1) bs) = divided-at bs i (omega (arith, lt)) at (λ k above below. after (suc k) (omega (arith, above)) (omega (arith, below))) in
    let next : suc i + 1 ≡ suc (i + 1) = omega arith in
    rw (next, rest) refl

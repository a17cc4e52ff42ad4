-- A text is cut at the first byte that ends a piece.
use Rattle.std.proofs.Common.{◌≡◌, ℕ, zero, suc, ◌+◌, ◌<◌, ◌==◌, Bool, true, false, List, [], ◌∷◌, ◌++◌, length, slice_index, take, drop, refl, ap, sym, ◌∙◌, arith, if◌then◌else◌}
use Rattle.std.proofs.lemmas.Bool.{eqb-true, false≢true}
use Rattle.blz_error.specs.Texts.{Bytes}
use Rattle.blz_program.specs.TextLines.{pieces_of, with_first}

-- a piece ends at a place
abbrev pub EndsAt : ℕ → Bytes → ℕ → Type 0
EndsAt end text k = (slice_index text k == end) ≡ true

chosen : (t : Bool) (x y : List Bytes) → t ≡ true → (if t then x else y) ≡ x
chosen true x y h = refl
chosen false x y h = absurd (false≢true h)

other : (t : Bool) (x y : List Bytes) → ¬ (t ≡ true) → (if t then x else y) ≡ y
other true x y h = absurd (h refl)
other false x y h = refl

pub pieces_of-end_at : (end : ℕ) (text : Bytes) (n : ℕ) → n < length text → EndsAt end text n → ((k : ℕ) → k < n → ¬ (EndsAt end text k))
    → pieces_of end text ≡ take n text ∷ pieces_of end (drop (n + 1) text)
pieces_of-end_at end [] n h at before = absurd (omega (arith, h))
pieces_of-end_at end (b ∷ bs) zero h at before = chosen (b == end) ([] ∷ pieces_of end bs) (with_first b (pieces_of end bs)) at
pieces_of-end_at end (b ∷ bs) (suc n) h at before =
    let first = other (b == end) ([] ∷ pieces_of end bs) (with_first b (pieces_of end bs)) (before 0 (omega arith)) in
    let rest = pieces_of-end_at end bs n (omega (arith, h)) at (λ k lt. before (suc k) (omega (arith, lt))) in
    let next : suc n + 1 ≡ suc (n + 1) = omega arith in
    rw next (first ∙ ap (with_first b) rest)

-- the parts before and behind the byte make the text
pub cut_at : (end : ℕ) (text : Bytes) (n : ℕ) → n < length text → EndsAt end text n → text ≡ take n text ++ end ∷ drop (n + 1) text
cut_at end [] n h at = absurd (omega (arith, h))
cut_at end (b ∷ bs) zero h at = ap (λ (x : ℕ). x ∷ bs) (eqb-true b end at)
cut_at end (b ∷ bs) (suc n) h at =
    let next : suc n + 1 ≡ suc (n + 1) = omega arith in
    rw next (ap (λ (r : Bytes). b ∷ r) (cut_at end bs n (omega (arith, h)) at))

pub pieces_of-no_end : (end : ℕ) (text : Bytes) → 0 < length text → ((k : ℕ) → k < length text → ¬ (EndsAt end text k)) → pieces_of end text ≡ text ∷ []
pieces_of-no_end end [] h none = absurd (omega (arith, h))
pieces_of-no_end end (b ∷ []) h none = other (b == end) ([] ∷ []) (with_first b []) (none 0 (omega arith))
pieces_of-no_end end (b ∷ c ∷ cs) h none =
    let first = other (b == end) ([] ∷ pieces_of end (c ∷ cs)) (with_first b (pieces_of end (c ∷ cs))) (none 0 (omega arith)) in
    first ∙ ap (with_first b) (pieces_of-no_end end (c ∷ cs) (omega arith) (λ k lt. none (suc k) (omega (arith, lt))))

pub not_empty : (n : ℕ) (empty : Bool) → empty ≡ (n == 0) → empty ≡ false → 0 < n
not_empty zero empty is not = absurd (false≢true (sym not ∙ is))
not_empty (suc n) empty is not = omega arith

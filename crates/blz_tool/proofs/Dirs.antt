-- A list of directories is cut at its first colon.
use Rattle.std.proofs.Common.{◌≡◌, ℕ, ◌+◌, ◌-◌, ◌<◌, ◌==◌, true, ◌∷◌, [], length, take, drop, subst, arith}
use Rattle.std.proofs.lemmas.Bool.Decides.{nat_tests}
use Rattle.std.proofs.lemmas.Str.{IsCharBoundary-after_ascii}
use Rattle.std.specs.List.{slice_range}
use Rattle.std.specs.Str.{IsCharBoundary, IsUtf8}
use Rattle.blz_error.specs.Texts.{Bytes}
use Rattle.blz_program.proofs.Cuts.{EndsAt, pieces_of-end_at, pieces_of-no_end}
use Rattle.blz_program.specs.TextLines.{pieces_of}

is_colon : (x : ℕ) → (x == 58) ≡ true → x < 128
is_colon x h = grind (arith, nat_tests)

pub colon_boundary : (list bytes : Bytes) (n : ℕ) → bytes ≡ list → IsUtf8 list → n < length bytes → EndsAt 58 bytes n → IsCharBoundary list (n + 1)
colon_boundary list bytes n same text h at =
    IsCharBoundary-after_ascii list n text (subst (λ (t : Bytes). n < length t) same h) (is_colon _ (subst (λ (t : Bytes). EndsAt 58 t n) same at))

pub first_piece : (list bytes front back : Bytes) (n : ℕ) → bytes ≡ list → n < length bytes → EndsAt 58 bytes n → ((k : ℕ) → k < n → ¬ (EndsAt 58 bytes k))
    → front ≡ slice_range list 0 n → back ≡ drop (n + 1) list → pieces_of 58 list ≡ front ∷ pieces_of 58 back
first_piece list bytes front back n same h at before is_front is_back =
    let whole : pieces_of 58 bytes ≡ take n bytes ∷ pieces_of 58 (drop (n + 1) bytes) = pieces_of-end_at 58 bytes n h at before in
    let here : pieces_of 58 list ≡ take n list ∷ pieces_of 58 (drop (n + 1) list) = subst (λ (t : Bytes). pieces_of 58 t ≡ take n t ∷ pieces_of 58 (drop (n + 1) t)) same whole in
    let whole_front : n - 0 ≡ n = omega arith in
    rw (is_front, is_back, whole_front) here

pub one_piece : (list bytes : Bytes) → bytes ≡ list → 0 < length list → ((k : ℕ) → k < length bytes → ¬ (EndsAt 58 bytes k)) → pieces_of 58 list ≡ list ∷ []
one_piece list bytes same some none =
    pieces_of-no_end 58 list some (subst (λ (t : Bytes). (k : ℕ) → k < length t → ¬ (EndsAt 58 t k)) same none)

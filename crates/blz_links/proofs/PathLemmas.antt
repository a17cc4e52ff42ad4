-- The components of a path, one after the other.
use Rattle.std.proofs.Common.{◌≡◌, ◌<◌, ◌≤◌, ℕ, suc, ◌+◌, ◌-◌, Bool, true, false, cond, not, nat_eq, List, [], ◌∷◌, length, filter, refl, sym, ap, ◌∙◌, arith}
use Rattle.std.specs.List.{after_first, before_first, onto_first, position_or_len, slice_split}
use Rattle.std.proofs.lemmas.List.{length-drop, length-take-le}
use Rattle.std.proofs.lemmas.List.Splits.{slice_split_first}
use Rattle.blz_bytes.specs.Joined.{slash}
use Rattle.blz_links.specs.Paths.{Piece, is_component, kept_before, pieces_from, placed_from}

-- ---- the first part

-- where no slash is, there is one part
split_whole : (xs : List ℕ) → position_or_len (λ b. nat_eq b slash) xs ≡ length xs → slice_split (λ b. nat_eq b slash) xs ≡ xs ∷ []
split_whole [] e = refl
split_whole (x ∷ xs) e = by (nat_eq x slash) (split_whole xs) e
  where
    by : (t : Bool) → (position_or_len (λ b. nat_eq b slash) xs ≡ length xs → slice_split (λ b. nat_eq b slash) xs ≡ xs ∷ []) → cond (not t) (1 + position_or_len (λ b. nat_eq b slash) xs) 0 ≡ suc (length xs) → cond t ([] ∷ slice_split (λ b. nat_eq b slash) xs) (onto_first x (slice_split (λ b. nat_eq b slash) xs)) ≡ (x ∷ xs) ∷ []
    by true rest e = absurd (let f : ⊥ = omega arith in f)
    by false rest e = ap (onto_first x) (rest (omega arith))

-- a part before a slash
pub pieces_from-split : (rest text behind : List ℕ) → position_or_len (λ b. nat_eq b slash) rest < length rest → text ≡ before_first (λ b. nat_eq b slash) rest → behind ≡ after_first (λ b. nat_eq b slash) rest
    → (at : ℕ) → pieces_from at rest ≡ kept_before (record { offset = at; text = text }) (pieces_from (at + (length rest - length behind)) behind)
unfolding placed_from
pieces_from-split rest text behind inside text-is behind-is at =
    let n = position_or_len (λ b. nat_eq b slash) rest in
    let text_long : length text ≡ n = ap length text-is ∙ length-take-le n rest (omega arith) in
    let behind_long : length behind ≡ length rest - (n + 1) = ap length behind-is ∙ length-drop (n + 1) rest in
    let next : at + length text + 1 ≡ at + (length rest - length behind) = omega arith in
    let parts : slice_split (λ b. nat_eq b slash) rest ≡ text ∷ slice_split (λ b. nat_eq b slash) behind =
    slice_split_first (λ b. nat_eq b slash) rest 0 inside ∙ rw (text-is, behind-is) refl in
    ap (λ ps. filter is_component (placed_from at ps)) parts
    ∙ ap (λ k. kept_before (record { offset = at; text = text }) (pieces_from k behind)) next

-- the last part
pub pieces_from-whole : (rest : List ℕ) → position_or_len (λ b. nat_eq b slash) rest ≡ length rest
    → (at : ℕ) → pieces_from at rest ≡ kept_before (record { offset = at; text = rest }) (pieces_from (at + (length rest - 0)) [])
unfolding placed_from
pieces_from-whole rest none at = ap (λ ps. filter is_component (placed_from at ps)) (split_whole rest none)

-- what is left of a path, at the offset that its length tells
pub pieces_from-next : (len : ℕ) (rest behind : List ℕ) (piece : Piece) → piece.offset ≡ len - length rest → length rest ≤ len → length behind ≤ length rest
    → ((at : ℕ) → pieces_from at rest ≡ kept_before (record { offset = at; text = piece.text }) (pieces_from (at + (length rest - length behind)) behind))
    → pieces_from (len - length rest) rest ≡ kept_before piece (pieces_from (len - length behind) behind)
pieces_from-next len rest behind piece offset fits shorter first =
    let next : len - length rest + (length rest - length behind) ≡ len - length behind = omega arith in
    first (len - length rest)
    ∙ ap (λ k. kept_before (record { offset = k; text = piece.text }) (pieces_from (len - length rest + (length rest - length behind)) behind)) (sym offset)
    ∙ ap (λ k. kept_before piece (pieces_from k behind)) next

pub pieces_from-kept : (len : ℕ) (rest behind : List ℕ) (piece : Piece) → is_component piece ≡ true
    → pieces_from (len - length rest) rest ≡ kept_before piece (pieces_from (len - length behind) behind)
    → pieces_from (len - length rest) rest ≡ piece ∷ pieces_from (len - length behind) behind
pieces_from-kept len rest behind piece keeps first = first ∙ rw (keeps) refl

pub pieces_from-dropped : (len : ℕ) (rest behind : List ℕ) (piece : Piece) → is_component piece ≡ false
    → pieces_from (len - length rest) rest ≡ kept_before piece (pieces_from (len - length behind) behind)
    → pieces_from (len - length behind) behind ≡ pieces_from (len - length rest) rest
pieces_from-dropped len rest behind piece drops first = sym (first ∙ rw (drops) refl)

pub pieces_from-nil : (at : ℕ) (rest : List ℕ) → length rest ≡ 0 → pieces_from at rest ≡ []
unfolding placed_from
pieces_from-nil at [] e = refl
pieces_from-nil at (x ∷ xs) e = absurd (let f : ⊥ = omega arith in f)

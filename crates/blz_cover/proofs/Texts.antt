-- The text of lines from an index on.
use Rattle.std.proofs.Common.{◌≡◌, ℕ, ◌+◌, zero, suc, List, [], ◌∷◌, ◌++◌, drop, slice_get, refl, arith}
use Rattle.blz_cover.specs.CoverText.{line_text_if, lines_text}
use Rattle.blz_cover.specs.Coverage.{CountedLine}

none_left : (i : ℕ) → drop {A = CountedLine} i [] ≡ []
none_left zero = refl
none_left (suc i) = refl

pub lines_text-drop : (ls : List CountedLine) (i : ℕ) → lines_text (drop i ls) ≡ line_text_if (slice_get ls i) ++ lines_text (drop (i + 1) ls)
lines_text-drop [] i = rw (none_left i, none_left (i + 1)) refl
lines_text-drop (l ∷ ls) zero = refl
lines_text-drop (l ∷ ls) (suc i) = let next : suc i + 1 ≡ suc (i + 1) = omega arith in rw next (lines_text-drop ls i)

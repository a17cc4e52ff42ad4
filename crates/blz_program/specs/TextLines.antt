-- The lines of a text file, and other pieces that end at a byte.
use Rattle.std.specs.Prelude.{◌≡◌, ◌⊎◌, ℕ, ◌==◌, List, [], ◌∷◌, ◌++◌, if◌then◌else◌}
use Rattle.blz_error.specs.Texts.{Bytes}

-- a byte in front of the first of some pieces, or a piece of its own where there is none
abbrev pub with_first : ℕ → List Bytes → List Bytes
with_first b [] = (b ∷ []) ∷ []
with_first b (piece ∷ pieces) = (b ∷ piece) ∷ pieces

-- Each piece ends at that byte, which the last may lack. An empty text has no piece.
abbrev pub pieces_of : ℕ → Bytes → List Bytes
pieces_of end [] = []
pieces_of end (b ∷ bs) = if b == end then [] ∷ pieces_of end bs else with_first b (pieces_of end bs)

-- A text is a line, a line feed and the rest; or the line alone, where no line feed ends it.
abbrev pub IsCut : Bytes → Bytes → Bytes → Type 0
IsCut text line rest = (text ≡ line ++ 10 ∷ rest) ⊎ ((text ≡ line) × (rest ≡ []))

-- a line ends at a line feed
abbrev pub lines_of : Bytes → List Bytes
lines_of text = pieces_of 10 text

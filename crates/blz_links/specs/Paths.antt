-- Paths as texts: their components, their parents and their file names.
use Rattle.std.specs.Prelude.{ℕ, zero, suc, ◌+◌, ◌==◌, Bool, false, ◌&&◌, ◌||◌, not, List, [], ◌∷◌, length, map, take, slice_get, slice_index, filter, Option, Some, None, unwrap_or, if◌then◌else◌}
use Rattle.std.specs.Bool.{beq}
use Rattle.std.specs.Cmp.Lexicographic.{pointwise}
use Rattle.std.specs.List.{last_or, slice_split}
use Rattle.std.specs.Option.{option_map}
use Rattle.std.specs.Str.{bytes_eq}
use Rattle.blz_bytes.specs.Joined.{is_slash, joined, slash}

-- a part of a path, and where it begins
pub record Piece : Type 0 where
  pub offset : ℕ
  pub text : List ℕ

-- the offsets of parts that a slash divides, the first of which begins at `at`
unfoldable pub placed_from : ℕ → List (List ℕ) → List Piece
placed_from at [] = []
placed_from at (text ∷ texts) = record { offset = at; text = text } ∷ placed_from (at + length text + 1) texts

-- `.`, the directory itself
abbrev pub dot : List ℕ
dot = 0x2e ∷ []

-- `..`, the directory above
abbrev pub dots : List ℕ
dots = 0x2e ∷ 0x2e ∷ []

-- An empty part counts for nothing, and neither does `.` behind the beginning.
abbrev pub is_component : Piece → Bool
is_component piece = not (length piece.text == 0) && ((piece.offset == 0) || not (bytes_eq piece.text dot))

-- the components, the root aside, of what is left of a path from an offset on
abbrev pub pieces_from : ℕ → List ℕ → List Piece
pieces_from at rest = filter is_component (placed_from at (slice_split (λ b. b == slash) rest))

-- the components of a path, the root aside, each with its offset
abbrev pub pieces_of : List ℕ → List Piece
pieces_of path = pieces_from 0 path

-- a part before others, where it is a component
abbrev pub kept_before : Piece → List Piece → List Piece
kept_before piece pieces = if is_component piece then piece ∷ pieces else pieces

-- the components without their offsets
abbrev pub texts_of : List Piece → List (List ℕ)
texts_of pieces = map (λ piece. piece.text) pieces

-- the components of a path: whether it begins at the root, and the texts
pub record Components : Type 0 where
  pub is_rooted : Bool
  pub texts : List (List ℕ)

-- the components of a path, by which paths are compared
unfoldable pub components_of : List ℕ → Components
components_of path = record { is_rooted = is_slash (slice_get path 0); texts = texts_of (pieces_of path) }

-- whether two paths have the same components
unfoldable pub same_components : List ℕ → List ℕ → Bool
same_components a b =
    beq (components_of a).is_rooted (components_of b).is_rooted && pointwise bytes_eq (components_of a).texts (components_of b).texts

-- ---- the path above

-- the last component of a path; none of the root and of the empty path
abbrev pub last_piece : List ℕ → Option Piece
last_piece path = last_or None (pieces_of path)

-- the number of the first n bytes without the slashes at their end
abbrev pub without_slashes : List ℕ → ℕ → ℕ
without_slashes path zero = 0
without_slashes path (suc n) = if slice_index path n == slash then without_slashes path n else suc n

-- What is before an offset, without the slashes at its end. Where only slashes are there, the first is the root.
abbrev pub length_before : List ℕ → ℕ → ℕ
length_before path offset = if (without_slashes path offset == 0) && not (offset == 0) then 1 else without_slashes path offset

-- The path before its last component; none of the root and of the empty path.
unfoldable pub parent_of : List ℕ → Option (List ℕ)
parent_of path = option_map (λ piece. take (length_before path piece.offset) path) (last_piece path)

-- ---- the last name

-- the last component is a name: neither the root nor `.` nor `..`
abbrev pub is_name : Option Piece → Bool
is_name None = false
is_name (Some piece) = not (bytes_eq piece.text dot) && not (bytes_eq piece.text dots)

-- what a file name is put behind
abbrev pub directory_of : List ℕ → List ℕ
directory_of path = if is_name (last_piece path) then unwrap_or (parent_of path) [] else path

-- the path with another file name, or with a file name where it has none
unfoldable pub with_file_name : List ℕ → List ℕ → List ℕ
with_file_name path name = joined (directory_of path) name

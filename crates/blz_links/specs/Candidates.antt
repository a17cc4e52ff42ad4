-- Where the file of a link is looked for (GNU debug links, Separate Debug Files).
use Rattle.std.specs.Prelude.{◌≢◌, ℕ, zero, suc, ◌+◌, ◌==◌, Bool, true, not, List, [], ◌∷◌, ◌++◌, length, map, take, drop, filter, nat_le, Option, Some, None, codes, if◌then◌else◌}
use Rattle.std.specs.List.{flat_map, join_with_byte}
use Rattle.hex.specs.Hex.{encode_lower}
use Rattle.blz_bytes.specs.Joined.{joined, slash}
use Rattle.blz_links.specs.Paths.{Components, components_of, parent_of, same_components, with_file_name}

-- the debug file of a build id, below a directory: its first byte and the others, in lower-case hexadecimal
abbrev pub build_id_path : List ℕ → List ℕ
build_id_path id = codes ".build-id/" ++ (encode_lower (take 1 id) ++ (slash ∷ (encode_lower (drop 1 id) ++ codes ".debug")))

-- A build id of fewer than eight bytes is not looked for.
abbrev pub by_build_id : List (List ℕ) → Option (List ℕ) → List (List ℕ)
by_build_id dirs None = []
by_build_id dirs (Some id) = if nat_le 8 (length id) then map (λ dir. joined dir (build_id_path id)) dirs else []

-- in each directory
abbrev pub by_name : List (List ℕ) → List ℕ → List (List ℕ)
by_name dirs linkee = map (λ dir. joined dir linkee) dirs

-- a path, and what goes on from its parent where that is not empty
abbrev pub then_above : (List ℕ → List (List ℕ)) → Option (List ℕ) → List (List ℕ)
then_above go_on None = []
then_above go_on (Some parent) = if length parent == 0 then [] else go_on parent

-- a path, its parent and so on, while they are not empty; at most n of them
unfoldable pub upwards : ℕ → List ℕ → List (List ℕ)
upwards zero path = []
upwards (suc n) path = path ∷ then_above (upwards n) (parent_of path)

-- Each parent is shorter, so these are all.
abbrev pub path_and_above : List ℕ → List (List ℕ)
path_and_above path = upwards (length path + 1) path

-- the texts before the last
abbrev pub without_last : List (List ℕ) → List (List ℕ)
without_last [] = []
without_last (text ∷ []) = []
without_last (text ∷ next ∷ texts) = text ∷ without_last (next ∷ texts)

-- texts without the last, joined by slashes
abbrev pub joined_inner : List (List ℕ) → List ℕ
joined_inner texts = join_with_byte slash (without_last texts)

-- the components behind the first, where the root counts as one
abbrev pub behind_first : Components → List (List ℕ)
behind_first c = if c.is_rooted then c.texts else drop 1 c.texts

-- the components of a path without the first and the last, as a path
abbrev pub inner_path : List ℕ → List ℕ
inner_path path = joined_inner (behind_first (components_of path))

-- below each directory, in the path of the linker's directory and in the paths above it
abbrev pub below : List (List ℕ) → List ℕ → List ℕ → List (List ℕ)
below dirs inner linkee = flat_map (λ dir. map (λ path. joined (joined dir path) linkee) (path_and_above inner)) dirs

-- beside the linker, and below each directory
abbrev pub by_linker : List (List ℕ) → Option (List ℕ) → List ℕ → List (List ℕ)
by_linker dirs None linkee = []
by_linker dirs (Some linker) linkee = with_file_name linker linkee ∷ below dirs (inner_path (with_file_name linker linkee)) linkee

-- whether a path is not the linker
abbrev pub is_other : Option (List ℕ) → List ℕ → Bool
is_other None path = true
is_other (Some linker) path = not (same_components path linker)

-- The paths in the order in which they are asked for: by the build id, in each directory, beside the linker, below
-- each directory. The linker itself is left out.
unfoldable pub candidates : List (List ℕ) → Option (List ℕ) → List ℕ → Option (List ℕ) → List (List ℕ)
candidates dirs linker linkee build_id =
    filter (is_other linker) (by_build_id dirs build_id ++ (by_name dirs linkee ++ by_linker dirs linker linkee))

-- ---- no candidate is the linker

abbrev pub HasOther : Option (List ℕ) → List ℕ → Type 0
HasOther None path = Unit {0}
HasOther (Some linker) path = components_of path ≢ components_of linker

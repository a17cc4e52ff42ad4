-- What is left to look at where a search goes on.
use Rattle.std.specs.Prelude.{◌≡◌, ℕ, ◌+◌, ◌==◌, Bool, true, false, List, [], ◌∷◌, ◌++◌, length, map, drop, filter, string_bytes, Option, Some, None, if◌then◌else◌}
use Rattle.std.specs.Option.{option_map}
use Rattle.blz_bytes.specs.Joined.{joined}
use Rattle.blz_links.specs.Paths.{parent_of, with_file_name}
use Rattle.blz_links.specs.Candidates.{below, by_build_id, by_linker, by_name, inner_path, is_other, path_and_above}
use Rattle.blz_links.specs.declared.search.Found.{Found}
use Rattle.blz_links.specs.declared.search.SearchedLink.{SearchedLink}
use Rattle.blz_links.specs.declared.search.Stage.{Stage}
use Rattle.blz_links.specs.declared.search.Stage.TheVariants.{BuildId, Directory, Beside, Below, Ended}

abbrev pub dirs_of : SearchedLink → List (List ℕ)
dirs_of a = map string_bytes a.dirs.now

abbrev pub linker_of : SearchedLink → Option (List ℕ)
linker_of a = option_map (λ linker. linker.now) a.linker

abbrev pub id_of : SearchedLink → Option (List ℕ)
id_of a = option_map (λ id. id.now) a.build_id

-- the path of the linker's directory
abbrev pub inner_of : SearchedLink → Option (List ℕ) → List ℕ
inner_of a None = []
inner_of a (Some linker) = inner_path (with_file_name linker a.linkee.now)

-- below the first of some directories from a path upwards, then below the others
abbrev pub below_from : List (List ℕ) → List ℕ → List ℕ → List ℕ → List (List ℕ)
below_from [] path inner linkee = []
below_from (dir ∷ dirs) path inner linkee = map (λ above. joined (joined dir above) linkee) (path_and_above path) ++ below dirs inner linkee

-- after a path below the directory at an index: its parent, where that is not empty, then below the next directory
abbrev pub after_above : SearchedLink → ℕ → Option (List ℕ) → List (List ℕ)
after_above a i None = below (drop (i + 1) (dirs_of a)) (inner_of a (linker_of a)) a.linkee.now
after_above a i (Some above) =
    if length above == 0
    then below (drop (i + 1) (dirs_of a)) (inner_of a (linker_of a)) a.linkee.now
    else below_from (drop i (dirs_of a)) above (inner_of a (linker_of a)) a.linkee.now

abbrev pub after_path : SearchedLink → ℕ → List ℕ → List (List ℕ)
after_path a i path = after_above a i (parent_of path)

unfoldable pub paths_at : SearchedLink → Stage → List (List ℕ)
paths_at a (BuildId i) = by_build_id (drop i (dirs_of a)) (id_of a) ++ (by_name (dirs_of a) a.linkee.now ++ by_linker (dirs_of a) (linker_of a) a.linkee.now)
paths_at a (Directory i) = by_name (drop i (dirs_of a)) a.linkee.now ++ by_linker (dirs_of a) (linker_of a) a.linkee.now
paths_at a Beside = by_linker (dirs_of a) (linker_of a) a.linkee.now
paths_at a (Below i path) = below_from (drop i (dirs_of a)) (string_bytes path) (inner_of a (linker_of a)) a.linkee.now
paths_at a Ended = []

abbrev pub is_end : Stage → Bool
is_end (BuildId i) = false
is_end (Directory i) = false
is_end Beside = false
is_end (Below i path) = false
is_end Ended = true

-- A path is found that is the first of those at a stage, and the others are left; or there are none.
abbrev pub Finds : SearchedLink → Stage → Option Found → Type 0
Finds a stage None = paths_at a stage ≡ []
Finds a stage (Some found) = paths_at a stage ≡ string_bytes found.path ∷ paths_at a found.then

-- the candidates at a stage
abbrev pub others_at : SearchedLink → Stage → List (List ℕ)
others_at a stage = filter (is_other (linker_of a)) (paths_at a stage)

abbrev pub FindsOther : SearchedLink → Stage → Option Found → Type 0
FindsOther a stage None = others_at a stage ≡ []
FindsOther a stage (Some found) = others_at a stage ≡ string_bytes found.path ∷ others_at a found.then

-- The paths that are left of a search, one path on.
use Rattle.std.proofs.Common.{◌≡◌, ◌<◌, ◌≤◌, ℕ, zero, suc, ◌+◌, Bool, true, false, cond, nat_eq, nat_le, List, [], ◌∷◌, ◌++◌, length, map, drop, get_or, Option, Some, None, Result, Ok, Err, IfOk, refl, sym, ap, ◌∙◌, arith, string_bytes}
use Rattle.std.specs.List.{drop-map, join_with_byte}
use Rattle.std.specs.declared.alloc.Global.{Global}
use Rattle.std.specs.declared.string.String.{String}
use Rattle.std.proofs.lemmas.Bool.{le-leb}
use Rattle.std.proofs.lemmas.List.{append-nil, drop_more}
use Rattle.blz_error.specs.Reports.{each_after}
use Rattle.blz_bytes.specs.Joined.{joined, slash}
use Rattle.blz_links.specs.Paths.{Piece, parent_of, texts_of, with_file_name}
use Rattle.blz_links.specs.Candidates.{below, build_id_path, by_build_id, by_linker, by_name, inner_path, joined_inner, path_and_above, then_above, upwards, without_last}
use Rattle.blz_links.specs.Stages.{Finds, after_above, after_path, below_from, dirs_of, id_of, inner_of, linker_of, paths_at}
use Rattle.blz_links.specs.declared.search.Found.{Found}
use Rattle.blz_links.specs.declared.search.SearchedLink.{SearchedLink}
use Rattle.blz_links.specs.declared.search.Stage.{Stage}
use Rattle.blz_links.specs.declared.search.Stage.TheVariants.{BuildId, Directory, Beside, Below}
use Rattle.blz_links.proofs.ParentLemmas.{parent_of-shorter}

-- ---- texts joined by slashes

join-each : (x : List ℕ) (xs : List (List ℕ)) → join_with_byte slash (x ∷ xs) ≡ x ++ each_after (slash ∷ []) xs
join-each x [] = sym (append-nil x)
join-each x (y ∷ ys) = ap (λ rest. x ++ slash ∷ rest) (join-each y ys)

pub joined_inner-start : (path : List ℕ) (x y : Piece) (all rest : List Piece) → all ≡ x ∷ y ∷ rest → path ≡ x.text → path ++ each_after (slash ∷ []) (without_last (texts_of (y ∷ rest))) ≡ joined_inner (texts_of all)
joined_inner-start path x y all rest e p =
    ap (λ t. t ++ each_after (slash ∷ []) (without_last (texts_of (y ∷ rest)))) p ∙ sym (join-each x.text (without_last (texts_of (y ∷ rest)))) ∙ ap (λ ps. joined_inner (texts_of ps)) (sym e)

-- ---- a path and those above it

then_above-same : (f g : List ℕ → List (List ℕ)) (path : List ℕ) (o : Option (List ℕ)) → parent_of path ≡ o → ((q : List ℕ) → length q < length path → f q ≡ g q) → then_above f o ≡ then_above g o
then_above-same f g path None e same = refl
then_above-same f g path (Some q) e same = ap (cond (nat_eq (length q) 0) []) (same q (parent_of-shorter path q e))

upwards-enough : (n m : ℕ) (path : List ℕ) → length path < n → length path < m → upwards n path ≡ upwards m path
unfolding upwards
upwards-enough zero m path hn hm = absurd (let f : ⊥ = omega arith in f)
upwards-enough (suc n) zero path hn hm = absurd (let f : ⊥ = omega arith in f)
upwards-enough (suc n) (suc m) path hn hm =
    ap (λ above. path ∷ above) (then_above-same (upwards n) (upwards m) path (parent_of path) refl (λ q shorter. upwards-enough n m q (omega arith) (omega arith)))

upwards-suc : (n m : ℕ) (path : List ℕ) → n ≡ m + 1 → upwards n path ≡ path ∷ then_above (upwards m) (parent_of path)
unfolding upwards
upwards-suc zero m path e = absurd (let f : ⊥ = omega arith in f)
upwards-suc (suc n) m path e = let same : n ≡ m = omega arith in ap (λ k. path ∷ then_above (upwards k) (parent_of path)) same

path_and_above-step : (path : List ℕ) → path_and_above path ≡ path ∷ then_above path_and_above (parent_of path)
path_and_above-step path =
    upwards-suc (length path + 1) (length path) path refl
    ∙ ap (λ above. path ∷ above) (then_above-same (upwards (length path)) path_and_above path (parent_of path) refl (λ q shorter. upwards-enough (length path) (length q + 1) q shorter (omega arith)))

-- ---- the directories

drop_past : {A : Type 0} (xs : List A) (i : ℕ) → length xs ≤ i → drop i xs ≡ []
drop_past [] zero le = refl
drop_past [] (suc i) le = refl
drop_past (x ∷ xs) zero le = absurd (let f : ⊥ = omega arith in f)
drop_past (x ∷ xs) (suc i) le = drop_past xs i (omega arith)

-- a directory that is there
pub record IsDir (a : SearchedLink) (i : ℕ) (dir : String Global) : Type 0 where
  pub within : i < length a.dirs.now
  pub here : dir ≡ get_or a.dirs.now i dir

dirs-some : (a : SearchedLink) (i : ℕ) (dir : String Global) → IsDir a i dir → drop i (dirs_of a) ≡ string_bytes dir ∷ drop (i + 1) (dirs_of a)
dirs-some a i dir is =
    drop-map string_bytes i a.dirs.now ∙ ap (map string_bytes) (drop_more a.dirs.now i dir is.within ∙ ap (λ d. d ∷ drop (i + 1) a.dirs.now) (sym is.here))
    ∙ ap (λ ds. string_bytes dir ∷ ds) (sym (drop-map string_bytes (i + 1) a.dirs.now))

dirs-none : (a : SearchedLink) (i : ℕ) → length a.dirs.now ≤ i → drop i (dirs_of a) ≡ []
dirs-none a i past = drop-map string_bytes i a.dirs.now ∙ ap (map string_bytes) (drop_past a.dirs.now i past)

-- ---- a stage, one path on

pub paths_at-by_name : (a : SearchedLink) (i : ℕ) (dir : String Global) (path : List ℕ) → IsDir a i dir → path ≡ joined (string_bytes dir) a.linkee.now → paths_at a (Directory i) ≡ path ∷ paths_at a (Directory (i + 1))
unfolding paths_at
paths_at-by_name a i dir path here is =
    ap (λ ds. by_name ds a.linkee.now ++ by_linker (dirs_of a) (linker_of a) a.linkee.now) (dirs-some a i dir here)
    ∙ ap (λ p. p ∷ (by_name (drop (i + 1) (dirs_of a)) a.linkee.now ++ by_linker (dirs_of a) (linker_of a) a.linkee.now)) (sym is)

pub paths_at-names_end : (a : SearchedLink) (i : ℕ) → length a.dirs.now ≤ i → paths_at a (Directory i) ≡ paths_at a Beside
unfolding paths_at
paths_at-names_end a i none = ap (λ ds. by_name ds a.linkee.now ++ by_linker (dirs_of a) (linker_of a) a.linkee.now) (dirs-none a i none)

pub paths_at-by_build_id : (a : SearchedLink) (i : ℕ) (dir : String Global) (id path : List ℕ) → IsDir a i dir → id_of a ≡ Some id → 8 ≤ length id → path ≡ joined (string_bytes dir) (build_id_path id) → paths_at a (BuildId i) ≡ path ∷ paths_at a (BuildId (i + 1))
unfolding paths_at
paths_at-by_build_id a i dir id path here known long is =
    let rest = by_name (dirs_of a) a.linkee.now ++ by_linker (dirs_of a) (linker_of a) a.linkee.now in
    let fits : nat_le 8 (length id) ≡ true = le-leb 8 (length id) long in
    let found : (ds : List (List ℕ)) → by_build_id ds (id_of a) ≡ map (λ d. joined d (build_id_path id)) ds = λ ds. ap (by_build_id ds) known ∙ ap (λ t. cond t (map (λ d. joined d (build_id_path id)) ds) []) fits in
    ap (λ ps. ps ++ rest) (found (drop i (dirs_of a)))
    ∙ ap (λ ds. map (λ d. joined d (build_id_path id)) ds ++ rest) (dirs-some a i dir here)
    ∙ ap (λ p. p ∷ (map (λ d. joined d (build_id_path id)) (drop (i + 1) (dirs_of a)) ++ rest)) (sym is)
    ∙ ap (λ ps. path ∷ (ps ++ rest)) (sym (found (drop (i + 1) (dirs_of a))))

pub paths_at-no_id : (a : SearchedLink) (i : ℕ) → id_of a ≡ None → paths_at a (BuildId i) ≡ paths_at a (Directory 0)
unfolding paths_at
paths_at-no_id a i none = ap (λ id. by_build_id (drop i (dirs_of a)) id ++ (by_name (dirs_of a) a.linkee.now ++ by_linker (dirs_of a) (linker_of a) a.linkee.now)) none

pub paths_at-short_id : (a : SearchedLink) (i : ℕ) (id : List ℕ) → id_of a ≡ Some id → nat_le 8 (length id) ≡ false → paths_at a (BuildId i) ≡ paths_at a (Directory 0)
unfolding paths_at
paths_at-short_id a i id known short =
    let rest = by_name (dirs_of a) a.linkee.now ++ by_linker (dirs_of a) (linker_of a) a.linkee.now in
    ap (λ o. by_build_id (drop i (dirs_of a)) o ++ rest) known ∙ ap (λ t. cond t (map (λ d. joined d (build_id_path id)) (drop i (dirs_of a))) [] ++ rest) short

by_build_id-nil : (o : Option (List ℕ)) → by_build_id [] o ≡ []
by_build_id-nil None = refl
by_build_id-nil (Some id) = by (nat_le 8 (length id))
  where
    by : (t : Bool) → cond t (map (λ d. joined d (build_id_path id)) []) [] ≡ []
    by true = refl
    by false = refl

pub paths_at-ids_end : (a : SearchedLink) (i : ℕ) → length a.dirs.now ≤ i → paths_at a (BuildId i) ≡ paths_at a (Directory 0)
unfolding paths_at
paths_at-ids_end a i none =
    let rest = by_name (dirs_of a) a.linkee.now ++ by_linker (dirs_of a) (linker_of a) a.linkee.now in
    ap (λ ds. by_build_id ds (id_of a) ++ rest) (dirs-none a i none) ∙ ap (λ ps. ps ++ rest) (by_build_id-nil (id_of a))

below-first : (dirs : List (List ℕ)) (inner linkee : List ℕ) → below dirs inner linkee ≡ below_from dirs inner inner linkee
below-first [] inner linkee = refl
below-first (dir ∷ dirs) inner linkee = refl

pub paths_at-no_linker : (a : SearchedLink) → linker_of a ≡ None → paths_at a Beside ≡ []
unfolding paths_at
paths_at-no_linker a none = ap (λ o. by_linker (dirs_of a) o a.linkee.now) none

pub paths_at-beside : (a : SearchedLink) (linker path : List ℕ) (inner : _) → linker_of a ≡ Some linker → path ≡ with_file_name linker a.linkee.now → string_bytes inner ≡ inner_path path → paths_at a Beside ≡ path ∷ paths_at a (Below 0 inner)
unfolding paths_at
paths_at-beside a linker path inner known is inner-is =
    let linkee = a.linkee.now in
    let mine : inner_path (with_file_name linker linkee) ≡ string_bytes inner = ap inner_path (sym is) ∙ sym inner-is in
    ap (λ o. by_linker (dirs_of a) o linkee) known
    ∙ ap (λ rest. with_file_name linker linkee ∷ rest) (below-first (dirs_of a) (inner_path (with_file_name linker linkee)) linkee)
    ∙ ap (λ p. p ∷ below_from (dirs_of a) (inner_path (with_file_name linker linkee)) (inner_path (with_file_name linker linkee)) linkee) (sym is)
    ∙ ap (λ i. path ∷ below_from (dirs_of a) i (inner_path (with_file_name linker linkee)) linkee) mine
    ∙ ap (λ o. path ∷ below_from (dirs_of a) (string_bytes inner) (inner_of a o) linkee) (sym known)

-- below a directory, after a path
pub paths_at-above : (a : SearchedLink) (i : ℕ) (path above : List ℕ) (kept : _) → parent_of path ≡ Some above → nat_eq (length above) 0 ≡ false → string_bytes kept ≡ above → paths_at a (Below i kept) ≡ after_path a i path
unfolding paths_at
paths_at-above a i path above kept parent some is =
    ap (λ p. below_from (drop i (dirs_of a)) p (inner_of a (linker_of a)) a.linkee.now) is
    ∙ sym (ap (after_above a i) parent ∙ ap (λ t. cond t (below (drop (i + 1) (dirs_of a)) (inner_of a (linker_of a)) a.linkee.now) (below_from (drop i (dirs_of a)) above (inner_of a (linker_of a)) a.linkee.now)) some)

next_dir : (a : SearchedLink) (i : ℕ) (inner : _) → string_bytes inner ≡ inner_of a (linker_of a) → paths_at a (Below (i + 1) inner) ≡ below (drop (i + 1) (dirs_of a)) (inner_of a (linker_of a)) a.linkee.now
unfolding paths_at
next_dir a i inner is = ap (λ p. below_from (drop (i + 1) (dirs_of a)) p (inner_of a (linker_of a)) a.linkee.now) is ∙ sym (below-first (drop (i + 1) (dirs_of a)) (inner_of a (linker_of a)) a.linkee.now)

pub paths_at-no_parent : (a : SearchedLink) (i : ℕ) (path : List ℕ) (inner : _) → parent_of path ≡ None → string_bytes inner ≡ inner_of a (linker_of a) → paths_at a (Below (i + 1) inner) ≡ after_path a i path
paths_at-no_parent a i path inner none is = next_dir a i inner is ∙ sym (ap (after_above a i) none)

pub paths_at-empty_parent : (a : SearchedLink) (i : ℕ) (path above : List ℕ) (inner : _) → parent_of path ≡ Some above → nat_eq (length above) 0 ≡ true → string_bytes inner ≡ inner_of a (linker_of a) → paths_at a (Below (i + 1) inner) ≡ after_path a i path
paths_at-empty_parent a i path above inner parent empty is =
    next_dir a i inner is
    ∙ sym (ap (after_above a i) parent ∙ ap (λ t. cond t (below (drop (i + 1) (dirs_of a)) (inner_of a (linker_of a)) a.linkee.now) (below_from (drop i (dirs_of a)) above (inner_of a (linker_of a)) a.linkee.now)) empty)

-- the first path below a directory, and what comes after it
pub below_from-step : (a : SearchedLink) (i : ℕ) (dir : String Global) (path : List ℕ) → IsDir a i dir
    → below_from (drop i (dirs_of a)) path (inner_of a (linker_of a)) a.linkee.now ≡ joined (joined (string_bytes dir) path) a.linkee.now ∷ after_path a i path
below_from-step a i dir path here =
    let linkee = a.linkee.now in
    let inner = inner_of a (linker_of a) in
    let place : List ℕ → List ℕ = λ p. joined (joined (string_bytes dir) p) linkee in
    let others = below (drop (i + 1) (dirs_of a)) inner linkee in
    ap (λ ds. below_from ds path inner linkee) (dirs-some a i dir here)
    ∙ ap (λ ps. map place ps ++ others) (path_and_above-step path)
    ∙ ap (λ rest. place path ∷ rest) (by (parent_of path))
  where
    by : (o : Option (List ℕ)) → map (λ p. joined (joined (string_bytes dir) p) a.linkee.now) (then_above path_and_above o) ++ below (drop (i + 1) (dirs_of a)) (inner_of a (linker_of a)) a.linkee.now ≡ after_above a i o
    by None = refl
    by (Some above) = pick (nat_eq (length above) 0)
      where
        pick : (t : Bool) → map (λ p. joined (joined (string_bytes dir) p) a.linkee.now) (cond t [] (path_and_above above)) ++ below (drop (i + 1) (dirs_of a)) (inner_of a (linker_of a)) a.linkee.now
            ≡ cond t (below (drop (i + 1) (dirs_of a)) (inner_of a (linker_of a)) a.linkee.now) (below_from (drop i (dirs_of a)) above (inner_of a (linker_of a)) a.linkee.now)
        pick true = refl
        pick false = ap (λ ds. below_from ds above (inner_of a (linker_of a)) a.linkee.now) (sym (dirs-some a i dir here))

pub below_from-none : (a : SearchedLink) (i : ℕ) (path : List ℕ) → length a.dirs.now ≤ i → below_from (drop i (dirs_of a)) path (inner_of a (linker_of a)) a.linkee.now ≡ []
below_from-none a i path none = ap (λ ds. below_from ds path (inner_of a (linker_of a)) a.linkee.now) (dirs-none a i none)

pub paths_at-below : (a : SearchedLink) (i : ℕ) (path : _) → paths_at a (Below i path) ≡ below_from (drop i (dirs_of a)) (string_bytes path) (inner_of a (linker_of a)) a.linkee.now
unfolding paths_at
paths_at-below a i path = refl

-- ---- what is found at a stage of the same paths

finds-same : (a : SearchedLink) (s t : Stage) (found : Option Found) → paths_at a s ≡ paths_at a t → Finds a t found → Finds a s found
finds-same a s t None e finds = e ∙ finds
finds-same a s t (Some found) e finds = e ∙ finds

pub if_ok-finds : {E : Type 0} (a : SearchedLink) (s t : Stage) (result : Result (Option Found) E) → paths_at a s ≡ paths_at a t → IfOk result (Finds a t) → IfOk result (Finds a s)
if_ok-finds a s t (Ok found) e finds = finds-same a s t found e finds
if_ok-finds a s t (Err x) e finds = tt

pub if_ok-finds_at : {E : Type 0} (a : SearchedLink) (s : Stage) (paths : List (List ℕ)) (result : Result (Option Found) E) → paths_at a s ≡ paths → IfOk result (λ found. (t : Stage) → paths_at a t ≡ paths → Finds a t found) → IfOk result (Finds a s)
if_ok-finds_at a s paths (Ok found) e finds = finds s e
if_ok-finds_at a s paths (Err x) e finds = tt

-- The steps that follow a link.
use Rattle.std.proofs.Common.{◌≡◌, Bool, true, false, cond, List, [], ◌∷◌, ◌++◌, Option, Some, None, Result, Ok, String, string_bytes, find, is_some, refl, ap, ◌∙◌, sym, subst, append_assoc}
use Rattle.std.specs.FinMap as map
use Rattle.std.specs.Prelude.{⊤}
use Rattle.std.specs.Str.{bytes_eq}
use Rattle.std.proofs.lemmas.Slice.Eq.{bytes_eq-Decides}
use Rattle.std.proofs.lemmas.List.{append-nil}
use Rattle.blz_error.specs.Texts.{Bytes}
use Rattle.blz_error.specs.declared.kind.ErrorKind.{ErrorKind}
use Rattle.blz_links.specs.Candidates.{candidates}
use Rattle.blz_links.specs.Contents.{Contents}
use Rattle.blz_links.specs.Searches.{Search, Steps, left_of}
use Rattle.blz_links.specs.FilesAnswers.{CanonicalTells, ExistsTells, IsPathIfThere}
use Rattle.blz_bundle.specs.FileAnswers.{Answers, Finds, told}
use Rattle.blz_bundle.specs.Following.{followed, read_at}
use Rattle.blz_bundle.specs.OpenFiles.{FileAt}
use Rattle.blz_bundle.specs.Opened.{Opened, Found, Refused, ◌>>=◌}
use Rattle.blz_bundle.proofs.Findings.{found_is, found_not_refused}

-- the path by which a file is known
pub known_there : {Z : Type 0} (contents : Option Contents) (path : Bytes) (known : String Z) → CanonicalTells contents path (Ok (Some known)) → Finds contents (λ a. Found (a.known_as path)) (Found (string_bytes known))
known_there None path known tells = (let a : Answers = record { known_as = λ path. string_bytes known; is_there = λ path. false; held = λ path. None } in a, refl)
known_there {Z = Z} (Some c) path known tells = ap Found (sym (by_held (map.get c path) tells))
  where
    by_held : (held : Option Bytes) → IsPathIfThere {Z = Z} held path (Some known) → string_bytes known ≡ path
    by_held None is = absurd cc
    by_held (Some image) is = is

pub canonical_gives : {Z : Type 0} (contents : Option Contents) (path : Bytes) (o known : Option (String Z)) → o ≡ known → CanonicalTells contents path (Ok o) → CanonicalTells contents path (Ok known)
canonical_gives {Z = Z} contents path o known is tells = let P : Option (String Z) → Type 0 = λ o. CanonicalTells contents path (Ok o) in subst P is tells

-- its own path
pub known_itself : (contents : Option Contents) (path known : Bytes) → known ≡ path → Finds contents (λ a. Found (a.known_as path)) (Found known)
known_itself None path known is = (let a : Answers = record { known_as = λ path. path; is_there = λ path. false; held = λ path. None } in a, ap Found (sym is))
known_itself (Some c) path known is = ap Found (sym is)

abbrev pub some_found : Opened FileAt → Opened (Option FileAt)
some_found r = r >>= λ file. Found (Some file)

-- by what was answered, one after the other
by_answers : (a : Answers) (dirs : List Bytes) (from : FileAt) (target : Bytes) (build_id : Option Bytes) (linker path : Bytes) (r : Opened FileAt) → a.known_as from.path ≡ linker → find a.is_there (candidates dirs (Some linker) target build_id) ≡ Some path → read_at a path ≡ r
    → followed a dirs from target build_id ≡ some_found r
unfolding followed
by_answers a dirs from target build_id linker path r known there read = rw (known, there, read) refl

-- the first candidate that is there is read
pub follows : (contents : Option Contents) (dirs : List Bytes) (from : FileAt) (target : Bytes) (build_id : Option Bytes) (linker path : Bytes) (r : Opened FileAt)
    → Finds contents (λ a. Found (a.known_as from.path)) (Found linker) → Finds contents (λ a. Found (find a.is_there (candidates dirs (Some linker) target build_id))) (Found (Some path)) → Finds contents (λ a. read_at a path) r
    → Finds contents (λ a. followed a dirs from target build_id) (some_found r)
follows None dirs from target build_id linker path r known there read =
    let a : Answers = record { known_as = known.0.known_as; is_there = there.0.is_there; held = read.0.held } in
    (a, by_answers a dirs from target build_id linker path r (found_is known.1) (found_is there.1) read.1)
follows (Some c) dirs from target build_id linker path r known there read = by_answers (told c) dirs from target build_id linker path r (found_is known) (found_is there) read

by_none : (a : Answers) (dirs : List Bytes) (from : FileAt) (target : Bytes) (build_id : Option Bytes) (linker : Bytes) → a.known_as from.path ≡ linker → find a.is_there (candidates dirs (Some linker) target build_id) ≡ None
    → followed a dirs from target build_id ≡ Found None
unfolding followed
by_none a dirs from target build_id linker known there = rw (known, there) refl

-- no candidate is there
pub follows_none : (contents : Option Contents) (dirs : List Bytes) (from : FileAt) (target : Bytes) (build_id : Option Bytes) (linker : Bytes)
    → Finds contents (λ a. Found (a.known_as from.path)) (Found linker) → Finds contents (λ a. Found (find a.is_there (candidates dirs (Some linker) target build_id))) (Found None)
    → Finds contents (λ a. followed a dirs from target build_id) (Found None)
follows_none None dirs from target build_id linker known there =
    let a : Answers = record { known_as = known.0.known_as; is_there = there.0.is_there; held = λ path. None } in
    (a, by_none a dirs from target build_id linker (found_is known.1) (found_is there.1))
follows_none (Some c) dirs from target build_id linker known there = by_none (told c) dirs from target build_id linker (found_is known) (found_is there)

-- ---- the first candidate that is there

abbrev there_in : Contents → Bytes → Bool
there_in c path = is_some (map.get c path)

-- none of some candidates is there, where that is told
abbrev NoneThere : Option Contents → List Bytes → Type 0
NoneThere None paths = ⊤
NoneThere (Some c) paths = find (there_in c) paths ≡ None

-- The candidates that were asked for are not there; some are left.
pub record Passed (contents : Option Contents) (paths left : List Bytes) : Type 0 where
  pub front : List Bytes
  pub parts : paths ≡ front ++ left
  pub absent : NoneThere contents front

none_yet : (contents : Option Contents) → NoneThere contents []
none_yet None = tt
none_yet (Some c) = refl

pub passed_same : (contents : Option Contents) (paths left : List Bytes) → left ≡ paths → Passed contents paths left
passed_same contents paths left same = record { front = []; parts = sym same; absent = none_yet contents }

find_behind : (p : Bytes → Bool) (front rest : List Bytes) → find p front ≡ None → find p (front ++ rest) ≡ find p rest
find_behind p [] rest none = refl
find_behind p (x ∷ front) rest none = step (p x) none (find_behind p front rest)
  where
    step : (b : Bool) → cond b (Some x) (find p front) ≡ None → (find p front ≡ None → find p (front ++ rest) ≡ find p rest) → cond b (Some x) (find p (front ++ rest)) ≡ find p rest
    step true none later = absurd cc
    step false none later = later none

find_false : (paths : List Bytes) → find (λ path. false) paths ≡ None
find_false [] = refl
find_false (x ∷ paths) = find_false paths

-- the path itself, wherever it stands
find_itself : (path : Bytes) (front rest : List Bytes) → find (λ other. bytes_eq other path) (front ++ path ∷ rest) ≡ Some path
find_itself path [] rest = step (bytes_eq path path) refl
  where
    step : (b : Bool) → bytes_eq path path ≡ b → cond b (Some path) (find (λ other. bytes_eq other path) rest) ≡ Some path
    step true is = refl
    step false is = absurd (not_itself is)
      where
        not_itself : bytes_eq path path ≡ false → ⊥
        not_itself is = let yes : bytes_eq path path ≡ true = (bytes_eq-Decides path path).1 refl in cc
find_itself path (x ∷ front) rest = step (bytes_eq x path) refl (find_itself path front rest)
  where
    step : (b : Bool) → bytes_eq x path ≡ b → find (λ other. bytes_eq other path) (front ++ path ∷ rest) ≡ Some path → cond b (Some x) (find (λ other. bytes_eq other path) (front ++ path ∷ rest)) ≡ Some path
    step true is later = ap Some ((bytes_eq-Decides x path).0 is)
    step false is later = later

-- what `exists` answers is found
pub exists_finds : (contents : Option Contents) (path : Bytes) (there : Bool) → ExistsTells contents path (Ok there) → Finds contents (λ a. Found (a.is_there path)) (Found there)
exists_finds None path there tells = (let a : Answers = record { known_as = λ path. path; is_there = λ path. there; held = λ path. None } in a, refl)
exists_finds (Some c) path there tells = ap Found (sym tells)

-- the same, over the contents as they were
pub found_there : (old new : Option Contents) (asked path : Bytes) (there known : Bool) → new ≡ old → asked ≡ path → there ≡ known → Finds new (λ a. Found (a.is_there asked)) (Found there) → Finds old (λ a. Found (a.is_there path)) (Found known)
found_there old new asked path there known same at is found = rw (← same, ← at, ← is) found

-- one more is not there
absent_more : (contents : Option Contents) (front : List Bytes) (path : Bytes) → NoneThere contents front → Finds contents (λ a. Found (a.is_there path)) (Found false) → NoneThere contents (front ++ path ∷ [])
absent_more None front path none tells = tt
absent_more (Some c) front path none tells = find_behind (there_in c) front (path ∷ []) none ∙ ap (λ b. cond b (Some path) None) (found_is tells)

pub passed_more : (contents : Option Contents) (paths left rest : List Bytes) (path : Bytes) → left ≡ path ∷ rest → Passed contents paths left → Finds contents (λ a. Found (a.is_there path)) (Found false) → Passed contents paths rest
passed_more contents paths left rest path is passed tells =
    record { front = passed.front ++ path ∷ []; parts = passed.parts ∙ ap (λ l. passed.front ++ l) is ∙ sym (append_assoc passed.front (path ∷ []) rest); absent = absent_more contents passed.front path passed.absent tells }

first_told : (c : Contents) (paths front rest : List Bytes) (path : Bytes) → paths ≡ front ++ path ∷ rest → find (there_in c) front ≡ None → there_in c path ≡ true → find (there_in c) paths ≡ Some path
first_told c paths front rest path parts none there = ap (find (there_in c)) parts ∙ find_behind (there_in c) front (path ∷ rest) none ∙ ap (λ b. cond b (Some path) (find (there_in c) rest)) there

-- the next one is there
pub first_found : (contents : Option Contents) (paths left rest : List Bytes) (path : Bytes) → left ≡ path ∷ rest → Passed contents paths left → Finds contents (λ a. Found (a.is_there path)) (Found true) → Finds contents (λ a. Found (find a.is_there paths)) (Found (Some path))
first_found None paths left rest path is passed tells = (
  let a : Answers = record { known_as = λ path. path; is_there = λ other. bytes_eq other path; held = λ path. None } in a,
  ap Found (ap (find (λ other. bytes_eq other path)) (passed.parts ∙ ap (λ l. passed.front ++ l) is) ∙ find_itself path passed.front rest),
)
first_found (Some c) paths left rest path is passed tells = ap Found (first_told c paths passed.front rest path (passed.parts ∙ ap (λ l. passed.front ++ l) is) passed.absent (found_is tells))

-- none is left
pub first_none : (contents : Option Contents) (paths left : List Bytes) → left ≡ [] → Passed contents paths left → Finds contents (λ a. Found (find a.is_there paths)) (Found None)
first_none None paths left is passed = (let a : Answers = record { known_as = λ path. path; is_there = λ path. false; held = λ path. None } in a, ap Found (find_false paths))
first_none (Some c) paths left is passed =
    let whole : paths ≡ passed.front = passed.parts ∙ ap (λ l. passed.front ++ l) is ∙ append-nil passed.front in
    ap Found (ap (find (there_in c)) whole ∙ passed.absent)

-- the candidate that a search gives is the first that was left
pub next_path : {Z E : Type 0} (old new : Search) (candidate : Result (String Z) E) (path : String Z) → candidate ≡ Ok path → Steps old (Some candidate) new → left_of old ≡ string_bytes path ∷ left_of new
next_path {Z = Z} {E = E} old new candidate path is steps = let P : Result (String Z) E → Type 0 = λ candidate. Steps old (Some candidate) new in (subst P is steps).1

-- ---- over files that stay

-- of the same path
pub knows : (contents : Option Contents) (asked path : Bytes) (r : Opened Bytes) → asked ≡ path → Finds contents (λ a. Found (a.known_as asked)) r → Finds contents (λ a. Found (a.known_as path)) r
knows contents asked path r same is = subst (λ (path : Bytes). Finds contents (λ a. Found (a.known_as path)) r) same is

-- the search of a step, over the paths that are candidates
pub searches : (contents : Option Contents) (left paths : List Bytes) (r : Opened (Option Bytes)) → left ≡ paths → Finds contents (λ a. Found (find a.is_there left)) r → Finds contents (λ a. Found (find a.is_there paths)) r
searches contents left paths r same is = subst (λ (paths : List Bytes). Finds contents (λ a. Found (find a.is_there paths)) r) same is

-- what is found always is not refused
pub never_refused : {A : Type 0} (contents : Option Contents) (f : Answers → A) (k : ErrorKind) (v : Option (Bytes × Bytes)) → Finds contents (λ a. Found (f a)) (Refused k v) → ⊥
never_refused None f k v is = found_not_refused is.1
never_refused (Some c) f k v is = found_not_refused is

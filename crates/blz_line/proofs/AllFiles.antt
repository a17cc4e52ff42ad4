-- The files of a list of entries.
use Rattle.std.proofs.Common.{◌≡◌, ℕ, zero, suc, ◌+◌, ◌<◌, ◌≤◌, List, [], ◌∷◌, ◌++◌, length, replicate, get_or, drop, Option, Some, None, refl, sym, ap, ◌∙◌, append_assoc}
use Rattle.std.proofs.lemmas.List.{append-nil, at_drop_more, at_drop_all}
use Rattle.blz_error.specs.declared.kind.ErrorKind.{ErrorKind}
use Rattle.blz_error.specs.declared.kind.ErrorKind.TheVariants.{InvalidDwarf}
use Rattle.blz_model.specs.Part.{Good, Fails, or_mark}
use Rattle.blz_model.specs.Reads.{◌>>=◌}
use Rattle.blz_line.specs.declared.paths.FileEntry.{FileEntry}
use Rattle.blz_line.specs.declared.files.FilePlaces.{FilePlaces}
use Rattle.blz_line.specs.FileNames.{Naming, file_of, all_files}
use Rattle.blz_line.proofs.ProgramSteps.{stopped}

pub all_nil : (n : Naming) → all_files n [] ≡ Some []
unfolding all_files
all_nil n = refl

pub all_equal : (n : Naming) (k : ℕ) (e : FileEntry) (f : FilePlaces) → file_of n e ≡ Some f → all_files n (replicate k e) ≡ Some (replicate k f)
unfolding all_files
all_equal n zero e f h = refl
all_equal n (suc k) e f h = rw (h, all_equal n k e f h) refl

pub none_equal : (n : Naming) (m k : ℕ) (e : FileEntry) → m ≡ suc k → file_of n e ≡ None → all_files n (replicate m e) ≡ None
unfolding all_files
none_equal n m k e em h = rw (em, h) refl

-- files in front of those of the entries that are left
abbrev pub with_files : List FilePlaces → Option (List FilePlaces) → Option (List FilePlaces)
with_files front read = read >>= λ files. Some (front ++ files)

grouped : (f : FilePlaces) (front : List FilePlaces) (read : Option (List FilePlaces)) → (with_files front read >>= λ files. Some (f ∷ files)) ≡ with_files (f ∷ front) read
grouped f front None = refl
grouped f front (Some files) = refl

with_nothing : (read : Option (List FilePlaces)) → with_files [] read ≡ read
with_nothing None = refl
with_nothing (Some files) = refl

each_behind : (ys : Option (List FilePlaces)) (f : FilePlaces) (o : Option (List FilePlaces)) → ((o >>= λ front. with_files front ys) >>= λ files. Some (f ∷ files)) ≡ ((o >>= λ files. Some (f ∷ files)) >>= λ front. with_files front ys)
each_behind ys f None = refl
each_behind ys f (Some front) = grouped f front ys

one_behind : (both xs ys : Option (List FilePlaces)) (o : Option FilePlaces) → both ≡ (xs >>= λ front. with_files front ys) → (o >>= λ file. both >>= λ files. Some (file ∷ files)) ≡ ((o >>= λ file. xs >>= λ files. Some (file ∷ files)) >>= λ front. with_files front ys)
one_behind both xs ys None h = refl
one_behind both xs ys (Some f) h = ap (λ (o : Option (List FilePlaces)). o >>= λ files. Some (f ∷ files)) h ∙ each_behind ys f xs

all_behind : (n : Naming) (xs ys : List FileEntry) → all_files n (xs ++ ys) ≡ (all_files n xs >>= λ front. with_files front (all_files n ys))
unfolding all_files
all_behind n [] ys = sym (with_nothing (all_files n ys))
all_behind n (x ∷ xs) ys = one_behind (all_files n (xs ++ ys)) (all_files n xs) (all_files n ys) (file_of n x) (all_behind n xs ys)

some_of : {A : Type 0} (o : Option A) (x : A) → or_mark o InvalidDwarf ≡ Good x → o ≡ Some x
some_of None x h = absurd cc
some_of (Some y) x h = cc

-- ---- a loop over the entries behind

pub files_start : (n : Naming) (equal listed entries : List FileEntry) (front : List FilePlaces) → entries ≡ equal ++ listed → or_mark (all_files n equal) InvalidDwarf ≡ Good front → with_files front (all_files n listed) ≡ all_files n entries
files_start n equal listed entries front e h =
    let k = some_of (all_files n equal) front h in
    sym (ap (all_files n) e ∙ all_behind n equal listed ∙ rw k refl)

pub files_fail : (n : Naming) (equal listed entries : List FileEntry) (k : ErrorKind) → entries ≡ equal ++ listed → Fails k (or_mark (all_files n equal) InvalidDwarf) → Fails k (or_mark (all_files n entries) InvalidDwarf)
files_fail n equal listed entries k e h = rw (e, all_behind n equal listed) (stopped (all_files n equal) k h (λ front. with_files front (all_files n listed)))

regroup : (front : List FilePlaces) (f : FilePlaces) (read : Option (List FilePlaces)) → with_files front (read >>= λ files. Some (f ∷ files)) ≡ with_files (front ++ f ∷ []) read
regroup front f None = refl
regroup front f (Some files) = ap Some (sym (append_assoc front (f ∷ []) files))

pub files_more : (n : Naming) (listed : List FileEntry) (i : ℕ) (d : FileEntry) (front : List FilePlaces) (f : FilePlaces) → i < length listed → file_of n (get_or listed i d) ≡ Some f → with_files front (all_files n (drop i listed)) ≡ with_files (front ++ f ∷ []) (all_files n (drop (i + 1) listed))
unfolding all_files
files_more n listed i d front f lt h =
    let one : all_files n (drop i listed) ≡ (all_files n (drop (i + 1) listed) >>= λ files. Some (f ∷ files)) = at_drop_more (all_files n) listed i d lt ∙ rw h refl in
    ap (with_files front) one ∙ regroup front f (all_files n (drop (i + 1) listed))

pub files_none : (n : Naming) (listed : List FileEntry) (i : ℕ) (d : FileEntry) (front : List FilePlaces) → i < length listed → file_of n (get_or listed i d) ≡ None → with_files front (all_files n (drop i listed)) ≡ None
unfolding all_files
files_none n listed i d front lt h =
    let one : all_files n (drop i listed) ≡ None = at_drop_more (all_files n) listed i d lt ∙ rw h refl in
    ap (with_files front) one

pub files_end : (n : Naming) (listed : List FileEntry) (i : ℕ) (front : List FilePlaces) → length listed ≤ i → with_files front (all_files n (drop i listed)) ≡ Some front
unfolding all_files
files_end n listed i front le = ap (with_files front) (at_drop_all (all_files n) listed i le) ∙ ap Some (append-nil front)

-- Rows that are gathered part by part.
use Rattle.std.proofs.Common.{◌≡◌, List, [], ◌++◌, map, refl, sym, ap, ◌∙◌, append_assoc}
use Rattle.std.specs.Prelude.{ℕ, filter}
use Rattle.std.proofs.lemmas.List.{append-nil, map-append}
use Rattle.std.proofs.lemmas.List.Elements.{filter-append}
use Rattle.blz_error.specs.declared.kind.ErrorKind.{ErrorKind}
use Rattle.blz_model.specs.Part.{Part, Good, Broken, ◌>>=◌, Fails}
use Rattle.blz_rows.specs.Asking.{behind, found_in, found_of, is_asked}
use Rattle.blz_rows.specs.Entries.{Entry, both}
use Rattle.blz_rows.specs.declared.asked.AskedLines.{AskedLines}
use Rattle.blz_rows.specs.declared.found.FoundRow.{FoundRow}

found_in-append : (file : List ℕ) (lines : AskedLines) (xs ys : List Entry) → found_in file lines (xs ++ ys) ≡ found_in file lines xs ++ found_in file lines ys
found_in-append file lines xs ys =
    ap (map found_of) (filter-append (is_asked file lines) xs ys) ∙ map-append found_of (filter (is_asked file lines) xs) (filter (is_asked file lines) ys)

behind-both : (found : List FoundRow) (file : List ℕ) (lines : AskedLines) (p q : Part (List Entry))
    → behind found file lines (both p q) ≡ (behind found file lines p >>= λ new. behind new file lines q)
behind-both found file lines (Broken k) q = refl
behind-both found file lines (Good xs) (Broken k) = refl
behind-both found file lines (Good xs) (Good ys) =
    ap (λ (l : List FoundRow). Good l) (ap (λ (l : List FoundRow). found ++ l) (found_in-append file lines xs ys) ∙ sym (append_assoc found (found_in file lines xs) (found_in file lines ys)))

-- the first part was gathered, so the second is left
pub goes_on : (found new : List FoundRow) (file : List ℕ) (lines : AskedLines) (p q rest : Part (List Entry)) (whole : Part (List FoundRow))
    → rest ≡ both p q → behind found file lines p ≡ Good new → behind found file lines rest ≡ whole → behind new file lines q ≡ whole
goes_on found new file lines p q rest whole parts first so_far =
    sym (ap (λ (part : Part (List FoundRow)). part >>= λ new. behind new file lines q) first)
    ∙ sym (behind-both found file lines p q) ∙ sym (ap (behind found file lines) parts) ∙ so_far

-- the first part is a mark, so the whole is
pub breaks : (k : ErrorKind) (found : List FoundRow) (file : List ℕ) (lines : AskedLines) (p q rest : Part (List Entry)) (whole : Part (List FoundRow))
    → rest ≡ both p q → Fails k (behind found file lines p) → behind found file lines rest ≡ whole → Fails k whole
breaks k found file lines p q rest whole parts fails so_far memory =
    sym so_far ∙ ap (behind found file lines) parts ∙ behind-both found file lines p q
    ∙ ap (λ (part : Part (List FoundRow)). part >>= λ new. behind new file lines q) (fails memory)

pub behind-none : (found : List FoundRow) (file : List ℕ) (lines : AskedLines) → behind found file lines (Good []) ≡ Good found
behind-none found file lines = ap (λ (l : List FoundRow). Good l) (append-nil found)

-- nothing is left
pub ended : (found : List FoundRow) (file : List ℕ) (lines : AskedLines) (rest : Part (List Entry)) (whole : Part (List FoundRow))
    → rest ≡ Good [] → behind found file lines rest ≡ whole → whole ≡ Good found
ended found file lines rest whole none so_far = sym so_far ∙ ap (behind found file lines) none ∙ behind-none found file lines

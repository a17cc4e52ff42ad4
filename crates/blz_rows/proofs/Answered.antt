-- The answers, from the rows that were found.
use Rattle.std.proofs.Common.{◌≡◌, ℕ, List, [], ◌∷◌, map, Option, Some, refl, sym, ap, ◌∙◌}
use Rattle.std.specs.Prelude.{filter}
use Rattle.blz_error.specs.declared.kind.ErrorKind.{ErrorKind}
use Rattle.blz_model.specs.Part.{Part, Good, Broken, ◌>>=◌, Fails}
use Rattle.blz_resolver.specs.Images.{ImageSet}
use Rattle.blz_rows.specs.Asking.{behind, found_for, found_of, is_asked, least_line, place_in}
use Rattle.blz_rows.specs.Entries.{Entry, entries_of}
use Rattle.blz_rows.specs.LineAnswers.{place_of, places_at, places_of, least, lesser, next_in, next_of}
use Rattle.blz_rows.specs.declared.asked.AskedLines.TheVariants.{At, From}
use Rattle.blz_rows.specs.declared.found.FoundRow.{FoundRow}
use Rattle.blz_rows.specs.declared.places.Place.{Place}

map-found : (entries : List Entry) → map place_in (map found_of entries) ≡ map place_of entries
map-found [] = refl
map-found (entry ∷ rest) = ap (λ (l : List Place). place_of entry ∷ l) (map-found rest)

least-found : (entries : List Entry) → least_line (map found_of entries) ≡ least entries
least-found [] = refl
least-found (entry ∷ rest) = ap (λ (o : Option ℕ). Some (lesser entry.line o)) (least-found rest)

places_part : (p : Part (List Entry)) (file : List ℕ) (line : ℕ)
    → (behind [] file (At line) p >>= λ found. Good (map place_in found)) ≡ (p >>= λ entries. Good (places_at file line entries))
places_part (Good entries) file line = ap (λ (l : List Place). Good l) (map-found (filter (is_asked file (At line)) entries))
places_part (Broken k) file line = refl

next_part : (p : Part (List Entry)) (file : List ℕ) (line : ℕ)
    → (behind [] file (From line) p >>= λ found. Good (least_line found)) ≡ (p >>= λ entries. Good (next_in file line entries))
next_part (Good entries) file line = ap (λ (o : Option ℕ). Good o) (least-found (filter (is_asked file (From line)) entries))
next_part (Broken k) file line = refl

places_is : (images : ImageSet) (file : List ℕ) (line : ℕ) → (found_for images file (At line) >>= λ found. Good (map place_in found)) ≡ places_of images file line
unfolding found_for places_of
places_is images file line = places_part (entries_of images) file line

next_is : (images : ImageSet) (file : List ℕ) (line : ℕ) → (found_for images file (From line) >>= λ found. Good (least_line found)) ≡ next_of images file line
unfolding found_for next_of
next_is images file line = next_part (entries_of images) file line

pub places_found : (images : ImageSet) (file : List ℕ) (line : ℕ) (found : List FoundRow) → found_for images file (At line) ≡ Good found → places_of images file line ≡ Good (map place_in found)
places_found images file line found e = sym (places_is images file line) ∙ ap (λ (p : Part (List FoundRow)). p >>= λ found. Good (map place_in found)) e

pub places_broken : (k : ErrorKind) (images : ImageSet) (file : List ℕ) (line : ℕ) → Fails k (found_for images file (At line)) → Fails k (places_of images file line)
places_broken k images file line fails memory = sym (places_is images file line) ∙ ap (λ (p : Part (List FoundRow)). p >>= λ found. Good (map place_in found)) (fails memory)

pub next_found : (images : ImageSet) (file : List ℕ) (line : ℕ) (found : List FoundRow) → found_for images file (From line) ≡ Good found → next_of images file line ≡ Good (least_line found)
next_found images file line found e = sym (next_is images file line) ∙ ap (λ (p : Part (List FoundRow)). p >>= λ found. Good (least_line found)) e

pub next_broken : (k : ErrorKind) (images : ImageSet) (file : List ℕ) (line : ℕ) → Fails k (found_for images file (From line)) → Fails k (next_of images file line)
next_broken k images file line fails memory = sym (next_is images file line) ∙ ap (λ (p : Part (List FoundRow)). p >>= λ found. Good (least_line found)) (fails memory)

-- The places that are listed, and their numbers.
use Rattle.std.proofs.Common.{◌≡◌, List, [], ◌∷◌, length, map, refl, sym, ap, subst, ◌∙◌, sum_by}
use Rattle.std.specs.Prelude.{filter}
use Rattle.std.specs.List.{IsDistinct}
use Rattle.std.proofs.lemmas.List.{length-map}
use Rattle.blz_rows.specs.Entries.{Entry}
use Rattle.blz_listings.specs.SourcePlaces.{SourcePlace, has_line, is_same, place_counts, place_of, places_listed, places_of}
use Rattle.blz_listings.specs.Tallies.{Tally, distinct, tally_of}
use Rattle.blz_listings.proofs.ShownTexts.{is_same_equiv}
use Rattle.blz_listings.proofs.Tallying.{distinct_apart, tallies_total}

items_of : (items seen : List SourcePlace) → map (λ (t : Tally SourcePlace). t.item) (map (tally_of is_same items) seen) ≡ seen
items_of items [] = refl
items_of items (s ∷ seen) = ap (λ (l : List SourcePlace). s ∷ l) (items_of items seen)

pub listed_once : (entries : List Entry) → IsDistinct is_same (places_listed entries)
listed_once entries =
    let P : List SourcePlace → Type 0 = λ l. IsDistinct is_same l in
    subst P (sym (items_of (places_of entries) (distinct is_same (places_of entries)))) (distinct_apart is_same is_same_equiv (places_of entries))

pub counts_sum : (entries : List Entry) → sum_by (λ (t : Tally SourcePlace). t.count) (place_counts entries) ≡ length (filter has_line entries)
counts_sum entries = tallies_total is_same is_same_equiv (places_of entries) ∙ length-map (filter has_line entries) place_of

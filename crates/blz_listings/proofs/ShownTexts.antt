-- What is shown of all entries is the text for them.
use Rattle.std.proofs.Common.{◌≡◌, Bool, true, false, cond, List, [], ◌∷◌, ◌++◌, map, refl, sym, ap, ◌∙◌, fold, append_assoc}
use Rattle.std.specs.Prelude.{◌==◌, not, filter}
use Rattle.std.specs.Cmp.{IsEquivalence, and_equiv, on_equiv, nat_eq_equiv}
use Rattle.std.specs.Cmp.Lexicographic.{on_texts_equal}
use Rattle.std.proofs.lemmas.List.{append-nil}
use Rattle.blz_error.specs.Texts.{Bytes}
use Rattle.blz_rows.specs.Entries.{Entry}
use Rattle.blz_listings.specs.Tallies.{Tally, tallied}
use Rattle.blz_listings.specs.SourcePlaces.{SourcePlace, counts_text, entries_text, entry_text, has_line, is_same, place_of, places_of}
use Rattle.blz_listings.specs.LineTexts.{shown_text}
use Rattle.blz_listings.specs.Shown.{counted_with, nothing, shown_with, text_in}
use Rattle.blz_listings.specs.declared.wanted.Wanted.{Wanted}
use Rattle.blz_listings.specs.declared.wanted.Wanted.TheVariants.{Places, Entries}
use Rattle.blz_listings.proofs.Tallying.{tallied_all}

pub is_same_equiv : IsEquivalence is_same
is_same_equiv = and_equiv (on_texts_equal (λ (p : SourcePlace). p.path)) (on_equiv (λ (p : SourcePlace). p.line) nat_eq_equiv)

counted_from : (counts : List (Tally SourcePlace)) (entries : List Entry) → fold counted_with counts entries ≡ fold (tallied is_same) counts (places_of entries)
counted_from counts [] = refl
counted_from counts (entry ∷ entries) = by (entry.line == 0) (counted_from counts entries) (counted_from (tallied is_same counts (place_of entry)) entries)
  where
    by : (b : Bool) → fold counted_with counts entries ≡ fold (tallied is_same) counts (places_of entries)
        → fold counted_with (tallied is_same counts (place_of entry)) entries ≡ fold (tallied is_same) (tallied is_same counts (place_of entry)) (places_of entries)
        → fold counted_with (cond b counts (tallied is_same counts (place_of entry))) entries
        ≡ fold (tallied is_same) counts (map place_of (cond (not b) (entry ∷ filter has_line entries) (filter has_line entries)))
    by true h g = h
    by false h g = g

counts_shown : (counts : List (Tally SourcePlace)) (entries : List Entry)
    → text_in (fold shown_with (record { wanted = Places; text = []; counts = counts }) entries) ≡ counts_text (fold counted_with counts entries)
counts_shown counts [] = refl
counts_shown counts (entry ∷ entries) = counts_shown (counted_with counts entry) entries

text_shown : (text : Bytes) (entries : List Entry) → text_in (fold shown_with (record { wanted = Entries; text = text; counts = [] }) entries) ≡ text ++ entries_text entries
text_shown text [] = sym (append-nil text)
text_shown text (entry ∷ entries) = text_shown (text ++ entry_text entry) entries ∙ append_assoc text (entry_text entry) (entries_text entries)

pub text_is : (wanted : Wanted) (entries : List Entry) → text_in (fold shown_with (nothing wanted) entries) ≡ shown_text wanted entries
text_is Places entries = counts_shown [] entries ∙ ap counts_text (counted_from [] entries ∙ tallied_all is_same is_same_equiv (places_of entries))
text_is Entries entries = text_shown [] entries

-- The text of places, one after the other.
use Rattle.std.proofs.Common.{◌≡◌, ℕ, ◌+◌, ◌<◌, List, ◌++◌, length, drop, get_or, sym, ap, ◌∙◌, append_assoc}
use Rattle.std.proofs.lemmas.List.{at_drop_more}
use Rattle.blz_error.specs.Texts.{Bytes}
use Rattle.blz_program.specs.PrintedText.{hex_digits, line_feed}
use Rattle.blz_rows.specs.PrintedRows.{places_text}
use Rattle.blz_rows.specs.declared.places.Place.{Place}

joined_up : (out digits end rest : Bytes) → ((out ++ digits) ++ end) ++ rest ≡ out ++ ((digits ++ end) ++ rest)
joined_up out digits end rest = simp append_assoc

pub text_step : (out more whole : Bytes) (places : List Place) (i : ℕ) (d : Place) → i < length places
    → more ≡ out ++ hex_digits (get_or places i d).address → whole ≡ more ++ line_feed
    → whole ++ places_text (drop (i + 1) places) ≡ out ++ places_text (drop i places)
text_step out more whole places i d lt digits end =
    let rest = places_text (drop (i + 1) places) in
    ap (λ (l : Bytes). l ++ rest) (end ∙ ap (λ (l : Bytes). l ++ line_feed) digits)
    ∙ joined_up out (hex_digits (get_or places i d).address) line_feed rest
    ∙ ap (λ (l : Bytes). out ++ l) (sym (at_drop_more places_text places i d lt))

-- A table of places after one insertion, and its text.
use Rattle.std.proofs.Common.{◌≡◌, ℕ, ◌+◌, zero, suc, Bool, true, false, cond, List, [], ◌∷◌, ◌++◌, map, drop, slice_get, Some, refl, ap, ◌∙◌, arith}
use Rattle.std.specs.Map.{lookup}
use Rattle.std.specs.Option.{unwrap_or}
use Rattle.indexmap.specs.IndexMap.{insert_entry}
use Rattle.blz_listings.specs.ListingViews.{key_view, tally_view}
use Rattle.blz_listings.specs.SourcePlaces.{SourcePlace, count_text_if, counts_text, is_same}
use Rattle.blz_listings.specs.Tallies.{Tally, tallied}
use Rattle.blz_listings.specs.declared.place_table.PlaceKey.{PlaceKey}

abbrev pub is_same_key : PlaceKey → PlaceKey → Bool
is_same_key a b = is_same (key_view a) (key_view b)

abbrev held : List (PlaceKey × ℕ) → PlaceKey → ℕ
held es key = unwrap_or (lookup (is_same_key key) es) 0

tallied_in : (es : List (PlaceKey × ℕ)) (key : PlaceKey) → map tally_view (insert_entry is_same_key es key (held es key + 1)) ≡ tallied is_same (map tally_view es) (key_view key)
tallied_in [] key = refl
tallied_in (e ∷ es) key = by (is_same_key key e.0) (tallied_in es key)
  where
    by : (b : Bool) → map tally_view (insert_entry is_same_key es key (held es key + 1)) ≡ tallied is_same (map tally_view es) (key_view key)
        → map tally_view (cond b ((e.0, unwrap_or (cond b (Some e.1) (lookup (is_same_key key) es)) 0 + 1) ∷ es) (e ∷ insert_entry is_same_key es key (unwrap_or (cond b (Some e.1) (lookup (is_same_key key) es)) 0 + 1)))
        ≡ cond b (record { item = key_view e.0; count = e.1 + 1 } ∷ map tally_view es) (tally_view e ∷ tallied is_same (map tally_view es) (key_view key))
    by true h = refl
    by false h = ap (λ z. tally_view e ∷ z) h

pub table_tallies : (es new : List (PlaceKey × ℕ)) (key : PlaceKey) (counts : List (Tally SourcePlace)) (before : ℕ) → map tally_view es ≡ counts → before ≡ held es key
    → new ≡ insert_entry is_same_key es key (before + 1) → map tally_view new ≡ tallied is_same counts (key_view key)
table_tallies es new key counts before are is added =
    ap (map tally_view) added ∙ ap (λ n. map tally_view (insert_entry is_same_key es key (n + 1))) is ∙ tallied_in es key ∙ ap (λ z. tallied is_same z (key_view key)) are

-- ---- the text from an index on

none_left : (i : ℕ) → drop {A = Tally SourcePlace} i [] ≡ []
none_left zero = refl
none_left (suc i) = refl

pub counts_text-drop : (ts : List (Tally SourcePlace)) (i : ℕ) → counts_text (drop i ts) ≡ count_text_if (slice_get ts i) ++ counts_text (drop (i + 1) ts)
counts_text-drop [] i = rw (none_left i, none_left (i + 1)) refl
counts_text-drop (t ∷ ts) zero = refl
counts_text-drop (t ∷ ts) (suc i) = let next : suc i + 1 ≡ suc (i + 1) = omega arith in rw next (counts_text-drop ts i)

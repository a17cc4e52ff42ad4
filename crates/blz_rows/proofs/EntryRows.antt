-- Each entry of a book is that of a row.
use Rattle.std.proofs.Common.{◌≡◌, ◌⊎◌, ℕ, zero, suc, ◌+◌, List, [], ◌∷◌, ◌++◌, Option, Some, None, refl, sym, subst, inl, inr}
use Rattle.std.specs.List.{slice_get}
use Rattle.blz_model.specs.Part.{Part, Good, ◌>>=◌}
use Rattle.blz_model.proofs.PartLemmas.{bind_good}
use Rattle.blz_line.specs.Sequences.{Sequence}
use Rattle.blz_resolver.specs.Books.{Book}
use Rattle.blz_resolver.specs.FileTexts.{texts_of}
use Rattle.blz_resolver.specs.UnitRowsRead.{Rows, rows_in}
use Rattle.blz_rows.specs.Entries.{Entry, both, book_entries, entries_from, entries_in, row_entries, sequence_entries, unit_entries}
use Rattle.blz_rows.specs.RowLaws.{HasRow, IsIn}

-- an entry of a part
record IsOf (entry : Entry) (part : Part (List Entry)) : Type 0 where
  pub entries : List Entry
  pub given : part ≡ Good entries
  pub among : IsIn entry entries

abbrev nothing : List Entry
nothing = []

not_in : {P : Type 0} (entry : Entry) (i : ℕ) → slice_get nothing i ≡ Some entry → P
not_in entry i e = absurd cc

-- an element of two lists is one of the first, or of the second
front_or_back : (entry : Entry) (xs ys : List Entry) (i : ℕ) → slice_get (xs ++ ys) i ≡ Some entry → IsIn entry xs ⊎ IsIn entry ys
front_or_back entry [] ys i e = inr (record { index = i; there = e })
front_or_back entry (x ∷ xs) ys zero e = inl (record { index = 0; there = e })
front_or_back entry (x ∷ xs) ys (suc i) e = behind (front_or_back entry xs ys i e)
  where
    behind : IsIn entry xs ⊎ IsIn entry ys → IsIn entry (x ∷ xs) ⊎ IsIn entry ys
    behind (inl among) = inl (record { index = suc among.index; there = among.there })
    behind (inr among) = inr among

of_both : (entry : Entry) (p q : Part (List Entry)) → IsOf entry (both p q) → IsOf entry p ⊎ IsOf entry q
of_both entry p q h =
    let first = bind_good p (λ xs. q >>= λ ys. Good (xs ++ ys)) h.entries h.given in
    let second = bind_good q (λ ys. Good (first.0 ++ ys)) h.entries first.2 in
    let all : first.0 ++ second.0 ≡ h.entries = let e = second.2 in cc in
    let P : List Entry → Type 0 = λ l. slice_get l h.among.index ≡ Some entry in
    from first.0 first.1 second.0 second.1 (front_or_back entry first.0 second.0 h.among.index (subst P (sym all) h.among.there))
  where
    from : (xs : List Entry) → p ≡ Good xs → (ys : List Entry) → q ≡ Good ys → IsIn entry xs ⊎ IsIn entry ys → IsOf entry p ⊎ IsOf entry q
    from xs is ys same (inl among) = inl (record { entries = xs; given = is; among = among })
    from xs is ys same (inr among) = inr (record { entries = ys; given = same; among = among })

of_none : {P : Type 0} (entry : Entry) → IsOf entry (Good []) → P
of_none entry h =
    let none : nothing ≡ h.entries = let e = h.given in cc in
    let Q : List Entry → Type 0 = λ l. slice_get l h.among.index ≡ Some entry in
    not_in entry h.among.index (subst Q (sym none) h.among.there)

-- ---- sequences

record IsOfSequence (files : List (List ℕ × List ℕ)) (sequences : List Sequence) (entry : Entry) : Type 0 where
  pub sequence : Sequence
  pub index : ℕ
  pub there : slice_get sequences index ≡ Some sequence
  pub of : IsOf entry (row_entries files sequence.end sequence.rows)

of_sequence : (files : List (List ℕ × List ℕ)) (sequences : List Sequence) (entry : Entry) → IsOf entry (sequence_entries files sequences) → IsOfSequence files sequences entry
unfolding sequence_entries
of_sequence files [] entry h = of_none entry h
of_sequence files (s ∷ rest) entry h = from (of_both entry (row_entries files s.end s.rows) (sequence_entries files rest) h) (of_sequence files rest entry)
  where
    from : IsOf entry (row_entries files s.end s.rows) ⊎ IsOf entry (sequence_entries files rest) → (IsOf entry (sequence_entries files rest) → IsOfSequence files rest entry) → IsOfSequence files (s ∷ rest) entry
    from (inl first) later = record { sequence = s; index = 0; there = refl; of = first }
    from (inr others) later =
        let h = later others in
        record { sequence = h.sequence; index = suc h.index; there = h.there; of = h.of }

-- ---- units

of_unit : (book : Book) (unit : ℕ) (entry : Entry) → IsOf entry (entries_in (rows_in (texts_of book.files) book unit)) → HasRow book entry
of_unit book unit entry h =
    let rows = bind_good (rows_in (texts_of book.files) book unit) unit_entries h.entries h.given in
    from rows.0 rows.1 (record { entries = h.entries; given = rows.2; among = h.among })
  where
    from : (rows : Option Rows) → rows_in (texts_of book.files) book unit ≡ Good rows → IsOf entry (unit_entries rows) → HasRow book entry
    from None read of = of_none entry of
    from (Some rows) read of =
        let s = of_sequence rows.files rows.sequences entry of in
        record {
          unit = unit;
          sequence = s.sequence;
          is_entry = record { rows = rows; read = read; listed = record { index = s.index; there = s.there }; entries = s.of.entries; given = s.of.given; among = s.of.among };
        }

of_units : (book : Book) (unit n : ℕ) (entry : Entry) → IsOf entry (entries_from (texts_of book.files) book unit n) → HasRow book entry
unfolding entries_from
of_units book unit zero entry h = of_none entry h
of_units book unit (suc n) entry h =
    from (of_both entry (entries_in (rows_in (texts_of book.files) book unit)) (entries_from (texts_of book.files) book (unit + 1) n) h) (of_units book (unit + 1) n entry)
  where
    from : IsOf entry (entries_in (rows_in (texts_of book.files) book unit)) ⊎ IsOf entry (entries_from (texts_of book.files) book (unit + 1) n)
        → (IsOf entry (entries_from (texts_of book.files) book (unit + 1) n) → HasRow book entry) → HasRow book entry
    from (inl first) later = of_unit book unit entry first
    from (inr others) later = later others

pub has_row : (book : Book) (entries : List Entry) (entry : Entry) → book_entries book ≡ Good entries → IsIn entry entries → HasRow book entry
unfolding book_entries
has_row book entries entry given among = of_units book 0 _ entry (record { entries = entries; given = given; among = among })

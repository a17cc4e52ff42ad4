-- The line of an entry's address.
use Rattle.std.proofs.Common.{◌≡◌, ◌≢◌, ℕ, zero, suc, Bool, true, false, eqb, cond, List, [], ◌∷◌, ◌++◌, map, Option, Some, None, refl, sym, ap, subst, ◌∙◌, arith}
use Rattle.std.specs.List.{slice_get}
use Rattle.std.specs.Option.{option_map, option_and_then}
use Rattle.std.proofs.lemmas.Option.{slice_get-map}
use Rattle.blz_model.specs.Answers.{Site}
use Rattle.blz_model.specs.Part.{Part, Good, ◌>>=◌}
use Rattle.blz_model.proofs.PartLemmas.{bind_good}
use Rattle.blz_info.specs.Marks.{or_invalid}
use Rattle.blz_info.specs.declared.text.Texts.{Texts}
use Rattle.blz_info.proofs.Marked.{good_some}
use Rattle.blz_line.specs.FileNames.{file_text}
use Rattle.blz_line.specs.Lookups.{best_sequence, row_at, row_in, row_site, site_of}
use Rattle.blz_line.specs.Sequences.{Sequence}
use Rattle.blz_line.specs.UnitLines.{LineTable}
use Rattle.blz_line.specs.declared.files.FilePlaces.{FilePlaces}
use Rattle.blz_line.specs.declared.row.LineRow.{LineRow}
use Rattle.blz_line.proofs.MovedUp.{bound}
use Rattle.blz_units.specs.BuiltUnits.{Files}
use Rattle.blz_units.specs.UnitAnswers.{main_unit, unit_lines}
use Rattle.blz_units.specs.UnitSites.{first_line, line_in, line_of, location_at, site_or}
use Rattle.blz_units.specs.UnitTables.{UnitTable, lines_in}
use Rattle.blz_resolver.specs.Books.{Book}
use Rattle.blz_resolver.specs.FileTexts.{texts_of}
use Rattle.blz_resolver.specs.UnitRowsRead.{Rows, rows_in, rows_with}
use Rattle.blz_rows.specs.Entries.{Entry, end_before, entry_in, row_entries, row_entry}
use Rattle.blz_rows.specs.RowLaws.{HasLine, IsEntryOf, IsIn, IsTakenFrom}
use Rattle.blz_rows.proofs.StrictRows.{AllStrict, best_strict, maybe_strict, row_at-itself}

-- ---- the row of an entry

abbrev nothing : List Entry
nothing = []

record IsRowOf (files : List (List ℕ × List ℕ)) (rows : List LineRow) (entry : Entry) : Type 0 where
  pub index : ℕ
  pub row : LineRow
  pub there : slice_get rows index ≡ Some row
  pub file : List ℕ × List ℕ
  pub named : slice_get files row.file_index ≡ Some file
  pub line : entry.line ≡ row.line
  pub address : entry.address ≡ row.address

row_behind : (files : List (List ℕ × List ℕ)) (first : LineRow) (rows : List LineRow) (entry : Entry) → IsRowOf files rows entry → IsRowOf files (first ∷ rows) entry
row_behind files first rows entry h = record { index = suc h.index; row = h.row; there = h.there; file = h.file; named = h.named; line = h.line; address = h.address }

first_row : (files : List (List ℕ × List ℕ)) (row : LineRow) (rows : List LineRow) (file : List ℕ × List ℕ) (end : ℕ) (entry : Entry)
    → slice_get files row.file_index ≡ Some file → entry_in file row end ≡ entry → IsRowOf files (row ∷ rows) entry
first_row files row rows file end entry named is = record {
  index = 0;
  row = row;
  there = refl;
  file = file;
  named = named;
  line = ap (λ (e : Entry). e.line) (sym is);
  address = ap (λ (e : Entry). e.address) (sym is);
}

row_of : (files : List (List ℕ × List ℕ)) (end : ℕ) (rows : List LineRow) (entries : List Entry) (i : ℕ) (entry : Entry)
    → row_entries files end rows ≡ Good entries → slice_get entries i ≡ Some entry → IsRowOf files rows entry
unfolding row_entries row_entry
row_of files end [] entries i entry given there =
    let none : [] ≡ entries = cc in
    absurd (let P : List Entry → Type 0 = λ l. slice_get l i ≡ Some entry in past (subst P (sym none) there))
  where
    past : slice_get nothing i ≡ Some entry → ⊥
    past e = cc
row_of files end (row ∷ rest) entries i entry given there =
    let till = end_before end rest in
    let first = bind_good (row_entry files row till) (λ xs. row_entries files end rest >>= λ ys. Good (xs ++ ys)) entries given in
    let others = bind_good (row_entries files end rest) (λ ys. Good (first.0 ++ ys)) entries first.2 in
    let file = bind_good (or_invalid (slice_get files row.file_index)) (λ file. Good (entry_in file row till ∷ [])) first.0 first.1 in
    let one : entry_in file.0 row till ∷ [] ≡ first.0 = let e = file.2 in cc in
    let all : first.0 ++ others.0 ≡ entries = let e = others.2 in cc in
    let parts : entry_in file.0 row till ∷ others.0 ≡ entries = ap (λ (l : List Entry). l ++ others.0) one ∙ all in
    let P : List Entry → Type 0 = λ l. slice_get l i ≡ Some entry in
    at file.0 (good_some (slice_get files row.file_index) file.0 file.1) others.0 (λ j e. row_of files end rest others.0 j entry others.1 e) i (subst P (sym parts) there)
  where
    at : (file : List ℕ × List ℕ) → slice_get files row.file_index ≡ Some file → (others : List Entry) → ((j : ℕ) → slice_get others j ≡ Some entry → IsRowOf files rest entry)
        → (i : ℕ) → slice_get (entry_in file row (end_before end rest) ∷ others) i ≡ Some entry → IsRowOf files (row ∷ rest) entry
    at file named others later zero e = first_row files row rest file (end_before end rest) entry named cc
    at file named others later (suc i) e = row_behind files row rest entry (later i e)

-- ---- the unit's lines

record HasTable (texts : Texts) (files : Files) (table : UnitTable) (unit : ℕ) (rows : Rows) : Type 0 where
  pub lines : LineTable
  pub read : unit_lines files table unit ≡ Some (Some lines)
  pub same : rows_with texts lines ≡ rows

table_of : (texts : Texts) (book : Book) (unit : ℕ) (rows : Rows) → rows_in texts book unit ≡ Good (Some rows) → HasTable texts book.files book.table unit rows
unfolding rows_in
table_of texts book unit rows e =
    let lines = bind_good (or_invalid (unit_lines book.files book.table unit)) (λ lines. Good (option_map (rows_with texts) lines)) (Some rows) e in
    from lines.0 (good_some _ lines.0 lines.1) (let e = lines.2 in cc)
  where
    from : (lines : Option LineTable) → unit_lines book.files book.table unit ≡ Some lines → option_map (rows_with texts) lines ≡ Some rows → HasTable texts book.files book.table unit rows
    from None read e = absurd cc
    from (Some lines) read e = record { lines = lines; read = read; same = cc }

table_strict : (files : Files) (table : UnitTable) (unit : ℕ) (lines : LineTable) → unit_lines files table unit ≡ Some (Some lines) → AllStrict lines.sequences
unfolding unit_lines
table_strict files table unit lines e =
    let parts = bound (main_unit files table unit) lines_in (Some lines) e in
    maybe_strict _ _ _ _ lines parts.2

-- ---- the line

site_line : (file : List ℕ × List ℕ) (row : LineRow) → row.line ≢ 0 → (site_of file row).line ≡ Some row.line
site_line file row some = by_test (eqb row.line 0) (not_zero row.line some)
  where
    not_zero : (n : ℕ) → n ≢ 0 → eqb n 0 ≡ false
    not_zero n some = grind arith

    by_test : (b : Bool) → b ≡ false → cond b None (Some row.line) ≡ Some row.line
    by_test true e = absurd cc
    by_test false e = refl

row_line : (texts : Texts) (table : LineTable) (row : LineRow) (file : List ℕ × List ℕ) → slice_get (map (file_text texts) table.files) row.file_index ≡ Some file → row.line ≢ 0 → HasLine (row_site texts table (Some row)) row.line
unfolding row_site
row_line texts table row file named some = from (slice_get table.files row.file_index) (sym (slice_get-map (file_text texts) table.files row.file_index) ∙ named)
  where
    from : (o : Option FilePlaces) → option_map (file_text texts) o ≡ Some file → HasLine (or_invalid o >>= λ file. Good (Some (site_of (file_text texts file) row))) row.line
    from None e = absurd cc
    from (Some places) e = record { site = site_of (file_text texts places) row; gives = refl; line = site_line (file_text texts places) row some }

-- ---- the unit that is taken

passed_over : (texts : Texts) (f : Files) (t : UnitTable) (a : ℕ) (before units : List ℕ) → ((k : ℕ) → IsIn k before → line_in texts f t a k ≡ Good None) → first_line texts f t a (before ++ units) ≡ first_line texts f t a units
unfolding first_line
passed_over texts f t a [] units none = refl
passed_over texts f t a (k ∷ before) units none =
    let first : line_in texts f t a k ≡ Good None = none k (record { index = 0; there = refl }) in
    let rest = passed_over texts f t a before units (λ j among. none j (record { index = suc among.index; there = among.there })) in
    rw first rest

taken_first : (texts : Texts) (f : Files) (t : UnitTable) (a unit line : ℕ) (after : List ℕ) → HasLine (line_in texts f t a unit) line → HasLine (first_line texts f t a (unit ∷ after)) line
unfolding first_line
taken_first texts f t a unit line after h = record {
  site = h.site;
  gives = ap (λ (p : Part (Option Site)). p >>= λ site. site_or site (first_line texts f t a after)) h.gives;
  line = h.line;
}

has_line_on : (p q : Part (Option Site)) (m n : ℕ) → p ≡ q → m ≡ n → HasLine p m → HasLine q n
has_line_on p q m n same equal h = record { site = h.site; gives = sym same ∙ h.gives; line = h.line ∙ ap (λ (n : ℕ). Some n) equal }

-- the line of a unit, at the address of a row of its best sequence
unit_line : (texts : Texts) (f : Files) (t : UnitTable) (unit : ℕ) (rows : Rows) (s : Sequence) (entry : Entry)
    → HasTable texts f t unit rows → IsRowOf rows.files s.rows entry → best_sequence rows.sequences entry.address ≡ Some s → entry.line ≢ 0
    → HasLine (line_in texts f t entry.address unit) entry.line
unfolding line_in
unit_line texts f t unit rows s entry h of best some =
    let lines = h.lines in
    let sequences : rows.sequences ≡ lines.sequences = ap (λ (r : Rows). r.sequences) (sym h.same) in
    let files : rows.files ≡ map (file_text texts) lines.files = ap (λ (r : Rows). r.files) (sym h.same) in
    let B : List Sequence → Type 0 = λ q. best_sequence q entry.address ≡ Some s in
    let mine : best_sequence lines.sequences entry.address ≡ Some s = subst B sequences best in
    let itself : row_at s.rows of.row.address ≡ Some of.row = row_at-itself s.rows of.index of.row (best_strict lines.sequences entry.address s (table_strict f t unit lines h.read) mine) of.there in
    let at : row_in lines.sequences entry.address ≡ Some of.row =
    ap (λ (o : Option Sequence). option_and_then (λ (s : Sequence). row_at s.rows entry.address) o) mine
    ∙ ap (λ (a : ℕ). row_at s.rows a) of.address ∙ itself in
    let F : List (List ℕ × List ℕ) → Type 0 = λ l. slice_get l of.row.file_index ≡ Some of.file in
    let told = row_line texts lines of.row of.file (subst F files of.named) (λ zero. some (of.line ∙ zero)) in
    has_line_on (row_site texts lines (Some of.row)) _ of.row.line entry.line
    (sym (ap (λ (o : Option (Option LineTable)). or_invalid o >>= line_of texts entry.address) h.read ∙ ap (row_site texts lines) at)) (sym of.line) told

pub entry_line : (book : Book) (unit : ℕ) (sequence : Sequence) (entry : Entry) → IsEntryOf book unit sequence entry → IsTakenFrom book entry.address unit sequence → entry.line ≢ 0
    → HasLine (location_at (texts_of book.files) book.files book.table entry.address) entry.line
unfolding location_at
entry_line book unit sequence entry of taken some =
    let texts = texts_of book.files in
    let row = row_of of.rows.files sequence.end sequence.rows of.entries of.among.index entry of.given of.among.there in
    let same : taken.rows ≡ of.rows = let a = taken.read in let b = of.read in cc in
    let B : Rows → Type 0 = λ rows. best_sequence rows.sequences entry.address ≡ Some sequence in
    let here = unit_line texts book.files book.table unit of.rows sequence entry (table_of texts book unit of.rows of.read) row (subst B same taken.best) some in
    has_line_on (first_line texts book.files book.table entry.address (unit ∷ taken.after)) _ entry.line entry.line
    (sym (ap (first_line texts book.files book.table entry.address) taken.announced ∙ passed_over texts book.files book.table entry.address taken.before (unit ∷ taken.after) taken.passed)) refl
    (taken_first texts book.files book.table entry.address unit entry.line taken.after here)

-- The rows of a sequence rise, so the row of its own address is the row itself.
use Rattle.std.proofs.Common.{◌≡◌, ℕ, zero, suc, ◌<◌, true, false, leb, List, [], ◌∷◌, length, get_or, Option, Some, None, refl, ap, subst, arith}
use Rattle.std.specs.List.{slice_get}
use Rattle.std.proofs.lemmas.Option.{get_or_from_slice_get, slice_get_within}
use Rattle.blz_model.specs.Reads.{◌>>=◌}
use Rattle.blz_info.specs.Contents.{cut, section_view}
use Rattle.blz_info.specs.declared.section.Sections.{Sections}
use Rattle.blz_info.specs.declared.units.UnitHeader.{UnitHeader}
use Rattle.blz_entry.specs.declared.root.UnitRoot.{UnitRoot}
use Rattle.blz_ranges.specs.Best.{best}
use Rattle.blz_line.specs.FileNames.{files_of, naming_of}
use Rattle.blz_line.specs.Headers.{header_at, rules_of}
use Rattle.blz_line.specs.Lookups.{best_sequence, row_at, spans_of}
use Rattle.blz_line.specs.Program.{first_state}
use Rattle.blz_line.specs.RowOrder.{IsRising, AreRising}
use Rattle.blz_line.specs.Sequences.{Sequence}
use Rattle.blz_line.specs.UnitLines.{LineTable, counts_of, maybe_table, program_of, some_table, table_at, table_of}
use Rattle.blz_line.specs.declared.files.FilePlaces.{FilePlaces}
use Rattle.blz_line.specs.declared.header.LineHeader.{LineHeader}
use Rattle.blz_line.specs.declared.row.LineRow.{LineRow}
use Rattle.blz_line.proofs.MovedUp.{bound}
use Rattle.blz_line.proofs.RisingRows.{run_rising}
use Rattle.blz_rows.proofs.ApartRows.{AllApart, AreApart, run_from-apart}

-- ---- one sequence

-- each row is above an address
record AreAbove (a : ℕ) (rows : List LineRow) : Type 0 where
  pub above : (i : ℕ) (d : LineRow) → i < length rows → a < (get_or rows i d).address

pub record AreStrict (rows : List LineRow) : Type 0 where
  pub rising : IsRising rows
  pub apart : AreApart rows

behind : (row : LineRow) (rest : List LineRow) → AreStrict (row ∷ rest) → AreStrict rest
behind row rest h = record {
  rising = λ i j d le lt. h.rising (suc i) (suc j) d (omega arith) (omega arith);
  apart = record { apart = λ i d lt. h.apart.apart (suc i) d (omega arith) };
}

first_above : (row : LineRow) (rest : List LineRow) → AreStrict (row ∷ rest) → AreAbove row.address rest
first_above row rest h = record {
  above = λ i d lt.
      let up = h.rising 0 1 d (omega arith) (omega arith) in
      let other = h.apart.apart 0 d (omega arith) in
      let later = h.rising 1 (suc i) d (omega arith) (omega arith) in
      omega (arith, up, other, later);
}

above_behind : (a : ℕ) (row : LineRow) (rest : List LineRow) → AreAbove a (row ∷ rest) → AreAbove a rest
above_behind a row rest h = record { above = λ i d lt. h.above (suc i) d (omega arith) }

not_up_to : (m n : ℕ) → n < m → leb m n ≡ false
not_up_to m n lt = grind arith

up_to_itself : (n : ℕ) → leb n n ≡ true
up_to_itself n = grind arith

none_up_to : (a : ℕ) (rows : List LineRow) → AreAbove a rows → row_at rows a ≡ None
unfolding row_at
none_up_to a [] h = refl
none_up_to a (row ∷ rest) h =
    let later : row_at rest a ≡ None = none_up_to a rest (above_behind a row rest h) in
    let first : leb row.address a ≡ false = not_up_to row.address a (h.above 0 row (omega arith)) in
    rw (later, first) refl

pub row_at-itself : (rows : List LineRow) (i : ℕ) (row : LineRow) → AreStrict rows → slice_get rows i ≡ Some row → row_at rows row.address ≡ Some row
unfolding row_at
row_at-itself [] i row h e = absurd cc
row_at-itself (first ∷ rest) zero row h e =
    let same : first ≡ row = cc in
    let later : row_at rest first.address ≡ None = none_up_to first.address rest (first_above first rest h) in
    let here : leb first.address first.address ≡ true = up_to_itself first.address in
    rw (← same, later, here) refl
row_at-itself (first ∷ rest) (suc i) row h e =
    let later : row_at rest row.address ≡ Some row = row_at-itself rest i row (behind first rest h) e in
    rw later refl

-- ---- the sequences of a table

pub record AllStrict (sequences : List Sequence) : Type 0 where
  pub rising : AreRising sequences
  pub apart : AllApart sequences

abbrev made : List Sequence → List FilePlaces → LineTable
made sequences files = record { sequences = sequences; files = files }

made_is : (sequences : List Sequence) (files : List FilePlaces) (table : LineTable) → Some (made sequences files) ≡ Some table → sequences ≡ table.sequences
made_is sequences files table e = let same : made sequences files ≡ table = cc in ap (λ (t : LineTable). t.sequences) same

program_strict : (sections : Sections) (unit : UnitHeader) (root : UnitRoot) (h : LineHeader) (table : LineTable) → table_of sections unit root h ≡ Some table → AllStrict table.sequences
unfolding table_of program_of
program_strict sections unit root h table e =
    let section = section_view sections.line in
    let naming = naming_of sections unit root h.version h.paths.directories in
    let run = bound (program_of section h) (λ state. files_of naming state.files >>= λ files. Some (made state.sequences files)) table e in
    let files = bound (files_of naming run.0.files) (λ files. Some (made run.0.sequences files)) table run.2 in
    subst AllStrict (made_is run.0.sequences files.0 table files.2) (record {
      rising = run_rising (rules_of h) (counts_of section h) (cut h.end section) (first_state h.paths.files) run.0 h.program run.1 refl refl;
      apart = run_from-apart (rules_of h) (counts_of section h) (cut h.end section) (first_state h.paths.files) run.0 h.program run.1 refl refl;
    })

table_strict : (sections : Sections) (unit : UnitHeader) (root : UnitRoot) (place : ℕ) (table : LineTable) → table_at sections unit root place ≡ Some table → AllStrict table.sequences
unfolding table_at
table_strict sections unit root place table e =
    let header = bound (header_at (section_view sections.line) place unit.address_size) (table_of sections unit root) table e in
    program_strict sections unit root header.0 table header.2

some_is : (o : Option LineTable) (table : LineTable) → some_table o ≡ Some (Some table) → o ≡ Some table
some_is None table e = absurd cc
some_is (Some other) table e = cc

pub maybe_strict : (sections : Sections) (unit : UnitHeader) (root : UnitRoot) (place : Option ℕ) (table : LineTable) → maybe_table sections unit root place ≡ Some (Some table) → AllStrict table.sequences
maybe_strict sections unit root None table e = absurd cc
maybe_strict sections unit root (Some place) table e = table_strict sections unit root place table (some_is _ table e)

-- each of them
strict_in : (sequences : List Sequence) (i : ℕ) (s : Sequence) → AllStrict sequences → slice_get sequences i ≡ Some s → AreStrict s.rows
strict_in sequences i s h e =
    let lt = slice_get_within sequences i s e in
    let is : get_or sequences i s ≡ s = get_or_from_slice_get sequences i s s e in
    subst (λ (s : Sequence). AreStrict s.rows) is (record { rising = h.rising i s lt; apart = h.apart i s lt })

pub best_strict : (sequences : List Sequence) (a : ℕ) (s : Sequence) → AllStrict sequences → best_sequence sequences a ≡ Some s → AreStrict s.rows
best_strict sequences a s h e =
    let place = bound (best (spans_of sequences) a) (λ place. slice_get sequences place) s e in
    strict_in sequences place.0 s h place.2

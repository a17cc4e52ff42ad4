-- The line of an address is never a mark of want of memory.
use Rattle.std.proofs.Common.{◌≡◌, ℕ, List, [], ◌∷◌, Option, Some, None, Result, Ok, Err, ◌∙◌}
use Rattle.std.specs.List.{slice_get}
use Rattle.std.specs.Option.{option_map}
use Rattle.blz_error.specs.Fault.{Fault}
use Rattle.blz_error.specs.declared.kind.ErrorKind.TheVariants.{InvalidDwarf, OutOfMemory}
use Rattle.blz_model.specs.Answers.{Site}
use Rattle.blz_model.specs.Part.{Part, Good, Broken, ◌>>=◌, or_mark, Exactly}
use Rattle.blz_info.specs.Marks.{or_invalid}
use Rattle.blz_info.specs.declared.text.Texts.{Texts}
use Rattle.blz_line.specs.declared.lines.Location.{Location}
use Rattle.blz_line.specs.declared.row.LineRow.{LineRow}
use Rattle.blz_line.specs.FileNames.{file_text}
use Rattle.blz_line.specs.Lookups.{location_view, row_site, row_in, site_of}
use Rattle.blz_line.specs.UnitLines.{LineTable}
use Rattle.blz_units.specs.BuiltUnits.{Files}
use Rattle.blz_units.specs.KeptAnswers.{Repeats}
use Rattle.blz_units.specs.UnitAnswers.{unit_lines}
use Rattle.blz_units.specs.UnitSites.{line_of, line_in, site_or, first_line}
use Rattle.blz_units.specs.UnitTables.{UnitTable}

abbrev NeverFull : {A : Type 0} → Part A → Type 0
NeverFull (Good x) = Unit {0}
NeverFull (Broken k) = k ≡ OutOfMemory → ⊥

needed : {A : Type 0} (o : Option A) → NeverFull (or_mark o InvalidDwarf)
needed None = λ e. cc
needed (Some x) = tt

bound : {A B : Type 0} (p : Part A) (f : A → Part B) → NeverFull p → ((x : A) → NeverFull (f x)) → NeverFull (p >>= f)
bound (Good x) f n h = h x
bound (Broken k) f n h = n

of_row : (texts : Texts) (table : LineTable) (row : Option LineRow) → NeverFull (row_site texts table row)
unfolding row_site
of_row texts table None = tt
of_row texts table (Some row) = bound (or_mark (slice_get table.files row.file_index) InvalidDwarf) (λ file. Good (Some (site_of (file_text texts file) row))) (needed (slice_get table.files row.file_index)) (λ x. tt)

of_table : (texts : Texts) (a : ℕ) (lines : Option LineTable) → NeverFull (line_of texts a lines)
of_table texts a None = tt
of_table texts a (Some table) = of_row texts table (row_in table.sequences a)

of_unit : (texts : Texts) (f : Files) (t : UnitTable) (a k : ℕ) → NeverFull (line_in texts f t a k)
unfolding line_in
of_unit texts f t a k = bound (or_invalid (unit_lines f t k)) (line_of texts a) (needed (unit_lines f t k)) (of_table texts a)

or_rest : (site : Option Site) (rest : Part (Option Site)) → NeverFull rest → NeverFull (site_or site rest)
or_rest None rest n = n
or_rest (Some site) rest n = tt

of_units : (texts : Texts) (f : Files) (t : UnitTable) (a : ℕ) (ks : List ℕ) → NeverFull (first_line texts f t a ks)
unfolding first_line
of_units texts f t a [] = tt
of_units texts f t a (k ∷ ks) = bound (line_in texts f t a k) (λ site. site_or site (first_line texts f t a ks)) (of_unit texts f t a k) (λ site. or_rest site (first_line texts f t a ks) (of_units texts f t a ks))

exactly_by : (r : Result (Option Location) Fault) (p : Part (Option Site)) → NeverFull p → Repeats (λ o. option_map location_view o) r p → Exactly (λ o. option_map location_view o) r p
exactly_by (Ok x) p n h = h
exactly_by (Err e) (Broken k) n h = let same : k ≡ e.kind = cc in (h, λ full. n (same ∙ full))
exactly_by (Err e) (Good x) n h = absurd cc

pub line_exactly : (texts : Texts) (f : Files) (t : UnitTable) (a : ℕ) (ks : List ℕ) (r : Result (Option Location) Fault) → Repeats (λ o. option_map location_view o) r (first_line texts f t a ks) → Exactly (λ o. option_map location_view o) r (first_line texts f t a ks)
line_exactly texts f t a ks r h = exactly_by r (first_line texts f t a ks) (of_units texts f t a ks) h

-- The lines of a unit are those of its line program with its own names.
use Rattle.std.proofs.Common.{◌≡◌, ℕ, Bool, true, false, List, [], ◌∷◌, length, map, Option, Some, None, refl, sym, ap, subst, ◌∙◌}
use Rattle.std.specs.Prelude.{nat_le, ◌==◌, if◌then◌else◌}
use Rattle.std.specs.Option.{option_map}
use Rattle.blz_error.specs.declared.kind.ErrorKind.{ErrorKind}
use Rattle.blz_error.specs.declared.kind.ErrorKind.TheVariants.{InvalidDwarf}
use Rattle.blz_model.specs.Part.{Good, Fails, or_mark}
use Rattle.blz_model.specs.Reads.{◌>>=◌}
use Rattle.blz_entry.specs.declared.root.UnitRoot.{UnitRoot}
use Rattle.blz_info.specs.Contents.{section_view}
use Rattle.blz_info.specs.declared.section.Sections.{Sections}
use Rattle.blz_info.specs.declared.text.StrPlace.{StrPlace}
use Rattle.blz_info.specs.declared.units.UnitHeader.{UnitHeader}
use Rattle.blz_info.specs.declared.forms.value.AttrValue.{AttrValue}
use Rattle.blz_line.specs.FileNames.{Naming, naming_of, all_files, at_front, directory_path, file_in, file_of, file_zero, files_of, nowhere, unit_file}
use Rattle.blz_line.specs.Headers.{header_at}
use Rattle.blz_line.specs.Program.{State}
use Rattle.blz_line.specs.ProgramFiles.{files_by, first_file, first_of, in_unit, nameless, names_of}
use Rattle.blz_line.specs.ProgramTables.{ProgramTable, program_at, program_table, unit_table}
use Rattle.blz_line.specs.UnitLines.{LineTable, maybe_table, program_of, some_table, table_at, table_of}
use Rattle.blz_line.specs.declared.files.FilePlaces.{FilePlaces}
use Rattle.blz_line.specs.declared.files.FirstFile.TheVariants.{Listed, Nowhere, OfUnit}
use Rattle.blz_line.specs.declared.files.UnitNames.{UnitNames}
use Rattle.blz_line.specs.declared.header.LineHeader.{LineHeader}
use Rattle.blz_line.specs.declared.paths.FileEntry.{FileEntry}
use Rattle.blz_line.proofs.ProgramSteps.{stopped}

-- ---- files

abbrev names_in : Naming → UnitNames
names_in n = record { name = n.unit_name; comp_dir = n.comp_dir }

behind_directory : (names : UnitNames) (name : StrPlace) (o : Option StrPlace)
    → (o >>= λ d. Some (record { comp_dir = names.comp_dir; directory = Some d; name = Some name }))
    ≡ option_map (in_unit names) (o >>= λ d. Some (record { comp_dir = None; directory = Some d; name = Some name }))
behind_directory names name None = refl
behind_directory names name (Some d) = refl

file_in_unit : (n : Naming) (name : StrPlace) (path : Option AttrValue) → file_in n name path ≡ option_map (in_unit (names_in n)) (file_in (nameless n) name path)
unfolding file_in
file_in_unit n name None = refl
file_in_unit n name (Some path) = behind_directory (names_in n) name (n.string_at path)

behind_name : (n : Naming) (path : Option AttrValue) (o : Option StrPlace)
    → (o >>= λ name. file_in n name path) ≡ option_map (in_unit (names_in n)) (o >>= λ name. file_in (nameless n) name path)
behind_name n path None = refl
behind_name n path (Some name) = file_in_unit n name path

file_by_unit : (n : Naming) (e : FileEntry) → file_of n e ≡ option_map (in_unit (names_in n)) (file_of (nameless n) e)
unfolding file_of
file_by_unit n e = behind_name n (directory_path n e.directory) (n.string_at e.path)

one_more : (names : UnitNames) (file : Option FilePlaces) (files : Option (List FilePlaces))
    → (option_map (in_unit names) file >>= λ f. option_map (map (in_unit names)) files >>= λ fs. Some (f ∷ fs))
    ≡ option_map (map (in_unit names)) (file >>= λ f. files >>= λ fs. Some (f ∷ fs))
one_more names None files = refl
one_more names (Some f) None = refl
one_more names (Some f) (Some fs) = refl

all_by_unit : (n : Naming) (entries : List FileEntry) → all_files n entries ≡ option_map (map (in_unit (names_in n))) (all_files (nameless n) entries)
unfolding all_files
all_by_unit n [] = refl
all_by_unit n (e ∷ entries) = rw (file_by_unit n e, all_by_unit n entries) (one_more (names_in n) (file_of (nameless n) e) (all_files (nameless n) entries))

zero_is : (names : UnitNames) (old empty : Bool)
    → (if old then Some (unit_file names.comp_dir names.name) else (if empty then Some nowhere else None))
    ≡ first_file (if old then OfUnit else (if empty then Nowhere else Listed)) names
zero_is names true empty = refl
zero_is names false true = refl
zero_is names false false = refl

in_front : (names : UnitNames) (zero : Option FilePlaces) (files : Option (List FilePlaces))
    → (option_map (map (in_unit names)) files >>= λ fs. Some (at_front zero fs)) ≡ option_map (λ (fs : List FilePlaces). at_front zero (map (in_unit names) fs)) files
in_front names zero None = refl
in_front names zero (Some fs) = refl

pub files_by_unit : (n : Naming) (entries : List FileEntry)
    → files_of n entries ≡ option_map (files_by (names_in n) (first_of n.version (length entries))) (all_files (nameless n) entries)
unfolding files_of
files_by_unit n entries =
    let files = all_files (nameless n) entries in
    ap (λ (o : Option (List FilePlaces)). o >>= λ fs. Some (at_front (file_zero n entries) fs)) (all_by_unit n entries)
    ∙ (in_front (names_in n) (file_zero n entries) files
    ∙ ap (λ (zero : Option FilePlaces). option_map (λ (fs : List FilePlaces). at_front zero (map (in_unit (names_in n)) fs)) files) (zero_is (names_in n) (nat_le n.version 4) (length entries == 0)))

-- ---- tables

module _ (s : Sections) (h : UnitHeader) (r : UnitRoot) where
  abbrev in_it : Option ProgramTable → Option LineTable
  in_it o = option_map (unit_table (names_of r)) o

  behind_files : (state : State) (version : ℕ) (files : Option (List FilePlaces))
      → (option_map (files_by (names_of r) (first_of version (length state.files))) files >>= λ fs. Some (record { sequences = state.sequences; files = fs }))
      ≡ in_it (files >>= λ fs. Some (record { sequences = state.sequences; first = first_of version (length state.files); files = fs }))
  behind_files state version None = refl
  behind_files state version (Some fs) = refl

  behind_program : (header : LineHeader) (o : Option State)
      → (o >>= λ state. files_of (naming_of s h r header.version header.paths.directories) state.files >>= λ fs. Some (record { sequences = state.sequences; files = fs }))
      ≡ in_it (o >>= λ state. all_files (nameless (naming_of s h r header.version header.paths.directories)) state.files >>= λ fs. Some (record { sequences = state.sequences; first = first_of header.version (length state.files); files = fs }))
  behind_program header None = refl
  behind_program header (Some state) =
      let n = naming_of s h r header.version header.paths.directories in
      rw (files_by_unit n state.files) (behind_files state header.version (all_files (nameless n) state.files))

  table_by_program : (header : LineHeader) → table_of s h r header ≡ in_it (program_table s h r header)
  unfolding table_of program_table
  table_by_program header = behind_program header (program_of (section_view s.line) header)

  behind_header : (o : Option LineHeader) → (o >>= table_of s h r) ≡ in_it (o >>= program_table s h r)
  behind_header None = refl
  behind_header (Some header) = table_by_program header

  table_at_program : (at : ℕ) → table_at s h r at ≡ in_it (program_at s h r at)
  unfolding table_at program_at
  table_at_program at = behind_header (header_at (section_view s.line) at h.address_size)

  abbrev in_lines : Option ProgramTable → Option (Option LineTable)
  in_lines o = o >>= λ p. Some (Some (unit_table (names_of r) p))

  some_in : (o : Option ProgramTable) → some_table (in_it o) ≡ in_lines o
  some_in None = refl
  some_in (Some p) = refl

  -- the lines of a unit that tells a line program
  pub lines_by_program : (at : ℕ) → maybe_table s h r (Some at) ≡ in_lines (program_at s h r at)
  lines_by_program at = ap some_table (table_at_program at) ∙ some_in (program_at s h r at)

  good_in : (p : ProgramTable) (o : Option ProgramTable) → or_mark o InvalidDwarf ≡ Good p → or_mark (in_lines o) InvalidDwarf ≡ Good (Some (unit_table (names_of r) p))
  good_in p None g = absurd cc
  good_in p (Some q) g = let same : q ≡ p = cc in ap (λ (x : ProgramTable). Good (Some (unit_table (names_of r) x))) same

  pub lines_good : (at : ℕ) (p : ProgramTable) → or_mark (program_at s h r at) InvalidDwarf ≡ Good p → or_mark (maybe_table s h r (Some at)) InvalidDwarf ≡ Good (Some (unit_table (names_of r) p))
  lines_good at p good = ap (λ (m : Option (Option LineTable)). or_mark m InvalidDwarf) (lines_by_program at) ∙ good_in p (program_at s h r at) good

  pub lines_fail : (at : ℕ) (k : ErrorKind) → Fails k (or_mark (program_at s h r at) InvalidDwarf) → Fails k (or_mark (maybe_table s h r (Some at)) InvalidDwarf)
  lines_fail at k fails = subst (λ (m : Option (Option LineTable)). Fails k (or_mark m InvalidDwarf)) (sym (lines_by_program at)) (stopped (program_at s h r at) k fails (λ p. Some (Some (unit_table (names_of r) p))))

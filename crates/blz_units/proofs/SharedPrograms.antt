-- What a line program gives depends on how it is read alone.
use Rattle.std.proofs.Common.{◌≡◌, ℕ, length, Option, Some, None, refl, sym, ap, subst, ◌∙◌}
use Rattle.std.specs.Prelude.{◌≢◌, option_map, IfSome}
use Rattle.std.specs.BTreeMap.{get, IsEmpty, Updates}
use Rattle.std.proofs.Math.Path.{fun_ext}
use Rattle.blz_error.specs.declared.kind.ErrorKind.{ErrorKind}
use Rattle.blz_error.specs.declared.kind.ErrorKind.TheVariants.{InvalidDwarf, OutOfMemory}
use Rattle.blz_model.specs.Part.{Broken, Fails, Good, or_mark}
use Rattle.blz_model.specs.Reads.{◌>>=◌}
use Rattle.blz_entry.specs.StringPlaces.{string_of, indexed_string}
use Rattle.blz_entry.specs.declared.root.UnitRoot.{UnitRoot}
use Rattle.blz_functions.specs.Leaves.{lying}
use Rattle.blz_functions.proofs.Lying.{string_lying}
use Rattle.blz_info.specs.Contents.{section_view}
use Rattle.blz_info.specs.FileSections.{FileSections, sections_view}
use Rattle.blz_info.specs.declared.section.Sections.{Sections}
use Rattle.blz_info.specs.declared.text.StrPlace.{StrPlace}
use Rattle.blz_info.specs.declared.units.UnitHeader.{UnitHeader}
use Rattle.blz_info.specs.declared.forms.value.AttrValue.{AttrValue}
use Rattle.blz_info.specs.declared.forms.value.AttrValue.TheVariants.{StrIndex}
use Rattle.blz_line.specs.FileNames.{all_files}
use Rattle.blz_line.specs.Headers.{header_at}
use Rattle.blz_line.specs.ProgramFiles.{first_of}
use Rattle.blz_line.specs.ProgramTables.{OrderedProgram, ProgramTable, program_at, program_table}
use Rattle.blz_line.specs.UnitLines.{program_of}
use Rattle.blz_line.specs.declared.header.LineHeader.{LineHeader}
use Rattle.blz_units.specs.SharedPrograms.{lines_key, program_cmp, ArePrograms, IsProgramAt}
use Rattle.blz_units.specs.declared.shared.program_key.LinesKey.{LinesKey}
use Rattle.blz_units.specs.declared.shared.program_key.ProgramKey.{ProgramKey}
use Rattle.blz_units.specs.declared.shared.shared_programs.SharedPrograms.{SharedPrograms}
use Rattle.blz_units.proofs.KeptValues.{if_empty, more_kept}
use Rattle.blz_units.proofs.KeyOrder.{exact_program}
use Rattle.blz_units.proofs.Rooted.{bind_same}

-- the table of a header, by how values are read as strings
abbrev table_by : Sections → LineHeader → (AttrValue → Option StrPlace) → Option ProgramTable
table_by s header read = program_of (section_view s.line) header >>= λ state.
    all_files (record { string_at = read; unit_name = None; comp_dir = None; version = header.version; directories = header.paths.directories }) state.files >>= λ files.
    Some (record { sequences = state.sequences; first = first_of header.version (length state.files); files = files })

table_is : (s : Sections) (h : UnitHeader) (r : UnitRoot) (header : LineHeader) → program_table s h r header ≡ table_by s header (string_of s h r)
unfolding program_table
table_is s h r header = refl

-- ---- where sections lie

table_lying : (s : Sections) (h : UnitHeader) (r : UnitRoot) (header : LineHeader) → program_table s h r header ≡ program_table (lying (sections_view s)) h r header
unfolding program_table
table_lying s h r header = ap (table_by s header) (fun_ext (λ v. string_lying s h r v))

pub program_lying : (s : Sections) (h : UnitHeader) (r : UnitRoot) (at : ℕ) → program_at s h r at ≡ program_at (lying (sections_view s)) h r at
unfolding program_at
program_lying s h r at = bind_same (header_at (section_view s.line) at h.address_size) _ _ (λ header. table_lying s h r header)

-- ---- units that read alike

string_same : (s : Sections) (h g : UnitHeader) (r q : UnitRoot) → h.wide ≡ g.wide → r.str_offsets_base ≡ q.str_offsets_base → (v : AttrValue) → string_of s h r v ≡ string_of s g q v
unfolding string_of indexed_string
string_same s h g r q wide base (StrIndex index) = rw (wide, base) refl
string_same s h g r q wide base _ = refl

table_same : (s : Sections) (h g : UnitHeader) (r q : UnitRoot) (header : LineHeader) → h.wide ≡ g.wide → r.str_offsets_base ≡ q.str_offsets_base → program_table s h r header ≡ program_table s g q header
unfolding program_table
table_same s h g r q header wide base = ap (table_by s header) (fun_ext (λ v. string_same s h g r q wide base v))

program_same : (s : Sections) (h g : UnitHeader) (r q : UnitRoot) (at : ℕ) → lines_key h r ≡ lines_key g q → program_at s h r at ≡ program_at s g q at
unfolding program_at
program_same s h g r q at e =
    let size : h.address_size ≡ g.address_size = ap (λ (k : LinesKey). k.address_size) e in
    let wide : h.wide ≡ g.wide = ap (λ (k : LinesKey). k.wide) e in
    let base : r.str_offsets_base ≡ q.str_offsets_base = ap (λ (k : LinesKey). k.str_offsets_base) e in
    ap (λ (n : ℕ). header_at (section_view s.line) at n >>= program_table s h r) size
    ∙ bind_same (header_at (section_view s.line) at g.address_size) _ _ (λ header. table_same s h g r q header wide base)

-- what one unit finds, each unit with its key does
pub program_for : (s : Sections) (h : UnitHeader) (r : UnitRoot) (at : ℕ) (program : Option OrderedProgram) → program_at s h r at ≡ option_map (λ (p : OrderedProgram). p.table) program → IsProgramAt (sections_view s) (record { lines = lines_key h r; offset = at }) program
program_for s h r at program e = λ g q k. program_same (lying (sections_view s)) g h q r at k ∙ (sym (program_lying s h r at) ∙ e)

-- what is kept is what a unit finds
pub program_of_key : (s : Sections) (h : UnitHeader) (r : UnitRoot) (at : ℕ) (program : Option OrderedProgram) → IsProgramAt (sections_view s) (record { lines = lines_key h r; offset = at }) program → program_at s h r at ≡ option_map (λ (p : OrderedProgram). p.table) program
program_of_key s h r at program is = program_lying s h r at ∙ is h r refl

-- ---- what is kept

pub no_programs : (s : FileSections) (programs : SharedPrograms) → IsEmpty programs.kept → ArePrograms s programs
no_programs s programs e = if_empty program_cmp programs.kept (IsProgramAt s) e

pub one_program_more : (s : FileSections) (old new : SharedPrograms) (key : ProgramKey) (program : Option OrderedProgram) → Updates program_cmp old.kept new.kept key (Some program) → IsProgramAt s key program → ArePrograms s old → ArePrograms s new
one_program_more s old new key program u here are = more_kept program_cmp exact_program old.kept new.kept key program (IsProgramAt s) u here are

pub programs_same : (s : FileSections) (old new : SharedPrograms) → new.kept.entries ≡ old.kept.entries → ArePrograms s old → ArePrograms s new
programs_same s old new e are = λ key. rw e (are key)

-- ---- what a unit has read

some_given : (o : Option ProgramTable) (p : ProgramTable) → or_mark o InvalidDwarf ≡ Good p → o ≡ Some p
some_given None p e = absurd cc
some_given (Some q) p e = cc

none_given : (o : Option ProgramTable) (k : ErrorKind) → or_mark o InvalidDwarf ≡ Broken k → o ≡ None
none_given None k e = refl
none_given (Some q) k e = absurd cc

module _ (s : Sections) (h : UnitHeader) (r : UnitRoot) (at : ℕ) where
  abbrev key_of : ProgramKey
  key_of = record { lines = lines_key h r; offset = at }

  pub good_program : (p : OrderedProgram) → or_mark (program_at s h r at) InvalidDwarf ≡ Good p.table → IsProgramAt (sections_view s) key_of (Some p)
  good_program p e = program_for s h r at (Some p) (some_given (program_at s h r at) p.table e)

  pub broken_program : (k : ErrorKind) → k ≢ OutOfMemory → Fails k (or_mark (program_at s h r at) InvalidDwarf) → IsProgramAt (sections_view s) key_of None
  broken_program k ne fails = program_for s h r at None (none_given (program_at s h r at) k (fails ne))

  pub good_again : (p : OrderedProgram) → IsProgramAt (sections_view s) key_of (Some p) → or_mark (program_at s h r at) InvalidDwarf ≡ Good p.table
  good_again p is = ap (λ (o : Option ProgramTable). or_mark o InvalidDwarf) (program_of_key s h r at (Some p) is)

  pub broken_again : (k : ErrorKind) → k ≡ InvalidDwarf → IsProgramAt (sections_view s) key_of None → Fails k (or_mark (program_at s h r at) InvalidDwarf)
  broken_again k e is = λ _. ap (λ (o : Option ProgramTable). or_mark o InvalidDwarf) (program_of_key s h r at None is) ∙ ap Broken (sym e)

pub kept_at : (s : FileSections) (programs : SharedPrograms) (key : ProgramKey) (kept : Option OrderedProgram) → Some kept ≡ get program_cmp programs.kept key → ArePrograms s programs → IsProgramAt s key kept
kept_at s programs key kept e are = subst (λ (o : Option (Option OrderedProgram)). IfSome o (IsProgramAt s key)) (sym e) (are key)

-- The lines of a unit do not depend on where its sections lie in memory.
use Rattle.std.proofs.Common.{◌≡◌, ℕ, Option, Some, None, refl, ap}
use Rattle.std.proofs.Math.Path.{fun_ext}
use Rattle.blz_model.specs.Reads.{◌>>=◌}
use Rattle.blz_info.specs.Contents.{section_view}
use Rattle.blz_entry.specs.declared.root.UnitRoot.{UnitRoot}
use Rattle.blz_info.specs.declared.section.Sections.{Sections}
use Rattle.blz_info.specs.declared.text.StrPlace.{StrPlace}
use Rattle.blz_info.specs.declared.units.UnitHeader.{UnitHeader}
use Rattle.blz_info.specs.declared.forms.value.AttrValue.{AttrValue}
use Rattle.blz_line.specs.FileNames.{files_of}
use Rattle.blz_line.specs.Headers.{header_at}
use Rattle.blz_line.specs.UnitLines.{LineTable, program_of, table_of, table_at, some_table, maybe_table}
use Rattle.blz_line.specs.declared.header.LineHeader.{LineHeader}
use Rattle.blz_info.specs.FileSections.{sections_view}
use Rattle.blz_functions.specs.Leaves.{lying}
use Rattle.blz_functions.proofs.Lying.{string_lying}
use Rattle.blz_units.proofs.Rooted.{bind_same}

table_lying : (s : Sections) (unit : UnitHeader) (root : UnitRoot) (h : LineHeader) → table_of s unit root h ≡ table_of (lying (sections_view s)) unit root h
unfolding table_of
table_lying s unit root h =
    ap (λ (f : AttrValue → Option StrPlace). program_of (section_view s.line) h >>= λ state. files_of (record { string_at = f; unit_name = root.name; comp_dir = root.comp_dir; version = h.version; directories = h.paths.directories }) state.files >>= λ files. Some (record { sequences = state.sequences; files = files })) (fun_ext (λ v. string_lying s unit root v))

at_lying : (s : Sections) (unit : UnitHeader) (root : UnitRoot) (at : ℕ) → table_at s unit root at ≡ table_at (lying (sections_view s)) unit root at
unfolding table_at
at_lying s unit root at = bind_same (header_at (section_view s.line) at unit.address_size) _ _ (λ h. table_lying s unit root h)

pub lines_lying : (s : Sections) (unit : UnitHeader) (root : UnitRoot) (line : Option ℕ) → maybe_table s unit root line ≡ maybe_table (lying (sections_view s)) unit root line
lines_lying s unit root None = refl
lines_lying s unit root (Some at) = ap (λ (o : Option LineTable). some_table o) (at_lying s unit root at)

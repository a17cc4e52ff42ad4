-- Attributes that tell what a function or an inlined call is, its names, the addresses that it covers, and where it is
-- called, or what holds for a whole unit (DWARF 5 sections 2.15, 2.17, 3.1.1, 3.3.8.2 and 7.5.4).
use Rattle.std.specs.Prelude.{ℕ, Bool, false, ◌||◌, List, [], ◌∷◌, drop, Option, Some, None, ◌==◌, if◌then◌else◌}
use Rattle.blz_constants.specs.declared.dwarf.TheConstants as dwarf
use Rattle.blz_model.specs.Reads.{◌>>=◌}
use Rattle.blz_info.specs.Attributes.{attribute}
use Rattle.blz_info.specs.Contents.{Contents}
use Rattle.blz_info.specs.Walks.{Walk}
use Rattle.blz_info.specs.declared.abbreviations.AttrSpec.{AttrSpec}
use Rattle.blz_info.specs.declared.encoding.Encoding.{Encoding}
use Rattle.blz_info.specs.declared.text.StrBase.{StrBase}
use Rattle.blz_info.specs.declared.forms.value.AttrValue.{AttrValue}
use Rattle.blz_info.specs.declared.walking.wanted.Met.{Met}

-- DW_AT_name, low_pc, high_pc, abstract_origin, specification, ranges, call_column, call_file, call_line, linkage_name
-- and MIPS_linkage_name, and of a unit stmt_list, language, comp_dir, str_offsets_base, addr_base and rnglists_base
unfoldable pub is_wanted : ℕ → Bool
is_wanted name =
    (name == dwarf.DW_AT_name) || ((name == dwarf.DW_AT_low_pc) || ((name == dwarf.DW_AT_high_pc) || (
    (name == dwarf.DW_AT_abstract_origin) || ((name == dwarf.DW_AT_specification) || ((name == dwarf.DW_AT_ranges) || (
    (name == dwarf.DW_AT_call_column) || ((name == dwarf.DW_AT_call_file) || ((name == dwarf.DW_AT_call_line) || (
    (name == dwarf.DW_AT_linkage_name) || ((name == dwarf.DW_AT_MIPS_linkage_name) || ((name == dwarf.DW_AT_stmt_list) || (
    (name == dwarf.DW_AT_language) || ((name == dwarf.DW_AT_comp_dir) || ((name == dwarf.DW_AT_str_offsets_base) || (
    (name == dwarf.DW_AT_addr_base) || (name == dwarf.DW_AT_rnglists_base))))))))))))))))

-- DW_AT_low_pc, high_pc, ranges, abstract_origin and specification: an entry that has none of them covers no address,
-- and refers to no other entry
unfoldable pub is_placing : ℕ → Bool
is_placing name =
    (name == dwarf.DW_AT_low_pc) || ((name == dwarf.DW_AT_high_pc) || ((name == dwarf.DW_AT_ranges) || (
    (name == dwarf.DW_AT_abstract_origin) || (name == dwarf.DW_AT_specification))))

abbrev pub any_placing : List AttrSpec → Bool
any_placing [] = false
any_placing (a ∷ rest) = is_placing a.name || any_placing rest

-- a wanted attribute with its name, the attributes behind it, and the place behind it
abbrev pub Wanted : Type 0
Wanted = Option (ℕ × AttrValue) × (List AttrSpec × ℕ)

-- the first of some attributes that is wanted; those before it have values
unfoldable pub wanted_in : List AttrSpec → Encoding → StrBase → Contents → ℕ → Option Wanted
wanted_in [] e base s at = Some (None, ([], at))
wanted_in (a ∷ rest) e base s at = do
  v ← attribute a e base s at
  if is_wanted a.name then Some (Some (a.name, v.0), (rest, v.1)) else wanted_in rest e base s v.1

-- the next wanted attribute of those that were not read
unfoldable pub wanted_of : Walk → Option (Option (ℕ × AttrValue) × Walk)
wanted_of w = do
  r ← wanted_in w.pending w.source.encoding w.source.base w.source.section w.place
  Some (r.0, record { source = w.source; place = r.1.1; pending = r.1.0; depth = w.depth })

abbrev pub met_view : List AttrSpec → Met → Wanted
met_view specs m = (m.found, (drop m.count specs, m.place))

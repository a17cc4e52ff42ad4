-- The first entry of a unit (DWARF 5 section 3.1.1).
use Rattle.std.specs.Prelude.{ℕ, Bool, true, false, ◌&&◌, List, Option, Some, None, option_and_then, unwrap_or, ◌==◌, if◌then◌else◌}
use Rattle.blz_constants.specs.declared.dwarf.TheConstants as dwarf
use Rattle.blz_model.specs.Reads.{◌>>=◌}
use Rattle.blz_model.specs.LebNumbers.{uleb}
use Rattle.blz_info.specs.Abbrevs.{Abbrev, of_code}
use Rattle.blz_info.specs.Attributes.{attributes}
use Rattle.blz_entry.specs.Folds.{fold_maybe}
use Rattle.blz_info.specs.Forms.{udata}
use Rattle.blz_entry.specs.RangeLists.{range_step}
use Rattle.blz_entry.specs.StringPlaces.{string_of}
use Rattle.blz_info.specs.Walks.{Source, source_of}
use Rattle.blz_entry.specs.declared.ranges.RangeAttributes.{RangeAttributes}
use Rattle.blz_entry.specs.declared.root.RootValues.{RootValues}
use Rattle.blz_entry.specs.declared.root.UnitRoot.{UnitRoot}
use Rattle.blz_info.specs.declared.section.Sections.{Sections}
use Rattle.blz_info.specs.declared.units.UnitHeader.{UnitHeader}
use Rattle.blz_info.specs.declared.forms.value.AttrValue.{AttrValue}
use Rattle.blz_info.specs.declared.forms.value.AttrValue.TheVariants.{Addr, AddrIndex, SecOffset}

-- the attributes of the entry at a place, which has to be one
unfoldable pub root_attributes : Source → ℕ → Option (List (ℕ × AttrValue))
root_attributes u at = do
  code ← uleb u.section.bytes at
  if code.0 == 0 then None else (do
    a ← of_code code.0 u.table
    values ← attributes a.specs u.encoding u.base u.section code.1
    Some values.0)

-- Of the language the first counts, and of each other the last.
abbrev pub first_of : Option AttrValue → AttrValue → Option AttrValue
first_of None v = Some v
first_of (Some old) v = Some old

-- the last that is an offset
abbrev pub last_offset : Option ℕ → AttrValue → Option ℕ
last_offset old (SecOffset n) = Some n
last_offset old _ = old

-- one attribute more: DW_AT_name (03), DW_AT_stmt_list (10), DW_AT_language (13), DW_AT_comp_dir (1b),
-- DW_AT_str_offsets_base (72), DW_AT_addr_base (73), DW_AT_rnglists_base (74)
abbrev pub noted : RootValues → ℕ × AttrValue → RootValues
noted r a =
    if a.0 == dwarf.DW_AT_name then record r { name = Some a.1 } else (
    if a.0 == dwarf.DW_AT_stmt_list then record r { line = last_offset r.line a.1 } else (
    if a.0 == dwarf.DW_AT_language then record r { language = first_of r.language a.1 } else (
    if a.0 == dwarf.DW_AT_comp_dir then record r { comp_dir = Some a.1 } else (
    if a.0 == dwarf.DW_AT_str_offsets_base then record r { str_offsets_base = last_offset r.str_offsets_base a.1 } else (
    if a.0 == dwarf.DW_AT_addr_base then record r { addr_base = last_offset r.addr_base a.1 } else (
    if a.0 == dwarf.DW_AT_rnglists_base then record r { rnglists_base = last_offset r.rnglists_base a.1 } else r))))))

-- before the first attribute
abbrev pub nothing_noted : RootValues
nothing_noted = record { name = None; comp_dir = None; line = None; language = None; str_offsets_base = None; addr_base = None; rnglists_base = None }

-- A split unit of version 5 tells no bases: they lie behind the headers of its tables (DWARF 5 sections 7.25 and 7.26).
abbrev pub base_behind_header : Sections → UnitHeader → ℕ → ℕ → ℕ
base_behind_header s h narrow wide = if s.split && (h.version == 5) then (if h.wide then wide else narrow) else 0

-- before any attribute that gives addresses
abbrev pub no_ranges : RangeAttributes
no_ranges = record { low_pc = None; high_pc = None; size = None; ranges_offset = None }

-- the root without its name, its directory and its ranges; the line program and the ranges of a split unit are those of
-- its skeleton
abbrev pub based : Sections → UnitHeader → RootValues → UnitRoot
based s h r = record {
  name = None;
  comp_dir = None;
  line = if s.split then None else r.line;
  low_pc = 0;
  language = option_and_then udata r.language;
  str_offsets_base = unwrap_or r.str_offsets_base (base_behind_header s h 8 16);
  addr_base = unwrap_or r.addr_base 0;
  rnglists_base = unwrap_or r.rnglists_base (base_behind_header s h 12 20);
  ranges = no_ranges;
}

-- a name or a directory that cannot be read counts as absent
abbrev pub with_names : Sections → UnitHeader → RootValues → UnitRoot → UnitRoot
with_names s h r root = record root { name = option_and_then (string_of s h root) r.name; comp_dir = option_and_then (string_of s h root) r.comp_dir }

-- a value that gives an address, itself or by an index
abbrev pub is_address : AttrValue → Bool
is_address (Addr a) = true
is_address (AddrIndex index) = true
is_address _ = false

-- The ranges of the unit count from the last DW_AT_low_pc (11), and from 0 where that is no address.
abbrev pub low_behind : UnitRoot → RangeAttributes → ℕ × AttrValue → ℕ
low_behind root ranges a = if a.0 == dwarf.DW_AT_low_pc then (if is_address a.1 then unwrap_or ranges.low_pc 0 else 0) else root.low_pc

-- one attribute more of those that give the unit's addresses
unfoldable pub root_step : Sections → UnitHeader → UnitRoot → ℕ × AttrValue → Option UnitRoot
root_step s h root a = do
  ranges ← range_step s h root root.ranges a
  Some (record root { ranges = ranges; low_pc = low_behind root ranges a })

-- the same as a step, which does not fail
abbrev pub noted_step : RootValues → ℕ × AttrValue → Option RootValues
noted_step r a = Some (noted r a)

-- The root of a unit. The bases count for its name and its ranges wherever they stand among its attributes.
abbrev pub root_from : Sections → UnitHeader → List (ℕ × AttrValue) → RootValues → Option UnitRoot
root_from s h values noted_values =
    let root = with_names s h noted_values (based s h noted_values) in
    if s.split then Some root else fold_maybe (root_step s h) root values

-- the root of a unit, whose first entry has to be there
unfoldable pub root_of : Sections → UnitHeader → List Abbrev → Option UnitRoot
root_of s h table = do
  values ← root_attributes (source_of s h table) h.entries
  noted_values ← fold_maybe noted_step nothing_noted values
  root_from s h values noted_values

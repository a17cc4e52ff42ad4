-- What an entry is called and covers, and where it is called if it is an inlined call (DWARF 5 section 3.3.8.2).
use Rattle.std.specs.Prelude.{ℕ, ◌^◌, ◌%◌, Bool, ◌||◌, ◌&&◌, not, List, [], Option, Some, None, nat_lt, ◌==◌, if◌then◌else◌}
use Rattle.blz_constants.specs.declared.dwarf.TheConstants as dwarf
use Rattle.blz_model.specs.Reads.{◌>>=◌}
use Rattle.blz_info.specs.Abbrevs.{Abbrev, of_code}
use Rattle.blz_info.specs.Attributes.{attributes}
use Rattle.blz_entry.specs.Folds.{fold_maybe}
use Rattle.blz_info.specs.Forms.{udata}
use Rattle.blz_info.specs.Walks.{Walk, skipped_of}
use Rattle.blz_info.specs.declared.abbreviations.AttrSpec.{AttrSpec}
use Rattle.blz_entry.specs.declared.ranges.RangeAttributes.{RangeAttributes}
use Rattle.blz_info.specs.declared.text.StrPlace.{StrPlace}
use Rattle.blz_info.specs.declared.forms.value.AttrValue.{AttrValue}
use Rattle.blz_functions.specs.declared.description.CallSite.{CallSite}
use Rattle.blz_functions.specs.declared.description.Description.{Description}
use Rattle.blz_functions.specs.Leaves.{UnitParts, range_step_in, source_in}
use Rattle.blz_functions.specs.Naming.{name_step}

-- where the references of a unit lead
abbrev pub Refer : Type 0
Refer = AttrValue → Option (Option StrPlace)

-- the low 32 bits of a line or a column; 0 where there is none
abbrev pub low_bits : Option ℕ → ℕ
low_bits None = 0
low_bits (Some n) = n % 2 ^ 32

-- File 0 is a file in version 5 alone; another value that is none changes nothing.
abbrev pub kept_file : ℕ → Option ℕ → Option ℕ → Option ℕ
kept_file version old None = old
kept_file version old (Some file) = if nat_lt 0 file || version == 5 then Some file else old

-- DW_AT_call_file, DW_AT_call_line, DW_AT_call_column
abbrev pub with_call_site : ℕ → CallSite → ℕ × AttrValue → CallSite
with_call_site version s a =
    if a.0 == dwarf.DW_AT_call_file then record s { file = kept_file version s.file (udata a.1) } else (
    if a.0 == dwarf.DW_AT_call_line then record s { line = low_bits (udata a.1) } else (
    if a.0 == dwarf.DW_AT_call_column then record s { column = low_bits (udata a.1) } else s))

-- before any attribute that gives addresses
abbrev pub no_ranges : RangeAttributes
no_ranges = record { low_pc = None; high_pc = None; size = None; ranges_offset = None }

-- before the first attribute
abbrev pub undescribed : Description
undescribed = record { name = None; ranges = no_ranges; site = record { file = None; line = 0; column = 0 } }

-- DW_AT_low_pc, DW_AT_high_pc and DW_AT_ranges
abbrev pub tells_range : ℕ → Bool
tells_range name = (name == dwarf.DW_AT_low_pc) || ((name == dwarf.DW_AT_high_pc) || (name == dwarf.DW_AT_ranges))

-- DW_AT_call_file, DW_AT_call_line and DW_AT_call_column
abbrev pub tells_site : ℕ → Bool
tells_site name = (name == dwarf.DW_AT_call_file) || ((name == dwarf.DW_AT_call_line) || (name == dwarf.DW_AT_call_column))

-- one attribute more
unfoldable pub description_step : Refer → UnitParts → Description → ℕ × AttrValue → Option Description
description_step refer u d a = do
  name ← name_step refer u d.name a
  ranges ← range_step_in u d.ranges a
  Some (record { name = name; ranges = ranges; site = with_call_site u.header.version d.site a })

-- the description behind some attributes at a place, and the place behind them
unfoldable pub described : Refer → UnitParts → Description → List AttrSpec → ℕ → Option (Description × ℕ)
described refer u d specs at = do
  values ← attributes specs (source_in u).encoding (source_in u).base (source_in u).section at
  behind ← fold_maybe (description_step refer u) d values.0
  Some (behind, values.1)

-- ---- an entry that a walk has met

-- the attributes that the walk has not read there
abbrev pub specs_by : Option Abbrev → List AttrSpec
specs_by None = []
specs_by (Some a) = a.specs

abbrev pub specs_of : UnitParts → ℕ → List AttrSpec
specs_of u code = if code == 0 then [] else specs_by (of_code code u.table)

abbrev pub undescribed_to : ℕ → Option (Option Description × ℕ)
undescribed_to place = Some (None, place)

abbrev pub described_to : ℕ → Description → Option (Option Description × ℕ)
described_to place d = Some (Some d, place)

abbrev pub described_by : Refer → UnitParts → ℕ → Option Abbrev → Option (Option Description × ℕ)
described_by refer u at None = None
described_by refer u at (Some a) = described refer u undescribed a.specs at >>= λ d. described_to d.1 d.0

-- The description of an entry where it is wanted, and the place behind its attributes. A zero has none.
unfoldable pub described_if : Refer → UnitParts → Bool → ℕ → Walk → Option (Option Description × ℕ)
described_if refer u wanted code w =
    if wanted && not (code == 0) then described_by refer u w.place (of_code code u.table) else (skipped_of w >>= λ r. undescribed_to r.1.place)

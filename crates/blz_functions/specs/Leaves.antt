-- What is read from the sections of a file, without where they lie in memory.
use Rattle.std.specs.Prelude.{ℕ, List, Option, option_map}
use Rattle.blz_info.specs.Abbrevs.{Abbrev}
use Rattle.blz_info.specs.Contents.{Contents}
use Rattle.blz_entry.specs.RangeLists.{range_step, ranges_of}
use Rattle.blz_entry.specs.StringPlaces.{string_of}
use Rattle.blz_info.specs.Walks.{Source, source_of}
use Rattle.blz_entry.specs.declared.ranges.RangeAttributes.{RangeAttributes}
use Rattle.blz_entry.specs.declared.root.UnitRoot.{UnitRoot}
use Rattle.blz_info.specs.declared.section.Section.{Section}
use Rattle.blz_info.specs.declared.section.Sections.{Sections}
use Rattle.blz_ranges.specs.declared.span.Span.{Span}
use Rattle.blz_info.specs.declared.text.StrPlace.{StrPlace}
use Rattle.blz_info.specs.declared.units.UnitHeader.{UnitHeader}
use Rattle.blz_info.specs.declared.forms.value.AttrValue.{AttrValue}
use Rattle.blz_info.specs.FileSections.{FileSections}

-- a section that lies anywhere
abbrev pub at_rest : Contents → Section
at_rest c = record { bytes = record { ref_ptr = (0, 0); now = c.bytes }; relocations = record { ref_ptr = (0, 0); now = c.relocations }; order = c.order }

-- sections that lie anywhere
abbrev pub lying : FileSections → Sections
lying f = record {
  «abbrev» = at_rest f.«abbrev»;
  addr = at_rest f.addr;
  aranges = at_rest f.aranges;
  info = at_rest f.info;
  line = at_rest f.line;
  line_str = at_rest f.line_str;
  ranges = at_rest f.ranges;
  rnglists = at_rest f.rnglists;
  strings = at_rest f.strings;
  str_offsets = at_rest f.str_offsets;
  sup_strings = option_map at_rest f.sup_strings;
  shift = f.shift;
  split = f.split;
  sup = f.sup;
}

-- A unit with what its entries are read by: its sections, its header, its abbreviations and its root.
pub record UnitParts : Type 0 where
  pub sections : FileSections
  pub header : UnitHeader
  pub table : List Abbrev
  pub root : UnitRoot

-- the string of a value of a unit, where it has one that can be read
unfoldable pub string_in : UnitParts → AttrValue → Option StrPlace
string_in u v = string_of (lying u.sections) u.header u.root v

-- one attribute more of those that give the addresses of an entry
unfoldable pub range_step_in : UnitParts → RangeAttributes → ℕ × AttrValue → Option RangeAttributes
range_step_in u r a = range_step (lying u.sections) u.header u.root r a

-- the ranges that the attributes of an entry give
unfoldable pub ranges_in : UnitParts → RangeAttributes → Option (List Span)
ranges_in u r = ranges_of r (lying u.sections) u.header u.root

-- what the entries of a unit are read from
abbrev pub source_in : UnitParts → Source
source_in u = source_of (lying u.sections) u.header u.table

-- Where a string stands (DWARF 5 sections 7.5.5 and 7.26).
use Rattle.std.specs.Prelude.{ℕ, ◌+◌, ◌*◌, length, Option, Some, None, if◌then◌else◌}
use Rattle.blz_model.specs.Reads.{◌>>=◌}
use Rattle.blz_bytes.specs.Pieces.{zero_ended}
use Rattle.blz_info.specs.Contents.{Contents, section_view, offset_at, offset_len}
use Rattle.blz_entry.specs.declared.root.UnitRoot.{UnitRoot}
use Rattle.blz_info.specs.declared.section.Section.{Section}
use Rattle.blz_info.specs.declared.section.Sections.{Sections}
use Rattle.blz_info.specs.declared.text.StrPart.{StrPart}
use Rattle.blz_info.specs.declared.text.StrPart.TheVariants.{Strings, LineStr, SupStrings, PackStrings, SupLineStr}
use Rattle.blz_info.specs.declared.text.StrPlace.{StrPlace}
use Rattle.blz_info.specs.declared.units.UnitHeader.{UnitHeader}
use Rattle.blz_info.specs.declared.forms.value.AttrValue.{AttrValue}
use Rattle.blz_info.specs.declared.forms.value.AttrValue.TheVariants.{Text, StrRef, LineStrRef, StrIndex, SupStr}

-- the text at an offset of a section, up to its zero
unfoldable pub text_in : StrPart → Contents → ℕ → Option StrPlace
text_in part s offset = do
  text ← zero_ended s.bytes offset
  Some (record { part = part; start = offset; len = length text.0 })

-- Where the strings of some sections stand: those of a split unit in its package, and the supplementary file's there.
abbrev pub strings_part : Sections → StrPart
strings_part s = if s.split then PackStrings else (if s.sup then SupStrings else Strings)

-- where the strings of `.debug_line_str` are: in the main file, or in the supplementary file
abbrev pub line_str_part : Sections → StrPart
line_str_part s = if s.sup then SupLineStr else LineStr

-- The strings of the supplementary file, which has none of a further one.
abbrev pub sup_string : Option Section → ℕ → Option StrPlace
sup_string None offset = None
sup_string (Some strings) offset = text_in SupStrings (section_view strings) offset

-- the string at an index of the unit's offsets
unfoldable pub indexed_string : Sections → UnitHeader → UnitRoot → ℕ → Option StrPlace
indexed_string s h root index = do
  offset ← offset_at h.wide (section_view s.str_offsets) (root.str_offsets_base + index * offset_len h.wide)
  text_in (strings_part s) (section_view s.strings) offset.0

-- the string of a value, where it has one that can be read
unfoldable pub string_of : Sections → UnitHeader → UnitRoot → AttrValue → Option StrPlace
string_of s h root (Text place) = Some place
string_of s h root (StrRef offset) = text_in (strings_part s) (section_view s.strings) offset
string_of s h root (LineStrRef offset) = text_in (line_str_part s) (section_view s.line_str) offset
string_of s h root (SupStr offset) = if s.sup then None else sup_string s.sup_strings offset
string_of s h root (StrIndex index) = indexed_string s h root index
string_of s h root _ = None

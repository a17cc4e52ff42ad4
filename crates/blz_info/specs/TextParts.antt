-- The sections that have texts.
use Rattle.std.specs.Prelude.{ℕ, ◌+◌, List, slice_range}
use Rattle.blz_info.specs.declared.text.Texts.{Texts}
use Rattle.blz_info.specs.declared.text.StrPart.{StrPart}
use Rattle.blz_info.specs.declared.text.StrPlace.{StrPlace}
use Rattle.blz_info.specs.declared.text.StrPart.TheVariants.{Info, Line, Strings, LineStr, SupStrings, PackInfo, PackStrings, SupInfo, SupLineStr}

-- the bytes of a section
abbrev pub part_of : Texts → StrPart → List ℕ
part_of t Info = t.info.now
part_of t Line = t.line.now
part_of t Strings = t.strings.now
part_of t LineStr = t.line_str.now
part_of t SupStrings = t.sup_strings.now
part_of t PackInfo = t.pack_info.now
part_of t PackStrings = t.pack_strings.now
part_of t SupInfo = t.sup_info.now
part_of t SupLineStr = t.sup_line_str.now

-- the bytes of a text; of a place that passes its section's end those that lie inside
abbrev pub text_of : Texts → StrPlace → List ℕ
text_of t p = slice_range (part_of t p.part) p.start (p.start + p.len)

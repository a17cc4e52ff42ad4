-- What the debug information of an image in the code stands for.
use Rattle.std.specs.Prelude.{◌≡◌, ◌<◌, ◌^◌, false, length}
use Rattle.blz_info.specs.declared.section.Sections.{Sections}
use Rattle.blz_resolver.specs.declared.debug.debug_data.DebugData.{DebugData}
use Rattle.blz_resolver.specs.declared.debug.debug_data.SectionData.{SectionData}
use Rattle.blz_resolver.specs.declared.debug.debug_image.DebugImage as image
use Rattle.blz_resolver.specs.DebugSections.{Located, DebugParts, DebugImage}

abbrev pub located_view : SectionData → Located
located_view s = record { bytes = s.bytes.now; number = s.number }

abbrev pub parts_view : DebugData → DebugParts
parts_view d = record {
  «abbrev» = located_view d.«abbrev»;
  addr = located_view d.addr;
  aranges = located_view d.aranges;
  info = located_view d.info;
  line = located_view d.line;
  line_str = located_view d.line_str;
  ranges = located_view d.ranges;
  rnglists = located_view d.rnglists;
  strings = located_view d.strings;
  str_offsets = located_view d.str_offsets;
  order = d.order;
}

abbrev pub debug_view : image.DebugImage → DebugImage
debug_view d = record { parts = parts_view d.«data»; relocations = d.relocations }

-- sections that begin where those of their file do, and no part of a package
pub record IsWholeFile (s : Sections) : Type 0 where
  pub short : length s.info.bytes.now < 2 ^ 63
  pub at_start : s.shift ≡ 0
  pub not_split : s.split ≡ false

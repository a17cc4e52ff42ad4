-- The sections that a unit is read from, without where they lie in memory.
use Rattle.std.specs.Prelude.{ℕ, Bool, Option, option_map}
use Rattle.blz_info.specs.Contents.{Contents, section_view}
use Rattle.blz_info.specs.declared.section.Sections.{Sections}

-- the sections of a unit; `shift` is where the `info` of a split unit begins in its package's, and else 0
pub record FileSections : Type 0 where
  pub «abbrev» : Contents
  pub addr : Contents
  pub aranges : Contents
  pub info : Contents
  pub line : Contents
  pub line_str : Contents
  pub ranges : Contents
  pub rnglists : Contents
  pub strings : Contents
  pub str_offsets : Contents
  pub sup_strings : Option Contents
  pub shift : ℕ
  pub split : Bool
  pub sup : Bool

abbrev pub sections_view : Sections → FileSections
sections_view s = record {
  «abbrev» = section_view s.«abbrev»;
  addr = section_view s.addr;
  aranges = section_view s.aranges;
  info = section_view s.info;
  line = section_view s.line;
  line_str = section_view s.line_str;
  ranges = section_view s.ranges;
  rnglists = section_view s.rnglists;
  strings = section_view s.strings;
  str_offsets = section_view s.str_offsets;
  sup_strings = option_map section_view s.sup_strings;
  shift = s.shift;
  split = s.split;
  sup = s.sup;
}

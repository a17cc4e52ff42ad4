-- The sections of debug information of an image (DWARF 5 appendix B, and .debug_ranges of DWARF 4).
use Rattle.std.specs.Prelude.{ℕ, List, [], ◌∷◌, Option, Some, None, codes, false}
use Rattle.std.specs.FinMap as map
use Rattle.blz_model.specs.declared.byte_order.ByteOrder.{ByteOrder}
use Rattle.blz_model.specs.Part.{Part, Good, ◌>>=◌}
use Rattle.blz_image.specs.Images.{elf_of, image_order, image_section, image_section_data, image_data_named}
use Rattle.blz_relocations.specs.Relocations.{OffsetMap, SectionMap, maps_of, section_map}
use Rattle.blz_image.specs.RelocationTables.{image_relocations}
use Rattle.blz_info.specs.Contents.{Contents}
use Rattle.blz_info.specs.FileSections.{FileSections}
use Rattle.blz_resolver.specs.declared.debug.debug_section.DebugSection.{DebugSection}
use Rattle.blz_resolver.specs.declared.debug.debug_section.DebugSection.TheVariants.{Abbrev, Addr, Aranges, Info, Line, LineStr, Ranges, RngLists, Strings, StrOffsets}

-- the name of a section
unfoldable pub name_of : DebugSection → List ℕ
name_of Abbrev = codes ".debug_abbrev"
name_of Addr = codes ".debug_addr"
name_of Aranges = codes ".debug_aranges"
name_of Info = codes ".debug_info"
name_of Line = codes ".debug_line"
name_of LineStr = codes ".debug_line_str"
name_of Ranges = codes ".debug_ranges"
name_of RngLists = codes ".debug_rnglists"
name_of Strings = codes ".debug_str"
name_of StrOffsets = codes ".debug_str_offsets"

-- the bytes of a section, and its number in the section table
pub record Located : Type 0 where
  pub bytes : List ℕ
  pub number : Option ℕ

-- a section of an image; one that is not there has no bytes and no number
unfoldable pub located : List ℕ → DebugSection → Part Located
located image section = do
  bytes ← image_data_named image (name_of section)
  number ← image_section image (name_of section)
  Good (record { bytes = bytes; number = number })

-- the data of a section by its number, nothing where there is none
abbrev pub data_numbered : List ℕ → Option ℕ → Part (List ℕ)
data_numbered image None = Good []
data_numbered image (Some number) = image_section_data image number

-- the sections of debug information, and the byte order of their numbers
pub record DebugParts : Type 0 where
  pub «abbrev» : Located
  pub addr : Located
  pub aranges : Located
  pub info : Located
  pub line : Located
  pub line_str : Located
  pub ranges : Located
  pub rnglists : Located
  pub strings : Located
  pub str_offsets : Located
  pub order : ByteOrder

-- all of them, in this order
unfoldable pub debug_parts : List ℕ → Part DebugParts
debug_parts image = do
  order ← image_order image
  abbreviations ← located image Abbrev
  addr ← located image Addr
  aranges ← located image Aranges
  info ← located image Info
  line ← located image Line
  line_str ← located image LineStr
  ranges ← located image Ranges
  rnglists ← located image RngLists
  strings ← located image Strings
  str_offsets ← located image StrOffsets
  Good (record { «abbrev» = abbreviations; addr = addr; aranges = aranges; info = info; line = line; line_str = line_str; ranges = ranges; rnglists = rnglists; strings = strings; str_offsets = str_offsets; order = order })

-- ---- with the relocations of the image (ELF gABI, Relocation)

-- the relocations of a section, none of one that is not there
abbrev pub relocations_of : SectionMap → Option ℕ → OffsetMap
relocations_of relocations None = map.empty
relocations_of relocations (Some number) = section_map relocations number

-- a section with its relocations, in the byte order of its image
abbrev pub contents_with : ByteOrder → SectionMap → Located → Contents
contents_with order relocations s = record { bytes = s.bytes; relocations = relocations_of relocations s.number; order = order }

-- all of them with their relocations, as those of a main file: neither a split unit's nor a supplementary file's
abbrev pub sections_in : DebugParts → SectionMap → FileSections
sections_in p relocations = record {
  «abbrev» = contents_with p.order relocations p.«abbrev»;
  addr = contents_with p.order relocations p.addr;
  aranges = contents_with p.order relocations p.aranges;
  info = contents_with p.order relocations p.info;
  line = contents_with p.order relocations p.line;
  line_str = contents_with p.order relocations p.line_str;
  ranges = contents_with p.order relocations p.ranges;
  rnglists = contents_with p.order relocations p.rnglists;
  strings = contents_with p.order relocations p.strings;
  str_offsets = contents_with p.order relocations p.str_offsets;
  sup_strings = None;
  shift = 0;
  split = false;
  sup = false;
}

-- the numbers of the sections, of those that are there
abbrev pub section_numbers : DebugParts → List (Option ℕ)
section_numbers p = p.«abbrev».number ∷ p.addr.number ∷ p.aranges.number ∷ p.info.number ∷ p.line.number ∷ p.line_str.number ∷ p.ranges.number ∷ p.rnglists.number ∷ p.strings.number ∷ p.str_offsets.number ∷ []

-- The debug information of an image: its header, section table and section names come first, then its relocations. Of these
-- it has those of its sections.
pub record DebugImage : Type 0 where
  pub parts : DebugParts
  pub relocations : SectionMap

-- the debug information of an image; marks come in the order above, those of its sections last
unfoldable pub debug_image : List ℕ → Part DebugImage
debug_image image = do
  elf ← elf_of image
  relocations ← image_relocations image
  parts ← debug_parts image
  Good (record { parts = parts; relocations = maps_of (section_numbers parts) relocations })

-- the sections that entries are read from
abbrev pub sections_of : DebugImage → FileSections
sections_of d = sections_in d.parts d.relocations

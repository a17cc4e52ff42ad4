-- The names of the sections of a package (DWARF 5 section 7.3.5.1).
use Rattle.std.specs.Prelude.{ℕ, List, codes}
use Rattle.blz_split.specs.declared.dwo_section.DwoSection.{DwoSection}
use Rattle.blz_split.specs.declared.dwo_section.DwoSection.TheVariants.{Abbrev, Index, Info, RngLists, Strings, StrOffsets}

-- the name of a section
unfoldable pub name_of : DwoSection → List ℕ
name_of Abbrev = codes ".debug_abbrev.dwo"
name_of Index = codes ".debug_cu_index"
name_of Info = codes ".debug_info.dwo"
name_of RngLists = codes ".debug_rnglists.dwo"
name_of Strings = codes ".debug_str.dwo"
name_of StrOffsets = codes ".debug_str_offsets.dwo"

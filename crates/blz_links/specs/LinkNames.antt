-- The names of the sections that lead to other files.
use Rattle.std.specs.Prelude.{ℕ, List, codes}
use Rattle.blz_links.specs.declared.recorded.link_section.LinkSection.{LinkSection}
use Rattle.blz_links.specs.declared.recorded.link_section.LinkSection.TheVariants.{DebugLink, DebugAltlink, DebugSup}

-- the name of a section
unfoldable pub name_of : LinkSection → List ℕ
name_of DebugLink = codes ".gnu_debuglink"
name_of DebugAltlink = codes ".gnu_debugaltlink"
name_of DebugSup = codes ".debug_sup"

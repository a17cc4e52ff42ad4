-- A unit whose entries are read, without where it lies in memory.
use Rattle.std.specs.Prelude.{◌+◌, ◌^◌, ◌<◌, ◌≤◌, length}
use Rattle.blz_info.specs.FileSections.{sections_view}
use Rattle.blz_functions.specs.declared.open_unit.OpenUnit.{OpenUnit}
use Rattle.blz_functions.specs.Leaves.{UnitParts}

abbrev pub open_view : OpenUnit → UnitParts
open_view u = record { sections = sections_view u.sections; header = u.header; table = u.abbreviations.now; root = u.root }

-- Its entries lie in their section, and the places of its texts are numbers of the machine.
pub record CanBeOpened (u : OpenUnit) : Type 0 where
  pub fits : u.sections.shift + length u.sections.info.bytes.now < 2 ^ 64
  pub ordered : u.header.entries ≤ u.header.end

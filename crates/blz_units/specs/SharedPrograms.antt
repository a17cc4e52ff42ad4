-- The line programs that units share: each is what every unit finds that reads it so.
use Rattle.std.specs.Prelude.{◌≡◌, ℕ, Option, IfSome, option_map}
use Rattle.std.specs.BTreeMap.{get}
use Rattle.std.specs.declared.cmp.Ordering.{Ordering}
use Rattle.blz_entry.specs.declared.root.UnitRoot.{UnitRoot}
use Rattle.blz_functions.specs.Leaves.{lying}
use Rattle.blz_info.specs.FileSections.{FileSections}
use Rattle.blz_info.specs.declared.units.UnitHeader.{UnitHeader}
use Rattle.blz_line.specs.ProgramTables.{OrderedProgram, program_at}
use Rattle.blz_units.specs.contracts.shared.program_key.ProgramKeyOrd.TheImpl as order
use Rattle.blz_units.specs.declared.shared.program_key.LinesKey.{LinesKey}
use Rattle.blz_units.specs.declared.shared.program_key.ProgramKey.{ProgramKey}
use Rattle.blz_units.specs.declared.shared.shared_programs.SharedPrograms.{SharedPrograms}

-- how a unit reads a line program, besides its offset
abbrev pub lines_key : UnitHeader → UnitRoot → LinesKey
lines_key h r = record { address_size = h.address_size; wide = h.wide; str_offsets_base = r.str_offsets_base }

abbrev pub program_key : UnitHeader → UnitRoot → ℕ → ProgramKey
program_key h r at = record { lines = lines_key h r; offset = at }

-- keys stand in the order of their fields
abbrev pub program_cmp : ProgramKey → ProgramKey → Ordering
program_cmp = order.ghosts.cmp

-- what the line program at an offset gives, for each unit that reads it so
abbrev pub IsProgramAt : FileSections → ProgramKey → Option OrderedProgram → Type 0
IsProgramAt s key program = (h : UnitHeader) (r : UnitRoot) → lines_key h r ≡ key.lines
    → program_at (lying s) h r key.offset ≡ option_map (λ (p : OrderedProgram). p.table) program

abbrev pub ArePrograms : FileSections → SharedPrograms → Type 0
ArePrograms s programs = (key : ProgramKey) → IfSome (get program_cmp programs.kept key) (IsProgramAt s key)

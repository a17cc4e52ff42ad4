-- What the units of some sections share: tables of abbreviations, headers of line programs, and line programs.
use Rattle.std.specs.Prelude.{◌≡◌, ℕ, ◌+◌, ◌*◌, ◌==◌, List, Option, Some, IfSome, option_map, if◌then◌else◌}
use Rattle.std.specs.Arc.{arc_value}
use Rattle.std.specs.BTreeMap.{get}
use Rattle.std.specs.Ordering.{nat_cmp, ordering_then}
use Rattle.std.specs.declared.cmp.Ordering.{Ordering}
use Rattle.blz_info.specs.AbbreviationTables.{abbreviations}
use Rattle.blz_info.specs.Abbrevs.{Abbrev}
use Rattle.blz_info.specs.FileSections.{FileSections}
use Rattle.blz_info.specs.declared.units.UnitHeader.{UnitHeader}
use Rattle.blz_units.specs.declared.shared.shared_parts.SharedParts.{SharedParts}
use Rattle.blz_units.specs.BuiltUnits.{line_header}
use Rattle.blz_units.specs.SharedPrograms.{ArePrograms}

-- the sizes of the fields of a unit as one number
abbrev pub sizes_of : UnitHeader → ℕ
sizes_of h = h.version * 4 + (if h.wide then 2 else 0) + (if h.address_size == 8 then 1 else 0)

-- tables stand in the order of the sizes that they are ready for, and then of their offsets
abbrev pub table_cmp : ℕ × ℕ → ℕ × ℕ → Ordering
table_cmp x y = ordering_then (nat_cmp x.0 y.0) (nat_cmp x.1 y.1)

abbrev pub table_key : UnitHeader → ℕ × ℕ
table_key h = (sizes_of h, h.«abbrev»)

-- the table that is kept of a unit
abbrev pub table_kept : SharedParts → UnitHeader → Option (List Abbrev)
table_kept p h = option_map arc_value (get table_cmp p.tables (table_key h))

-- What is kept is what stands at its offset.
pub record AreShared (s : FileSections) (p : SharedParts) : Type 0 where
  pub tables : (key : ℕ × ℕ) → IfSome (get table_cmp p.tables key) (λ table. abbreviations s.«abbrev».bytes key.1 ≡ Some (arc_value table))
  pub headers : (at : ℕ) → IfSome (get nat_cmp p.headers at) (λ size. line_header s at size ≡ Some tt)
  pub programs : ArePrograms s p.programs

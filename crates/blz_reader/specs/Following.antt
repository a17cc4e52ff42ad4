-- How a reference is followed, one entry after the other (DWARF 5 section 7.5.5, class reference).
use Rattle.std.specs.Prelude.{ℕ, zero, suc, ◌+◌, Bool, Option, Some, None, is_some, if◌then◌else◌}
use Rattle.std.specs.Coded.{Coded, coded_ℕ}
use Rattle.std.specs.FinMap as map
use Rattle.std.specs.Option.{option_map}
use Rattle.blz_relocations.specs.Relocations.{OffsetMap, relocation_code}
use Rattle.blz_model.specs.Reads.{◌>>=◌}
use Rattle.blz_info.specs.declared.text.StrPlace.{StrPlace}
use Rattle.blz_info.specs.declared.forms.value.AttrValue.{AttrValue}
use Rattle.blz_info.specs.declared.forms.value.AttrValue.TheVariants.{UnitRef, InfoRef, SupRef}
use Rattle.blz_units.specs.declared.built_units.Side.{Side}
use Rattle.blz_units.specs.declared.built_units.Side.TheVariants.{File, Sup}
use Rattle.blz_reader.specs.declared.references.Standing.{Standing}
use Rattle.blz_reader.specs.declared.references.Standing.TheVariants.{Own, Numbered}
use Rattle.blz_reader.specs.declared.references.Reference.{Reference}
use Rattle.blz_reader.specs.declared.references.Followed.{Followed}
use Rattle.blz_reader.specs.declared.references.Followed.TheVariants.{Name, On}
use Rattle.blz_reader.specs.declared.references.SeenEntry.{SeenEntry}
use Rattle.blz_functions.specs.declared.referred.Visited.{Visited}
use Rattle.blz_functions.specs.declared.referred.Visited.TheVariants.{Named, Leads, Nameless}
use Rattle.blz_units.specs.BuiltUnits.{Files}
use Rattle.blz_units.specs.KeptParts.{unit_of, headers_of}
use Rattle.blz_functions.specs.Leaves.{UnitParts}
use Rattle.blz_functions.specs.Naming.{visited}
use Rattle.blz_reader.specs.Linkage.{Linked}
use Rattle.blz_functions.specs.References.{unit_at}
use Rattle.blz_units.specs.UnitTables.{UnitTable}

-- by which proofs tell maps of relocations apart
abbrev pub relocations_code : Coded OffsetMap
relocations_code = map.code coded_ℕ relocation_code

abbrev pub unit_in : Linked → Standing → Option UnitParts
unit_in l Own = Some l.unit
unit_in l (Numbered side k) = unit_of l.files side (headers_of side l.table) k

-- an entry: its unit, and its distance from the unit's start
abbrev pub Target : Type 0
Target = Standing × ℕ

abbrev pub placed_in : Side → ℕ × ℕ → Option Target
placed_in side p = Some (Numbered side p.0, p.1)

abbrev pub target_in : Linked → Side → ℕ → Option (Option Target)
target_in l side offset = option_map (placed_in side) (unit_at (headers_of side l.table) offset)

-- the file that an offset of a file's own counts in
abbrev pub own_side : Bool → Side
own_side sup = if sup then Sup else File

-- the entry that a value refers to, where it refers to one
abbrev pub target_by : Linked → Standing → Bool → AttrValue → Option (Option Target)
target_by l unit sup (UnitRef distance) = Some (Some (unit, distance))
target_by l unit sup (InfoRef offset) = target_in l (own_side sup) offset
target_by l unit sup (SupRef offset) = if sup then Some None else (if is_some l.files.sup then target_in l Sup offset else Some None)
target_by l unit sup _ = Some None

abbrev pub target_of : Linked → Reference → Option (Option Target)
target_of l r = target_by l r.unit r.sup r.value

-- what an entry gives by what it tells: a name, none, or a further reference
abbrev pub given : Standing → Bool → Visited → Followed
given unit sup (Named name) = Name (Some name)
given unit sup Nameless = Name None
given unit sup (Leads value) = On (record { unit = unit; sup = sup; value = value })

abbrev pub given_by : Standing → SeenEntry → Option Followed
given_by unit e = Some (given unit e.sup e.visited)

abbrev pub seen_by : UnitParts → Visited → SeenEntry
seen_by u v = record { sup = u.sections.sup; visited = v }

-- what the entry at a distance from the start of a unit tells of a name
abbrev pub seen_in : ℕ → UnitParts → Option SeenEntry
seen_in distance u = visited u (u.header.start + distance) >>= λ v. Some (seen_by u v)

-- the same of a unit of a file, by its number
abbrev pub numbered_seen : Files → UnitTable → Side → ℕ → ℕ → Option SeenEntry
numbered_seen f t side k distance = unit_of f side (headers_of side t) k >>= seen_in distance

-- the same by where the unit stands
unfoldable pub told_by : Linked → Standing → ℕ → Option SeenEntry
told_by l unit distance = unit_in l unit >>= seen_in distance

-- what an entry gives
unfoldable pub entry_given : Linked → Standing → ℕ → Option Followed
entry_given l unit distance = told_by l unit distance >>= given_by unit

abbrev pub followed : Linked → Option Target → Option Followed
followed l None = Some (Name None)
followed l (Some p) = entry_given l p.0 p.1

-- one entry more
unfoldable pub step_of : Linked → Reference → Option Followed
step_of l r = target_of l r >>= followed l

abbrev pub going : (Reference → Option (Option StrPlace)) → Followed → Option (Option StrPlace)
going go (Name name) = Some name
going go (On next) = go next

-- the name that a reference leads to, over at most n entries
unfoldable pub name_over : ℕ → Linked → Reference → Option (Option StrPlace)
name_over zero l r = Some None
name_over (suc n) l r = step_of l r >>= going (λ next. name_over n l next)

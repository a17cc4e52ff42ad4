-- Where references lead, and the names that they give (DWARF 5 section 7.5.5, class reference).
use Rattle.std.specs.Prelude.{ℕ, zero, suc, ◌+◌, ◌-◌, Bool, ◌&&◌, List, [], ◌∷◌, Option, Some, None, nat_lt, nat_le, if◌then◌else◌}
use Rattle.blz_model.specs.Reads.{◌>>=◌}
use Rattle.blz_info.specs.declared.text.StrPlace.{StrPlace}
use Rattle.blz_info.specs.declared.units.UnitHeader.{UnitHeader}
use Rattle.blz_info.specs.declared.forms.value.AttrValue.{AttrValue}
use Rattle.blz_info.specs.declared.forms.value.AttrValue.TheVariants.{UnitRef, InfoRef, SupRef}
use Rattle.blz_functions.specs.declared.referred.Visited.{Visited}
use Rattle.blz_functions.specs.declared.referred.Visited.TheVariants.{Named, Leads, Nameless}
use Rattle.blz_functions.specs.Leaves.{UnitParts}
use Rattle.blz_functions.specs.Naming.{visited}

-- the later of two units
abbrev pub later : Option (ℕ × UnitHeader) → Option (ℕ × UnitHeader) → Option (ℕ × UnitHeader)
later first None = first
later first (Some u) = Some u

-- The last unit that does not begin above an offset, with its number; n units stand before the list. Units stand in the
-- order of their starts.
unfoldable pub last_to : ℕ → List UnitHeader → ℕ → Option (ℕ × UnitHeader)
last_to n [] offset = None
last_to n (h ∷ rest) offset = later (if nat_le h.start offset then Some (n, h) else None) (last_to (n + 1) rest offset)

-- the distance of an offset from the start of a unit, among whose entries it has to lie
abbrev pub distance_in : ℕ → Option (ℕ × UnitHeader) → Option (ℕ × ℕ)
distance_in offset None = None
distance_in offset (Some u) = if nat_le u.1.entries offset && nat_lt offset u.1.end then Some (u.0, offset - u.1.start) else None

-- the number of the unit that an offset of its section leads into, and the offset's distance from its start
abbrev pub unit_at : List UnitHeader → ℕ → Option (ℕ × ℕ)
unit_at units offset = distance_in offset (last_to 0 units offset)

-- What references may lead to: the kept units, each as it is read, and the units of the supplementary file, if there is
-- one.
pub record Reach : Type 0 where
  pub kept : List UnitHeader
  pub reading : ℕ → Option UnitParts
  pub has_sup : Bool
  pub sups : List UnitHeader
  pub sup : ℕ → Option UnitParts

-- an entry: its unit and its place
abbrev pub EntryAt : Type 0
EntryAt = UnitParts × ℕ

-- the entry at an offset, by the number of its unit and its distance there; the offset has to lead to a unit
abbrev pub entry_in : (ℕ → Option UnitParts) → Option (ℕ × ℕ) → Option (Option EntryAt)
entry_in unit None = None
entry_in unit (Some r) = unit r.0 >>= λ u. Some (Some (u, u.header.start + r.1))

-- the entry that an offset of the main file's `.debug_info` leads to, in the unit as it is read
abbrev pub in_main : Reach → ℕ → Option (Option EntryAt)
in_main reach offset = entry_in reach.reading (unit_at reach.kept offset)

-- the entry that an offset of the supplementary file's `.debug_info` leads to
abbrev pub in_sup : Reach → ℕ → Option (Option EntryAt)
in_sup reach offset = entry_in reach.sup (unit_at reach.sups offset)

-- The entry that a value of a unit refers to, where it refers to one: in the unit itself, in the unit's own file, or
-- from the main file in the supplementary one.
unfoldable pub target : Reach → UnitParts → AttrValue → Option (Option EntryAt)
target reach u (UnitRef distance) = Some (Some (u, u.header.start + distance))
target reach u (InfoRef offset) = if u.sections.sup then in_sup reach offset else in_main reach offset
target reach u (SupRef offset) = if u.sections.sup then Some None else (if reach.has_sup then in_sup reach offset else Some None)
target reach u _ = Some None

-- the name by what an entry has: its own, none, or that to which its reference leads
abbrev pub go_on : (UnitParts → AttrValue → Option (Option StrPlace)) → UnitParts → Visited → Option (Option StrPlace)
go_on follow u (Named name) = Some (Some name)
go_on follow u Nameless = Some None
go_on follow u (Leads value) = follow u value

-- the name by the entry that is referred to; none where no entry is
abbrev pub visit_then : (UnitParts → AttrValue → Option (Option StrPlace)) → Option EntryAt → Option (Option StrPlace)
visit_then follow None = Some None
visit_then follow (Some e) = visited e.0 e.1 >>= go_on follow e.0

-- the name that a value of a unit leads to, over at most n entries
unfoldable pub referenced : ℕ → Reach → UnitParts → AttrValue → Option (Option StrPlace)
referenced zero reach u v = Some None
referenced (suc n) reach u v = target reach u v >>= visit_then (referenced n reach)

-- A name is looked for over at most 16 entries.
abbrev pub refer_from : Reach → UnitParts → AttrValue → Option (Option StrPlace)
refer_from reach u v = referenced 16 reach u v

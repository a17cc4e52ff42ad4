-- The name of a function or of an inlined call (DWARF 5 sections 2.15, 3.3.1, 3.3.8.2 and 2.13.2).
use Rattle.std.specs.Prelude.{ℕ, Bool, ◌&&◌, ◌||◌, List, [], ◌∷◌, Option, Some, None, nat_le, ◌==◌, if◌then◌else◌}
use Rattle.blz_constants.specs.declared.dwarf.TheConstants as dwarf
use Rattle.blz_model.specs.Reads.{◌>>=◌}
use Rattle.blz_model.specs.LebNumbers.{uleb}
use Rattle.blz_info.specs.Abbrevs.{of_code}
use Rattle.blz_info.specs.Attributes.{attribute}
use Rattle.blz_info.specs.declared.abbreviations.AttrSpec.{AttrSpec}
use Rattle.blz_info.specs.declared.text.StrPlace.{StrPlace}
use Rattle.blz_info.specs.declared.forms.value.AttrValue.{AttrValue}
use Rattle.blz_functions.specs.declared.referred.Visited.{Visited}
use Rattle.blz_functions.specs.declared.referred.Visited.TheVariants.{Named, Leads, Nameless}
use Rattle.blz_functions.specs.Leaves.{UnitParts, string_in, source_in}

-- DW_AT_linkage_name and DW_AT_MIPS_linkage_name
abbrev pub is_linkage_name : ℕ → Bool
is_linkage_name name = (name == dwarf.DW_AT_linkage_name) || (name == dwarf.DW_AT_MIPS_linkage_name)

-- DW_AT_name
abbrev pub is_name : ℕ → Bool
is_name name = name == dwarf.DW_AT_name

-- DW_AT_abstract_origin and DW_AT_specification
abbrev pub is_reference : ℕ → Bool
is_reference name = (name == dwarf.DW_AT_abstract_origin) || (name == dwarf.DW_AT_specification)

-- the first of two that is there
abbrev pub or_else : {A : Type 0} → Option A → Option A → Option A
or_else None other = other
or_else (Some x) other = Some x

-- ---- an entry that is referred to

-- its name by DW_AT_name, or else where its reference leads
abbrev pub visit_end : Option StrPlace → Option AttrValue → Visited
visit_end (Some name) link = Named name
visit_end None (Some value) = Leads value
visit_end None None = Nameless

-- the linkage name that an attribute gives, where it is one and can be read
abbrev pub linkage_of : UnitParts → ℕ → AttrValue → Option StrPlace
linkage_of u name v = if is_linkage_name name then string_in u v else None

-- the name behind an attribute: a later DW_AT_name that can be read replaces an earlier one
abbrev pub name_behind : UnitParts → ℕ → AttrValue → Option StrPlace → Option StrPlace
name_behind u name v old = if is_name name then or_else (string_in u v) old else old

-- the name behind the last DW_AT_name of some, which was met and not looked for
abbrev pub told_name : UnitParts → Option AttrValue → Option StrPlace → Option StrPlace
told_name u None old = old
told_name u (Some v) old = or_else (string_in u v) old

-- the reference behind an attribute: a later one replaces an earlier one
abbrev pub link_behind : ℕ → AttrValue → Option AttrValue → Option AttrValue
link_behind name v old = if is_reference name then Some v else old

-- a linkage name that was found is the name; only without one do the attributes behind it count
abbrev pub unless_linked : Option StrPlace → Option Visited → Option Visited
unless_linked None rest = rest
unless_linked (Some name) rest = Some (Named name)

-- The attributes in their order: the first linkage name that can be read is the name, and nothing behind it is read.
-- Else the last name that can be read is, else the last reference leads on.
unfoldable pub visit_from : UnitParts → List AttrSpec → Option StrPlace → Option AttrValue → ℕ → Option Visited
visit_from u [] name link at = Some (visit_end name link)
visit_from u (a ∷ rest) name link at = do
  v ← attribute a (source_in u).encoding (source_in u).base (source_in u).section at
  unless_linked (linkage_of u a.name v.0) (visit_from u rest (name_behind u a.name v.0 name) (link_behind a.name v.0 link) v.1)

-- the entry at a place, which has to be one of the unit
unfoldable pub visited : UnitParts → ℕ → Option Visited
visited u place = if nat_le u.header.entries place && nat_le place u.header.end then (do
  code ← uleb (source_in u).section.bytes place
  a ← of_code code.0 u.table
  if code.0 == 0 then None else visit_from u a.specs None None code.1)
    else None

-- ---- the entry itself

-- a name that is known already; only without one is the reference followed
abbrev pub referred : (AttrValue → Option (Option StrPlace)) → Option StrPlace → AttrValue → Option (Option StrPlace)
referred refer (Some name) v = Some (Some name)
referred refer None v = refer v

-- One attribute more: a linkage name that can be read replaces; a name counts, and a reference is followed, while no
-- name is known.
unfoldable pub name_step : (AttrValue → Option (Option StrPlace)) → UnitParts → Option StrPlace → ℕ × AttrValue → Option (Option StrPlace)
name_step refer u name a =
    if is_linkage_name a.0 then Some (or_else (string_in u a.1) name) else (
    if is_name a.0 then Some (or_else name (string_in u a.1)) else (
    if is_reference a.0 then referred refer name a.1 else Some name))

-- What the relocations of a file in which sections have no addresses yet (ET_REL) do to the numbers that are read
-- (ELF gABI, Relocation).
use Rattle.std.specs.Prelude.{◌≡◌, ℕ, ◌+◌, ◌%◌, ◌^◌, Bool, true, false, cond, List, Option, Some, None, refl}
use Rattle.std.specs.Ordering.{nat_cmp}
use Rattle.std.specs.Coded.{Coded, code_by, coded×, coded_ℕ, coded_bool}
use Rattle.std.specs.FinMap as map
use Rattle.std.specs.List.{fold}
use Rattle.std.specs.Option.{unwrap_or}
use Rattle.blz_relocations.specs.declared.relocation.Relocation.{Relocation}
use Rattle.blz_relocations.specs.declared.relocation.Relocation.TheVariants.{Replaces, Adds}

-- an addend that stands in the entry (RELA) replaces what is read; one that stands in the field itself (REL) is added
abbrev pub relocation_of : ℕ → Bool → Relocation
relocation_of addend false = Replaces addend
relocation_of addend true = Adds addend

-- a relocation is stored as what it is made of
abbrev pub parts_of : Relocation → ℕ × Bool
parts_of (Replaces n) = (n, false)
parts_of (Adds n) = (n, true)

abbrev pub same_from_parts : (r : Relocation) → relocation_of (parts_of r).0 (parts_of r).1 ≡ r
same_from_parts (Replaces n) = refl
same_from_parts (Adds n) = refl

abbrev pub relocation_code : Coded Relocation
relocation_code = code_by (ℕ × Bool) (coded× coded_ℕ coded_bool) parts_of (λ p. relocation_of p.0 p.1) same_from_parts

-- the relocations of one section, by the offset of the field
abbrev pub OffsetMap : Type 0
OffsetMap = map.FinMap nat_cmp Relocation

-- the relocations of all sections, by the number of the section
abbrev pub SectionMap : Type 0
SectionMap = map.FinMap nat_cmp OffsetMap

-- the number after its relocation
abbrev pub relocated : Option Relocation → ℕ → ℕ
relocated None number = number
relocated (Some (Replaces n)) number = n
relocated (Some (Adds n)) number = (number + n) % 2 ^ 64

-- those of one section: none where there are none
abbrev pub section_map : SectionMap → ℕ → OffsetMap
section_map sections target = unwrap_or (map.get sections target) map.empty

-- one more
abbrev pub with_relocation : SectionMap → ℕ → ℕ → Relocation → SectionMap
with_relocation sections target offset relocation = map.insert sections target (map.insert (section_map sections target) offset relocation)

-- one more of a section, where the offset has none
abbrev pub with_absent : OffsetMap → ℕ → Relocation → OffsetMap
with_absent m offset relocation = cond (map.contains_key m offset) m (map.insert m offset relocation)

-- the relocations of one section more, where it is there
abbrev pub with_map : SectionMap → SectionMap → Option ℕ → SectionMap
with_map all m None = m
with_map all m (Some target) = map.insert m target (section_map all target)

-- of all relocations those of some sections
abbrev pub maps_of : List (Option ℕ) → SectionMap → SectionMap
maps_of targets all = fold (with_map all) map.empty targets

-- Addresses by their index (DWARF 5 section 7.27).
use Rattle.std.specs.Prelude.{ℕ, ◌+◌, ◌*◌, Option, Some, None, option_map}
use Rattle.blz_info.specs.Contents.{section_view, address_at}
use Rattle.blz_entry.specs.declared.root.UnitRoot.{UnitRoot}
use Rattle.blz_info.specs.declared.section.Sections.{Sections}
use Rattle.blz_info.specs.declared.units.UnitHeader.{UnitHeader}
use Rattle.blz_info.specs.declared.forms.value.AttrValue.{AttrValue}
use Rattle.blz_info.specs.declared.forms.value.AttrValue.TheVariants.{Addr, AddrIndex}

-- the address at an index of the unit's addresses
unfoldable pub address_of : Sections → UnitHeader → UnitRoot → ℕ → Option ℕ
address_of s h root index = option_map (λ a. a.0) (address_at h.address_size (section_view s.addr) (root.addr_base + index * h.address_size))

-- a value as an address, where it is one
unfoldable pub value_address : Sections → UnitHeader → UnitRoot → AttrValue → Option (Option ℕ)
value_address s h root (Addr a) = Some (Some a)
value_address s h root (AddrIndex index) = option_map (λ a. Some a) (address_of s h root index)
value_address s h root _ = Some None
